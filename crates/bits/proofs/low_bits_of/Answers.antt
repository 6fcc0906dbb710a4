-- The mask of n ones is two to the n less one, and what it leaves is the remainder.
use lib.Bits.{and_mask}
use Rattle.bits.proofs.low_bits_of.Goals as goal

pub returns : goal.returns
returns c = rw c.power_of_two.ensures (and_mask c.args.v c.args.n)
