-- The lowest bit is 1.
use mathlib.Core.Path.{ap}
use Prim.Native.Nat.{ℕ}
use lib.Dec.{eqb}
use Rattle.stored.proofs.flags.has_signed.Goals as goal

pub returns : goal.returns
returns c = ap (λ (f : ℕ). eqb f 1) c.low_bits_of.ensures
