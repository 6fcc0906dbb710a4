-- A field is replaced by its three parts: what is above, the value, what is below.
use mathlib.Core.Path.{◌≡◌}
use Prim.Native.Nat.{◌+◌}
use borrow.Author.Rules.{rules}
use Rattle.bits.specs.Word.{put}
use Rattle.bits.proofs.Fields.{put_lt}
use Rattle.bits.proofs.put_field.Goals.{After-low_bits_of-2}
use Rattle.bits.proofs.put_field.Goals as goal

whole_is : (c : After-low_bits_of-2) → let a = c.args in c.raised-2.result + c.low_bits_of-2.result ≡ put a.word a.s a.n a.v
unfolding put
whole_is c = search rules

pub returns : goal.returns
returns c =
    let a = c.args in
    let is = whole_is (goal.at.returns c).After-low_bits_of-2 in
    (is, rw is (put_lt a.word a.s a.n a.v 16 c.requires.0 c.requires.1))
