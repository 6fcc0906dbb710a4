-- The low bits of what stands above.
use borrow.Author.Rules.{rules}
use Rattle.bits.specs.Word.{field}
use Rattle.bits.proofs.field_of.Goals as goal

pub returns : goal.returns
unfolding field
returns c = search rules
