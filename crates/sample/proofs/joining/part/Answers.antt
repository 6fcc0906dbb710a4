-- The field of the component's bits in its word.
use Rattle.std.proofs.Common.{rules}
use Rattle.sample.specs.Joining.{part_of}
use Rattle.sample.proofs.joining.part.Goals as goal

pub returns : goal.returns
unfolding part_of
returns c = search rules
