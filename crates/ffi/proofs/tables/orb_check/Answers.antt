-- The number of what the bench answers.
use mathlib.Core.Path.{ap, ◌∙◌}
use Rattle.table.specs.Answers.{check_number}
use Rattle.ffi.proofs.tables.orb_check.Goals as goal

pub returns : goal.returns
returns c = c.check_number.ensures ∙ ap check_number c.check.ensures
