-- One answer for each outcome.
use mathlib.Core.Path.{refl}
use Rattle.table.specs.Answers.{check_of}
use Rattle.table.proofs.Accepting.{opened_accepted, opened_not}
use Rattle.table.proofs.check.check.Goals as goal

pub returns-in-Some : goal.returns-in-Some
unfolding check_of
returns-in-Some c = simp (opened_accepted c.in-Some.ensures refl)

pub returns-in-None : goal.returns-in-None
unfolding check_of
returns-in-None c = simp (opened_not c.in-None.ensures refl)
