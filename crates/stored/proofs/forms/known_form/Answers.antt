-- The forms go from 1 to the newest.
use native.Mathlib.Omega.{arith}
use Rattle.model.specs.Forms.{rows, newest}
use Rattle.stored.proofs.FormCases.{known_made, too_low, too_high}
use Rattle.stored.proofs.forms.known_form.Goals as goal

pub returns-then-f-lt1 : goal.returns-then-f-lt1
returns-then-f-lt1 c = too_low _ c.if-f-lt1.true

pub returns-then-f-gt-NEWEST : goal.returns-then-f-gt-NEWEST
unfolding newest rows
returns-then-f-gt-NEWEST c = too_high _ c.if-f-gt-NEWEST.true

pub returns : goal.returns
unfolding newest rows
returns c = known_made _ (omega (arith, c.if-f-lt1.false)) (omega (arith, c.if-f-gt-NEWEST.false))
