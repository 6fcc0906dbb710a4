-- Where a line's tests before 14 pass there is room for its component. Assumes nothing.
use mathlib.Core.Path.{◌≡◌, refl, ◌∙◌}
use mathlib.Core.Bool.{Bool, true, false, ◌||◌}
use mathlib.Core.List.{List}
use Prim.Native.Nat.{ℕ, ◌<◌}
use native.Mathlib.Omega.{arith}
use borrow.Author.Tests.{leb-false}
use lib.Dec.{leb}
use Rattle.std.specs.Prelude.{Ok, Err}
use Rattle.text.specs.Refusals.{Judged, when, first, or_else}
use Rattle.text.specs.declared.refusal.Refusal.{Refusal}
use Rattle.text.specs.declared.refusal.Refusal.TheVariants.{TooMany}
use Rattle.lineforms.specs.LineFields.{component_fields}
use Rattle.lineforms.specs.declared.due.Form.{Form}
use Rattle.lineforms.specs.declared.due.Form.TheVariants.{Stray, Superframe, HeaderWord, HeaderLine, RecordWord, RecordLine, NoneWord, ParameterWord, NameLine, OpeningComponent, ComponentLine, TimeLine, SamplesEnd, SignedLine, RangeLine, SourceLine, LabelLine, SourceEnd, ParameterEnd}
use Rattle.model.specs.Forms.{sheet_limits}
use Rattle.judge.specs.LineTests.{room_for_component_in, form_tests, Fitting}
use Rattle.judge.specs.Sampling.{Apt}
use Rattle.judge.specs.declared.sampling.Sampling.{Sampling}
use Rattle.judge.specs.declared.tally.Tally.{Tally}
use Rattle.judge.proofs.TestLaws.{component_tests}

pub never_passes : {A : Type 0} (r : Refusal) → ◌≡◌ {A = Judged} (Err r) (Ok tt) → A
never_passes r e = absurd (cc)

-- where the two pass the first passes, and the second
pub else_0 : (j k : Judged) → or_else j k ≡ Ok tt → j ≡ Ok tt
else_0 (Ok _) k e = refl
else_0 (Err r) k e = never_passes r e

else_1 : (j k : Judged) → or_else j k ≡ Ok tt → k ≡ Ok tt
else_1 (Ok _) k e = e
else_1 (Err r) k e = never_passes r e

either_none : (a b : Bool) (r : Refusal) → when (a || b) r ≡ Ok tt → a ≡ false
either_none true b r e = never_passes r e
either_none false b r e = refl

room_left : (x : Tally) (ws bs l : List ℕ) → form_tests ComponentLine x ws bs l ≡ Ok tt → x.parts < sheet_limits.components_each
unfolding room_for_component_in
room_left x ws bs l e =
    leb-false sheet_limits.components_each x.parts
    (either_none (leb sheet_limits.components_each x.parts) (leb sheet_limits.components x.components) TooMany
    (else_0 (room_for_component_in x) (first (component_fields x.declared ws bs l)) (component_tests x ws bs l ∙ e)))

pub fitting_apt : (f : Form) (x : Tally) (g : Sampling) (ws bs l : List ℕ) → Fitting f x g → form_tests f x ws bs l ≡ Ok tt → Apt f g
fitting_apt Stray x g ws bs l h e = tt
fitting_apt Superframe x g ws bs l h e = tt
fitting_apt HeaderWord x g ws bs l h e = tt
fitting_apt HeaderLine x g ws bs l h e = tt
fitting_apt RecordWord x g ws bs l h e = tt
fitting_apt RecordLine x g ws bs l h e = tt
fitting_apt NoneWord x g ws bs l h e = tt
fitting_apt ParameterWord x g ws bs l h e = tt
fitting_apt NameLine x g ws bs l h e = tt
fitting_apt OpeningComponent x g ws bs l h e = record { count = omega (arith, h.count); width = h.width }
fitting_apt ComponentLine x g ws bs l h e = record { count = omega (arith, h.count, room_left x ws bs l e); width = h.width }
fitting_apt TimeLine x g ws bs l h e = tt
fitting_apt SamplesEnd x g ws bs l h e = tt
fitting_apt SignedLine x g ws bs l h e = tt
fitting_apt RangeLine x g ws bs l h e = tt
fitting_apt SourceLine x g ws bs l h e = tt
fitting_apt LabelLine x g ws bs l h e = tt
fitting_apt SourceEnd x g ws bs l h e = tt
fitting_apt ParameterEnd x g ws bs l h e = tt
