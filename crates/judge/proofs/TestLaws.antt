-- The tests by the code's counts are the tests of what was gathered. Assumes nothing.
use mathlib.Core.Path.{◌≡◌, refl}
use mathlib.Core.List.{List, ◌∷◌}
use Prim.Native.Nat.{ℕ}
use Rattle.std.specs.Prelude.{Ok, Err}
use Rattle.text.specs.Refusals.{Judged, first, or_else}
use Rattle.lineforms.specs.LineFields.{component_fields}
use Rattle.lineforms.specs.declared.due.Form.{Form}
use Rattle.lineforms.specs.declared.due.Form.TheVariants.{Stray, Superframe, HeaderWord, HeaderLine, RecordWord, RecordLine, NoneWord, ParameterWord, NameLine, OpeningComponent, ComponentLine, TimeLine, SamplesEnd, SignedLine, RangeLine, SourceLine, LabelLine, SourceEnd, ParameterEnd}
use Rattle.gather.specs.Book.{Book, words_of, bits_of}
use Rattle.gather.specs.Tests.{room_for_parameter, room_for_sample, room_for_component, due_test, room_test, field_tests}
use Rattle.judge.specs.Counts.{tally_of}
use Rattle.judge.specs.declared.tally.Tally.{Tally}
use Rattle.judge.specs.LineTests.{room_for_parameter_in, room_for_sample_in, room_for_component_in, form_tests}

pub tests_gathered : (f : Form) (l : List ℕ) (K : Book) → form_tests f (tally_of K) (words_of K.pairs) (bits_of K.pairs) l ≡ first (due_test f ∷ room_test f K ∷ field_tests f K l)
unfolding form_tests room_for_parameter_in room_for_sample_in room_for_component_in room_for_parameter room_for_sample room_for_component
tests_gathered Stray l K = refl
tests_gathered Superframe l K = refl
tests_gathered HeaderWord l K = refl
tests_gathered HeaderLine l K = refl
tests_gathered RecordWord l K = refl
tests_gathered RecordLine l K = refl
tests_gathered NoneWord l K = refl
tests_gathered ParameterWord l K = refl
tests_gathered NameLine l K = refl
tests_gathered OpeningComponent l K = refl
tests_gathered ComponentLine l K = refl
tests_gathered TimeLine l K = refl
tests_gathered SamplesEnd l K = refl
tests_gathered SignedLine l K = refl
tests_gathered RangeLine l K = refl
tests_gathered SourceLine l K = refl
tests_gathered LabelLine l K = refl
tests_gathered SourceEnd l K = refl
tests_gathered ParameterEnd l K = refl

second : (j : Judged) (js : List Judged) → or_else j (first js) ≡ first (Ok tt ∷ j ∷ js)
unfolding first
second (Ok _) js = refl
second (Err r) js = refl

pub component_tests : (x : Tally) (ws bs l : List ℕ) → or_else (room_for_component_in x) (first (component_fields x.declared ws bs l)) ≡ form_tests ComponentLine x ws bs l
unfolding form_tests
component_tests x ws bs l = second (room_for_component_in x) (component_fields x.declared ws bs l)
