-- Not part of the meaning: the tests of a line by the code's counts, in place of what was gathered.
use Rattle.std.specs.Prelude.{ℕ, ◌≤◌, ◌≡◌, ◌||◌, List, [], ◌∷◌, leb, Ok}
use Rattle.text.specs.Refusals.{Judged, when, first}
use Rattle.text.specs.declared.refusal.Refusal.TheVariants.{TooMany}
use Rattle.lineforms.specs.LineFields.{header_fields, record_fields, name_fields, component_fields, time_fields, signed_fields, range_fields, source_fields, label_fields}
use Rattle.lineforms.specs.declared.due.Form.{Form}
use Rattle.lineforms.specs.declared.due.Form.TheVariants.{Stray, Superframe, HeaderWord, HeaderLine, RecordWord, RecordLine, NoneWord, ParameterWord, NameLine, OpeningComponent, ComponentLine, TimeLine, SamplesEnd, SignedLine, RangeLine, SourceLine, LabelLine, SourceEnd, ParameterEnd}
use Rattle.model.specs.Forms.{sheet_limits}
use Rattle.gather.specs.Tests.{due_test}
use Rattle.judge.specs.declared.sampling.Sampling.{Sampling}
use Rattle.judge.specs.declared.tally.Tally.{Tally}

unfoldable pub room_for_parameter_in : Tally → Judged
room_for_parameter_in x = when (leb sheet_limits.parameters x.parameters) TooMany

unfoldable pub room_for_sample_in : Tally → Judged
room_for_sample_in x =
    when
    (leb sheet_limits.samples_each x.own
    || (leb sheet_limits.samples x.samples || leb sheet_limits.components x.components))
    TooMany

unfoldable pub room_for_component_in : Tally → Judged
room_for_component_in x =
    when (leb sheet_limits.components_each x.parts || leb sheet_limits.components x.components) TooMany

abbrev pub room_in : Form → Tally → Judged
room_in Stray x = Ok tt
room_in Superframe x = Ok tt
room_in HeaderWord x = Ok tt
room_in HeaderLine x = Ok tt
room_in RecordWord x = Ok tt
room_in RecordLine x = Ok tt
room_in NoneWord x = Ok tt
room_in ParameterWord x = room_for_parameter_in x
room_in NameLine x = Ok tt
room_in OpeningComponent x = room_for_sample_in x
room_in ComponentLine x = room_for_component_in x
room_in TimeLine x = Ok tt
room_in SamplesEnd x = Ok tt
room_in SignedLine x = Ok tt
room_in RangeLine x = Ok tt
room_in SourceLine x = Ok tt
room_in LabelLine x = Ok tt
room_in SourceEnd x = Ok tt
room_in ParameterEnd x = Ok tt

abbrev pub fields_in : Form → Tally → List ℕ → List ℕ → List ℕ → List Judged
fields_in Stray x ws bs l = []
fields_in Superframe x ws bs l = []
fields_in HeaderWord x ws bs l = []
fields_in HeaderLine x ws bs l = header_fields l
fields_in RecordWord x ws bs l = []
fields_in RecordLine x ws bs l = record_fields l
fields_in NoneWord x ws bs l = []
fields_in ParameterWord x ws bs l = []
fields_in NameLine x ws bs l = name_fields l
fields_in OpeningComponent x ws bs l = component_fields x.declared ws bs l
fields_in ComponentLine x ws bs l = component_fields x.declared ws bs l
fields_in TimeLine x ws bs l = time_fields l
fields_in SamplesEnd x ws bs l = []
fields_in SignedLine x ws bs l = signed_fields l
fields_in RangeLine x ws bs l = range_fields x.identifier l
fields_in SourceLine x ws bs l = source_fields l
fields_in LabelLine x ws bs l = label_fields l
fields_in SourceEnd x ws bs l = []
fields_in ParameterEnd x ws bs l = []

-- 5 and 10, 12, the fields
unfoldable pub form_tests : Form → Tally → List ℕ → List ℕ → List ℕ → Judged
form_tests f x ws bs l = first (due_test f ∷ room_in f x ∷ fields_in f x ws bs l)

-- what is kept of the open sample goes with the counts
pub record Narrow (n : ℕ) (g : Sampling) : Type 0 where
  pub count : g.spots.count ≡ n
  pub width : g.width ≤ sheet_limits.width

abbrev pub Fitting : Form → Tally → Sampling → Type 0
Fitting Stray x g = Unit {0}
Fitting Superframe x g = Unit {0}
Fitting HeaderWord x g = Unit {0}
Fitting HeaderLine x g = Unit {0}
Fitting RecordWord x g = Unit {0}
Fitting RecordLine x g = Unit {0}
Fitting NoneWord x g = Unit {0}
Fitting ParameterWord x g = Unit {0}
Fitting NameLine x g = Unit {0}
Fitting OpeningComponent x g = Narrow 0 g
Fitting ComponentLine x g = Narrow x.parts g
Fitting TimeLine x g = Unit {0}
Fitting SamplesEnd x g = Unit {0}
Fitting SignedLine x g = Unit {0}
Fitting RangeLine x g = Unit {0}
Fitting SourceLine x g = Unit {0}
Fitting LabelLine x g = Unit {0}
Fitting SourceEnd x g = Unit {0}
Fitting ParameterEnd x g = Unit {0}
