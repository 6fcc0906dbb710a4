-- The tests of a line, by what it turned out to be: 5 and 10, 12, the fields, 14, 15. Their order is lines' line_judged.
use Rattle.std.specs.Prelude.{ℕ, ◌+◌, ◌-◌, ◌*◌, Bool, true, false, not, ◌&&◌, ◌||◌, List, [], ◌∷◌, ◌++◌, eqb, leb, ltb, length, Ok, Err}
use Rattle.sample.specs.declared.component.Component.{Component as Piece}
use Rattle.sample.specs.Clash.{twice}
use Rattle.text.specs.Refusals.{when, Judged}
use Rattle.text.specs.declared.refusal.Refusal.TheVariants.{NotDue, NotCarried, TooMany, BadSample, Repeated}
use Rattle.lines.specs.Order.{Tests}
use Rattle.lineforms.specs.LineFields.{header_fields, record_fields, name_fields, component_fields, time_fields, signed_fields, range_fields, source_fields, label_fields}
use Rattle.lineforms.specs.declared.due.Form.{Form}
use Rattle.lineforms.specs.declared.due.Form.TheVariants.{Stray, Superframe, HeaderWord, HeaderLine, RecordWord, RecordLine, NoneWord, ParameterWord, NameLine, OpeningComponent, ComponentLine, TimeLine, SamplesEnd, SignedLine, RangeLine, SourceLine, LabelLine, SourceEnd, ParameterEnd}
use Rattle.model.specs.Content.{Parameter, Sample, Component}
use Rattle.model.specs.Forms.{sheet_limits}
use Rattle.model.specs.Identifiers.{named_apart}
use Rattle.model.specs.Rules.{bit_count}
use Rattle.gather.specs.Book.{Book, component_of, named_of, samples_so_far, components_so_far, words_of, bits_of}

-- 5, "not the keyword, field count or blank line due here, or a line after the end"; "(a two-field line here is a superframe
-- line: 10)"
abbrev pub due_test : Form → Judged
due_test Stray = Err NotDue
due_test Superframe = Err NotCarried
due_test HeaderWord = Ok tt
due_test HeaderLine = Ok tt
due_test RecordWord = Ok tt
due_test RecordLine = Ok tt
due_test NoneWord = Ok tt
due_test ParameterWord = Ok tt
due_test NameLine = Ok tt
due_test OpeningComponent = Ok tt
due_test ComponentLine = Ok tt
due_test TimeLine = Ok tt
due_test SamplesEnd = Ok tt
due_test SignedLine = Ok tt
due_test RangeLine = Ok tt
due_test SourceLine = Ok tt
due_test LabelLine = Ok tt
due_test SourceEnd = Ok tt
due_test ParameterEnd = Ok tt

-- 12, "one item more than a count limit", "on the line that opens the item too many": "512 parameters; 64 samples each,
-- 4,096 in all; 8 components a sample, 4,096 in all"
unfoldable pub room_for_parameter : Book → Judged
room_for_parameter K = when (leb sheet_limits.parameters (length K.parameters)) TooMany

unfoldable pub room_for_sample : Book → Judged
room_for_sample K =
    when
    (leb sheet_limits.samples_each (length K.opened.samples)
    || (leb sheet_limits.samples (samples_so_far K) || leb sheet_limits.components (components_so_far K)))
    TooMany

unfoldable pub room_for_component : Book → Judged
room_for_component K =
    when (leb sheet_limits.components_each (length K.parts) || leb sheet_limits.components (components_so_far K)) TooMany

abbrev pub room_test : Form → Book → Judged
room_test Stray K = Ok tt
room_test Superframe K = Ok tt
room_test HeaderWord K = Ok tt
room_test HeaderLine K = Ok tt
room_test RecordWord K = Ok tt
room_test RecordLine K = Ok tt
room_test NoneWord K = Ok tt
room_test ParameterWord K = room_for_parameter K
room_test NameLine K = Ok tt
room_test OpeningComponent K = room_for_sample K
room_test ComponentLine K = room_for_component K
room_test TimeLine K = Ok tt
room_test SamplesEnd K = Ok tt
room_test SignedLine K = Ok tt
room_test RangeLine K = Ok tt
room_test SourceLine K = Ok tt
room_test LabelLine K = Ok tt
room_test SourceEnd K = Ok tt
room_test ParameterEnd K = Ok tt

-- the fields, left to right
abbrev pub field_tests : Form → Book → List ℕ → List Judged
field_tests Stray K l = []
field_tests Superframe K l = []
field_tests HeaderWord K l = []
field_tests HeaderLine K l = header_fields l
field_tests RecordWord K l = []
field_tests RecordLine K l = record_fields l
field_tests NoneWord K l = []
field_tests ParameterWord K l = []
field_tests NameLine K l = name_fields l
field_tests OpeningComponent K l = component_fields K.declared (words_of K.pairs) (bits_of K.pairs) l
field_tests ComponentLine K l = component_fields K.declared (words_of K.pairs) (bits_of K.pairs) l
field_tests TimeLine K l = time_fields l
field_tests SamplesEnd K l = []
field_tests SignedLine K l = signed_fields l
field_tests RangeLine K l = range_fields K.opened.identifier l
field_tests SourceLine K l = source_fields l
field_tests LabelLine K l = label_fields l
field_tests SourceEnd K l = []
field_tests ParameterEnd K l = []

-- 14: components side by side, subframe and word as one number: a word is less than word_span
abbrev pub word_span : ℕ
word_span = sheet_limits.words + 1

abbrev pub spot : Component → Piece
spot c = record { word = c.subframe * word_span + c.word; low = c.low; high = c.high }

unfoldable pub spots : List Component → List Piece
spots [] = []
spots (c ∷ cs) = spot c ∷ spots cs

-- the bits that components give to their sample: all but those that overlap the next one
unfoldable pub given : List Component → ℕ
given [] = 0
given (c ∷ cs) = bit_count c - c.overlap + given cs

-- the last one's overlap
unfoldable pub last_overlap : List Component → ℕ
last_overlap [] = 0
last_overlap (c ∷ []) = c.overlap
last_overlap (c ∷ d ∷ cs) = last_overlap (d ∷ cs)

-- component c behind cs, "at the component that does it": "a bit twice in one sample; width above 32", all its own bits counted; an
-- overlap "not smaller than the component's own bit count"; one of the component before that is above "the next component"
unfoldable pub joined_test : List Component → Component → Judged
joined_test cs c =
    when
    (twice (spots (cs ++ (c ∷ [])))
    || (ltb sheet_limits.width (given cs + bit_count c) || (leb (bit_count c) c.overlap || ltb (bit_count c) (last_overlap cs))))
    BadSample

-- "width unlike the parameter's first sample"
unfoldable pub unlike_first : List Sample → List Component → Bool
unlike_first [] cs = false
unlike_first (s ∷ ss) cs = not (eqb (given cs) (given s.components))

-- on the time line: an overlap of the last component, which has no next one, "a width below 1", "unequal width"
unfoldable pub width_test : List Sample → List Component → Judged
width_test ss cs = when (not (eqb (last_overlap cs) 0) || (ltb (given cs) 1 || unlike_first ss cs)) BadSample

abbrev pub sample_test : Form → Book → List ℕ → Judged
sample_test Stray K l = Ok tt
sample_test Superframe K l = Ok tt
sample_test HeaderWord K l = Ok tt
sample_test HeaderLine K l = Ok tt
sample_test RecordWord K l = Ok tt
sample_test RecordLine K l = Ok tt
sample_test NoneWord K l = Ok tt
sample_test ParameterWord K l = Ok tt
sample_test NameLine K l = Ok tt
sample_test OpeningComponent K l = joined_test K.parts (component_of l)
sample_test ComponentLine K l = joined_test K.parts (component_of l)
sample_test TimeLine K l = width_test K.opened.samples K.parts
sample_test SamplesEnd K l = Ok tt
sample_test SignedLine K l = Ok tt
sample_test RangeLine K l = Ok tt
sample_test SourceLine K l = Ok tt
sample_test LabelLine K l = Ok tt
sample_test SourceEnd K l = Ok tt
sample_test ParameterEnd K l = Ok tt

-- 15, "name, or non-empty mnemonic or identification, equal to an earlier parameter's same field"
unfoldable pub apart_from : List Parameter → Parameter → Bool
apart_from [] q = true
apart_from (p ∷ ps) q = named_apart p q && apart_from ps q

abbrev pub names_test : Form → Book → List ℕ → Judged
names_test Stray K l = Ok tt
names_test Superframe K l = Ok tt
names_test HeaderWord K l = Ok tt
names_test HeaderLine K l = Ok tt
names_test RecordWord K l = Ok tt
names_test RecordLine K l = Ok tt
names_test NoneWord K l = Ok tt
names_test ParameterWord K l = Ok tt
names_test NameLine K l = when (not (apart_from K.parameters (named_of l))) Repeated
names_test OpeningComponent K l = Ok tt
names_test ComponentLine K l = Ok tt
names_test TimeLine K l = Ok tt
names_test SamplesEnd K l = Ok tt
names_test SignedLine K l = Ok tt
names_test RangeLine K l = Ok tt
names_test SourceLine K l = Ok tt
names_test LabelLine K l = Ok tt
names_test SourceEnd K l = Ok tt
names_test ParameterEnd K l = Ok tt

abbrev pub tests_of : Form → Book → List ℕ → Tests
tests_of f K l =
    record {
      due = due_test f;
      room = room_test f K;
      fields = field_tests f K l;
      sample = sample_test f K l;
      names = names_test f K l;
    }
