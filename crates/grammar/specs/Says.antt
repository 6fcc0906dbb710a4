-- The sheet of a Content: 01, "Lines of a sheet", in its numbered order.
use Rattle.std.specs.Prelude.{ℕ, ◌≤◌, ◌≡◌, ◌⊎◌, Bool, true, false, List, [], ◌∷◌, ◌++◌, length}
use Rattle.lay.specs.Below.{tab}
use Rattle.text.specs.Keywords.{header_word, record_word, none_word, parameter_word}
use Rattle.spell.specs.Texts.{version}
use Rattle.model.specs.Content.{Content, Parameter, Sample, Component, Subframe, subframes}
use Rattle.model.specs.Forms.{sheet_limits}
use Rattle.model.specs.Lawful.{lawful}
use Rattle.grammar.specs.Items.{Item, exactly, text, some_text, truth, truth_or_none, integer, margin, time, delay, bits, bits_or_none, label, seconds}
use Rattle.grammar.specs.Written.{Written}

abbrev pub empty : Item
empty = exactly []

abbrev pub blank : List Item
blank = []

-- "Keywords are in capitals and stand alone on a line."
abbrev pub word : List ℕ → List Item
word w = exactly w ∷ []

-- ---- 1. "`HEADER:`, then a line of 14 fields"

-- "Version (must be `2.0`), make and model (3) and serial (6) are mandatory. Field 9 is a Boolean. Fields 10 and 11 must be
-- empty. Field 12 is the subframe count S."
abbrev pub header_line : Bool → ℕ → List Item
header_line sequential count =
    exactly version
    ∷ text
    ∷ some_text
    ∷ text
    ∷ text
    ∷ some_text
    ∷ text
    ∷ text
    ∷ truth sequential
    ∷ empty
    ∷ empty
    ∷ integer 6 count
    ∷ text
    ∷ text
    ∷ []

-- ---- 2. "`RECORD:`, then 5 fields: bits per word, words, leading bits, trailing bits, seconds."

abbrev pub record_line : Subframe → List Item
record_line p =
    integer 6 p.bits
    ∷ integer 6 p.words
    ∷ margin p.leading
    ∷ margin p.trailing
    ∷ seconds p.numerator p.denominator
    ∷ []

abbrev pub record_lines : List Subframe → List (List Item)
record_lines [] = []
record_lines (p ∷ ps) = word record_word ∷ record_line p ∷ record_lines ps

-- "One such pair for all subframes, or S pairs, also when alike"
abbrev pub Declare : List Subframe → List Subframe → Type 0
Declare pairs subs = (pairs ≡ subs) ⊎ ((p : Subframe) × (pairs ≡ p ∷ []) × (subs ≡ tab (length subs) (λ i. p)))

-- ---- 3. "`NONE` and the end, or one or more parameters"

-- "`PARAMETER:`, then 7 fields: name (mandatory), mnemonic, identification, record identifier (Boolean), one that must be
-- empty, date, comments."
abbrev pub name_line : Parameter → List Item
name_line p =
    exactly p.name
    ∷ exactly p.mnemonic
    ∷ exactly p.identification
    ∷ truth p.identifier
    ∷ empty
    ∷ text
    ∷ text
    ∷ []

-- "one or more samples: component lines (subframe, word, overlap, bits), least significant first, then a line with the time
-- offset alone"
abbrev pub component_line : Component → List Item
component_line c =
    integer 6 c.subframe ∷ integer 6 c.word ∷ integer 6 c.overlap ∷ bits c.low c.high ∷ []

abbrev pub component_lines : List Component → List (List Item)
component_lines [] = []
component_lines (c ∷ cs) = component_line c ∷ component_lines cs

abbrev pub sample_lines : List Sample → List (List Item)
sample_lines [] = []
sample_lines (s ∷ ss) = component_lines s.components ++ ((time s.time ∷ []) ∷ sample_lines ss)

-- "5 fields: signed (Boolean), two that must be empty, units, one that must be empty"
abbrev pub signed_line : Bool → List Item
signed_line signed = truth signed ∷ empty ∷ empty ∷ text ∷ empty ∷ []

-- "For a record identifier the range is one integer and mandatory; otherwise text"
abbrev pub range : Bool → ℕ → Item
range true value = integer 10 value
range false value = text

-- "4 fields: range, one that must be empty, resolution, delay."
abbrev pub range_line : Bool → ℕ → List Item
range_line identifier value = range identifier value ∷ empty ∷ text ∷ delay ∷ []

-- "one or more sources: a line of 3 text fields, optionally a line of 4 (Boolean or empty; octal label; bits or empty; text),
-- a blank line"
pub data Source : Type 0 where
  plain : Source
  labelled : Source

abbrev pub source_line : List Item
source_line = text ∷ text ∷ text ∷ []

abbrev pub label_line : List Item
label_line = truth_or_none ∷ label ∷ bits_or_none ∷ text ∷ []

abbrev pub source_lines : List Source → List (List Item)
source_lines [] = []
source_lines (plain ∷ more) = source_line ∷ blank ∷ source_lines more
source_lines (labelled ∷ more) = source_line ∷ label_line ∷ blank ∷ source_lines more

-- a parameter and the sources that its sheet lists, which are not kept
pub record Told : Type 0 where
  pub parameter : Parameter
  pub source : Source
  pub more : List Source

abbrev pub parameters_of : List Told → List Parameter
parameters_of [] = []
parameters_of (t ∷ ts) = t.parameter ∷ parameters_of ts

-- "a blank line" after the samples, the two lines, the sources, "one more blank line"
abbrev pub closing_lines : Bool → Bool → ℕ → List Source → List (List Item) → List (List Item)
closing_lines signed identifier value sources rest =
    blank ∷ signed_line signed ∷ range_line identifier value ∷ (source_lines sources ++ (blank ∷ rest))

abbrev pub parameter_lines : List Told → List (List Item)
parameter_lines [] = []
parameter_lines (t ∷ ts) =
    word parameter_word
    ∷ name_line t.parameter
    ∷ (sample_lines t.parameter.samples
    ++ closing_lines t.parameter.signed t.parameter.identifier t.parameter.value (t.source ∷ t.more) (parameter_lines ts))

abbrev pub body_lines : List Told → List (List Item)
body_lines [] = word none_word ∷ []
body_lines (t ∷ ts) = parameter_lines (t ∷ ts)

-- ---- the sheet

abbrev pub sheet_lines : Content → List Subframe → List Told → List (List Item)
sheet_lines c pairs told =
    word header_word ∷ header_line c.sequential (subframes c) ∷ (record_lines pairs ++ body_lines told)

-- x is a sheet that says c; "sheet 65,536 bytes"; every limit and every rule of 13 to 16 holds of c
pub record Says (x : List ℕ) (c : Content) : Type 0 where
  pub pairs : List Subframe
  pub told : List Told
  pub declare : Declare pairs c.subframes
  pub list : parameters_of told ≡ c.parameters
  pub written : Written x (sheet_lines c pairs told)
  pub short : length x ≤ 65536
  pub lawful : lawful sheet_limits c ≡ true
