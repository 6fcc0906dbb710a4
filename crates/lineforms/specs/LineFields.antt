-- The tests of a line's fields, left to right: one list for each kind of line, in the order of 01's "Lines of a sheet".
use Rattle.std.specs.Prelude.{ℕ, ◌-◌, List, [], ◌∷◌, ◌++◌, Bool, true, false, cond, eqb, length, get_or}
use Rattle.text.specs.Fields.{field_of}
use Rattle.text.specs.Refusals.{Judged, judged_of}
use Rattle.spell.specs.Answers.{amount_of}
use Rattle.spell.specs.Texts.{longest_text, text_judged, version_judged, empty_judged}
use Rattle.spell.specs.Truths.{truth_judged, truth_or_empty_judged}
use Rattle.spell.specs.Integers.{most_of_six, integer_judged, integer_of, declared_judged, margin_of, label_judged}
use Rattle.spell.specs.Decimals.{decimal_judged, delay_judged}
use Rattle.spell.specs.BitRanges.{component_bits_judged, source_bits_judged}
use Rattle.spell.specs.Durations.{seconds_judged}
use Rattle.model.specs.Margin.{blank_margin}
use Rattle.model.specs.Forms.{sheet_limits}

-- text that may be empty, and text that may not
abbrev pub optional : List ℕ → Judged
optional f = text_judged longest_text false f

abbrev pub mandatory : List ℕ → Judged
mandatory f = text_judged longest_text true f

-- "a line of 14 fields in section 3's order. Version (must be `2.0`), make and model (3) and serial (6) are mandatory.
-- Field 9 is a Boolean. Fields 10 and 11 must be empty. Field 12 is the subframe count S."
abbrev pub header_texts : List ℕ → List Judged
header_texts l =
    version_judged (field_of 0 l)
    ∷ optional (field_of 1 l)
    ∷ mandatory (field_of 2 l)
    ∷ optional (field_of 3 l)
    ∷ optional (field_of 4 l)
    ∷ mandatory (field_of 5 l)
    ∷ optional (field_of 6 l)
    ∷ optional (field_of 7 l)
    ∷ []

abbrev pub header_rest : List ℕ → List Judged
header_rest l =
    truth_judged (field_of 8 l)
    ∷ empty_judged (field_of 9 l)
    ∷ empty_judged (field_of 10 l)
    ∷ integer_judged 6 1 sheet_limits.subframes (field_of 11 l)
    ∷ optional (field_of 12 l)
    ∷ optional (field_of 13 l)
    ∷ []

abbrev pub header_fields : List ℕ → List Judged
header_fields l = header_texts l ++ header_rest l

-- "5 fields: bits per word, words, leading bits, trailing bits, seconds." "bits per word 1 to 16; words 1 to 1,024; leading
-- and trailing 0 to 4,095"
abbrev pub record_fields : List ℕ → List Judged
record_fields l =
    integer_judged 6 1 sheet_limits.bits (field_of 0 l)
    ∷ integer_judged 6 1 sheet_limits.words (field_of 1 l)
    ∷ judged_of (margin_of sheet_limits.margin blank_margin (field_of 2 l))
    ∷ judged_of (margin_of sheet_limits.margin blank_margin (field_of 3 l))
    ∷ seconds_judged (field_of 4 l)
    ∷ []

-- "7 fields: name (mandatory), mnemonic, identification, record identifier (Boolean), one that must be empty, date, comments"
abbrev pub name_fields : List ℕ → List Judged
name_fields l =
    text_judged sheet_limits.text true (field_of 0 l)
    ∷ text_judged sheet_limits.text false (field_of 1 l)
    ∷ text_judged sheet_limits.text false (field_of 2 l)
    ∷ truth_judged (field_of 3 l)
    ∷ empty_judged (field_of 4 l)
    ∷ optional (field_of 5 l)
    ∷ optional (field_of 6 l)
    ∷ []

-- which of n record pairs is that of subframe s: one stands for all
unfoldable pub pair_index : ℕ → ℕ → ℕ
pair_index n s = cond (eqb n 1) 0 (s - 1)

-- of numbers that the record pairs declare, that of subframe s
unfoldable pub declared_for : List ℕ → ℕ → ℕ
declared_for ns s = get_or ns (pair_index (length ns) s) 0

-- the subframe that a component line names
abbrev pub subframe_in : List ℕ → ℕ
subframe_in l = amount_of (integer_of 6 0 most_of_six (field_of 0 l))

-- "component lines (subframe, word, overlap, bits)"; 13, "subframe, word or bits beyond those declared"
abbrev pub component_fields : ℕ → List ℕ → List ℕ → List ℕ → List Judged
component_fields subframes words bits l =
    declared_judged subframes (field_of 0 l)
    ∷ declared_judged (declared_for words (subframe_in l)) (field_of 1 l)
    ∷ integer_judged 6 0 most_of_six (field_of 2 l)
    ∷ component_bits_judged (declared_for bits (subframe_in l)) (field_of 3 l)
    ∷ []

-- "a line with the time offset alone": "a decimal, 1 to 3 digits before the point"
abbrev pub time_fields : List ℕ → List Judged
time_fields l = decimal_judged 3 (field_of 0 l) ∷ []

-- "5 fields: signed (Boolean), two that must be empty, units, one that must be empty"
abbrev pub signed_fields : List ℕ → List Judged
signed_fields l =
    truth_judged (field_of 0 l)
    ∷ empty_judged (field_of 1 l)
    ∷ empty_judged (field_of 2 l)
    ∷ optional (field_of 3 l)
    ∷ empty_judged (field_of 4 l)
    ∷ []

-- "For a record identifier the range is one integer and mandatory; otherwise text"
unfoldable pub range_judged : Bool → List ℕ → Judged
range_judged identifier f = cond identifier (integer_judged 10 0 sheet_limits.value f) (optional f)

-- "4 fields: range, one that must be empty, resolution, delay"
abbrev pub range_fields : Bool → List ℕ → List Judged
range_fields identifier l =
    range_judged identifier (field_of 0 l)
    ∷ empty_judged (field_of 1 l)
    ∷ optional (field_of 2 l)
    ∷ delay_judged (field_of 3 l)
    ∷ []

-- "a line of 3 text fields"
abbrev pub source_fields : List ℕ → List Judged
source_fields l = optional (field_of 0 l) ∷ optional (field_of 1 l) ∷ optional (field_of 2 l) ∷ []

-- "optionally a line of 4 (Boolean or empty; octal label; bits or empty; text)"
abbrev pub label_fields : List ℕ → List Judged
label_fields l =
    truth_or_empty_judged (field_of 0 l)
    ∷ label_judged (field_of 1 l)
    ∷ source_bits_judged (field_of 2 l)
    ∷ optional (field_of 3 l)
    ∷ []
