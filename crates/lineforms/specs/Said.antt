-- What a line says, once its tests pass.
use Rattle.std.specs.Prelude.{ℕ, ◌≤◌, List, Bool, Result, Ok, Err}
use Rattle.text.specs.Fields.{field_of}
use Rattle.spell.specs.Answers.{Seconds, amount_of}
use Rattle.spell.specs.Truths.{says_true}
use Rattle.spell.specs.Integers.{most_of_six, integer_of, margin_of}
use Rattle.spell.specs.Decimals.{decimal_of}
use Rattle.spell.specs.BitRanges.{component_bits_of}
use Rattle.spell.specs.Durations.{seconds_of}
use Rattle.spell.specs.declared.answers.Bits.{Bits}
use Rattle.text.specs.declared.refusal.Refusal.{Refusal}
use Rattle.model.specs.Margin.{blank_margin}
use Rattle.model.specs.Forms.{sheet_limits}
use Rattle.lineforms.specs.LineFields.{subframe_in}
use Rattle.lineforms.specs.declared.said.Pair.{Pair}
use Rattle.lineforms.specs.declared.said.Part.{Part}

-- the header line: field 12 is the subframe count, field 9 says sequential
abbrev pub subframes_in : List ℕ → ℕ
subframes_in l = amount_of (integer_of 6 1 sheet_limits.subframes (field_of 11 l))

abbrev pub sequential_in : List ℕ → Bool
sequential_in l = says_true (field_of 8 l)

abbrev pub numerator_of : Seconds → ℕ
numerator_of (Ok x) = x.numerator
numerator_of (Err r) = 0

abbrev pub denominator_of : Seconds → ℕ
denominator_of (Ok x) = x.denominator
denominator_of (Err r) = 0

-- the line of a record pair
abbrev pub pair_in : List ℕ → Pair
pair_in l =
    record {
      bits = amount_of (integer_of 6 1 sheet_limits.bits (field_of 0 l));
      words = amount_of (integer_of 6 1 sheet_limits.words (field_of 1 l));
      leading = amount_of (margin_of sheet_limits.margin blank_margin (field_of 2 l));
      trailing = amount_of (margin_of sheet_limits.margin blank_margin (field_of 3 l));
      numerator = numerator_of (seconds_of (field_of 4 l));
      denominator = denominator_of (seconds_of (field_of 4 l));
    }

-- the 7-field line: field 4 says whether the parameter is a record identifier
abbrev pub identifier_in : List ℕ → Bool
identifier_in l = says_true (field_of 3 l)

abbrev pub low_of : Result Bits Refusal → ℕ
low_of (Ok x) = x.low
low_of (Err r) = 0

abbrev pub high_of : Result Bits Refusal → ℕ
high_of (Ok x) = x.high
high_of (Err r) = 0

-- a component line
abbrev pub part_in : List ℕ → Part
part_in l =
    record {
      subframe = subframe_in l;
      word = amount_of (integer_of 6 0 most_of_six (field_of 1 l));
      low = low_of (component_bits_of most_of_six (field_of 3 l));
      high = high_of (component_bits_of most_of_six (field_of 3 l));
      overlap = amount_of (integer_of 6 0 most_of_six (field_of 2 l));
    }

-- not part of the meaning: six digits are never more
pub record Modest (p : Part) : Type 0 where
  pub subframe : p.subframe ≤ 999999
  pub word : p.word ≤ 999999
  pub rising : p.low ≤ p.high
  pub high : p.high ≤ 999999
  pub overlap : p.overlap ≤ 999999

-- the time line, in millionths
abbrev pub time_in : List ℕ → ℕ
time_in l = amount_of (decimal_of 3 (field_of 0 l))

-- the 5-field line
abbrev pub signed_in : List ℕ → Bool
signed_in l = says_true (field_of 0 l)

-- the 4-field line of a record identifier
abbrev pub value_in : List ℕ → ℕ
value_in l = amount_of (integer_of 10 0 sheet_limits.value (field_of 0 l))
