-- "Bits: `a` or `a-b`." 11: "number outside its limit, a range with a above b"
use Rattle.std.specs.Prelude.{ℕ, List, [], ◌∷◌, Bool, cond, not, ◌||◌, ltb, eqb, Result, Ok}
use Rattle.text.specs.Blanks.{is_empty}
use Rattle.text.specs.Parts.{up_to, past, holds}
use Rattle.text.specs.Refusals.{Judged, when, first, says}
use Rattle.text.specs.declared.refusal.Refusal.{Refusal}
use Rattle.text.specs.declared.refusal.Refusal.TheVariants.{FieldEmpty, Misspelt, OutsideLimit, BeyondDeclared}
use Rattle.spell.specs.Digits.{number, is_marked}
use Rattle.spell.specs.declared.answers.Bits.{Bits}

abbrev pub hyphen : ℕ
hyphen = 45

abbrev pub is_bits : List ℕ → Bool
is_bits f = is_marked hyphen 6 6 f

unfoldable pub low_bit : List ℕ → ℕ
low_bit f = number 10 (up_to hyphen f)

-- `a` is `a-a`
unfoldable pub high_bit : List ℕ → ℕ
high_bit f = cond (holds hyphen f) (number 10 (past hyphen f)) (low_bit f)

unfoldable pub bits_judged : List ℕ → Judged
bits_judged f =
    first
    (when (is_empty f) FieldEmpty
    ∷ when (not (is_bits f)) Misspelt
    ∷ when (eqb (low_bit f) 0 || ltb (high_bit f) (low_bit f)) OutsideLimit
    ∷ [])

unfoldable pub bits_of : List ℕ → Result Bits Refusal
bits_of f = says (bits_judged f) (record { low = low_bit f; high = high_bit f })

-- in a component line "all that is too high is 13"
unfoldable pub component_bits_judged : ℕ → List ℕ → Judged
component_bits_judged count f = first (bits_judged f ∷ when (ltb count (high_bit f)) BeyondDeclared ∷ [])

unfoldable pub component_bits_of : ℕ → List ℕ → Result Bits Refusal
component_bits_of count f = says (component_bits_judged count f) (record { low = low_bit f; high = high_bit f })

-- "source bits 1 to 32"
abbrev pub highest_source_bit : ℕ
highest_source_bit = 32

-- "bits or empty"
unfoldable pub source_bits_judged : List ℕ → Judged
source_bits_judged f =
    cond (is_empty f) (Ok tt) (first (bits_judged f ∷ when (ltb highest_source_bit (high_bit f)) OutsideLimit ∷ []))
