-- "Seconds: a decimal with up to 6 digits before the point, `N/D`, or `W N/D` (one space, N below D, N not 0), each number
-- of up to 6 digits; greater than 0, D not 0; stored in lowest terms."
use Rattle.std.specs.Prelude.{ℕ, ◌+◌, ◌*◌, ◌<◌, List, [], ◌∷◌, Bool, cond, not, ◌&&◌, ◌||◌, leb, eqb, Some, None}
use Rattle.std.specs.Option.{is_some, unwrap_or}
use Rattle.ratio.specs.Ratio.{lowest_terms}
use Rattle.text.specs.Blanks.{space, is_empty}
use Rattle.text.specs.Parts.{up_to, past, holds}
use Rattle.text.specs.Refusals.{Judged, when, first, says}
use Rattle.text.specs.declared.refusal.Refusal.TheVariants.{FieldEmpty, Misspelt, OutsideLimit}
use Rattle.spell.specs.Digits.{digits_up_to, number, is_marked}
use Rattle.spell.specs.Decimals.{million, is_decimal, millionths}
use Rattle.spell.specs.Answers.{Seconds}
use Rattle.spell.specs.declared.seconds.Fraction.{Fraction}

abbrev pub slash : ℕ
slash = 47

-- `N/D` or `W N/D`
unfoldable pub is_fraction : List ℕ → Bool
is_fraction f = is_marked space 6 6 (up_to slash f) && digits_up_to 10 6 (past slash f)

unfoldable pub is_seconds : List ℕ → Bool
is_seconds f = cond (holds slash f) (is_fraction f) (is_decimal 6 f)

-- W, N and D; without a space there is no W
unfoldable pub fraction_of : List ℕ → Fraction
fraction_of f =
    cond (holds space (up_to slash f))
    (record { whole = Some (number 10 (up_to space (up_to slash f))); above = number 10 (past space (up_to slash f)); below = number 10 (past slash f) })
    (record { whole = None; above = number 10 (up_to slash f); below = number 10 (past slash f) })

-- "a bad fraction": D is 0, or with W N is 0 or not below D
unfoldable pub bad_fraction : Fraction → Bool
bad_fraction x = eqb x.below 0 || (is_some x.whole && (eqb x.above 0 || leb x.below x.above))

-- the written value: top over bottom
unfoldable pub top_of : List ℕ → ℕ
top_of f = cond (holds slash f) (unwrap_or (fraction_of f).whole 0 * (fraction_of f).below + (fraction_of f).above) (millionths f)

unfoldable pub bottom_of : List ℕ → ℕ
bottom_of f = cond (holds slash f) (fraction_of f).below million

unfoldable pub seconds_judged : List ℕ → Judged
seconds_judged f =
    first
    (when (is_empty f) FieldEmpty
    ∷ when (not (is_seconds f)) Misspelt
    ∷ when (holds slash f && bad_fraction (fraction_of f)) OutsideLimit
    ∷ when (eqb (top_of f) 0) OutsideLimit
    ∷ [])

unfoldable pub seconds_of : List ℕ → Seconds
seconds_of f = says (seconds_judged f) (lowest_terms (top_of f) (bottom_of f))

-- ---- not part of the meaning: what the code's parts promise

-- 11 for 0; else in lowest terms
unfoldable pub reduced_of : ℕ → ℕ → Seconds
reduced_of top bottom =
    says (first (when (eqb top 0) OutsideLimit ∷ [])) (lowest_terms top bottom)

-- each number has up to 6 digits
pub record Small (x : Fraction) : Type 0 where
  pub whole : unwrap_or x.whole 0 < 1000000
  pub above : x.above < 1000000
  pub below : x.below < 1000000
