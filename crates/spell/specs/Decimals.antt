-- "Decimal: digits, or digits, a point, 1 to 6 digits." "Time offset: a decimal, 1 to 3 digits before the point, kept in
-- millionths. Delay: empty or a decimal with up to 6 digits before the point."
use Rattle.std.specs.Prelude.{ℕ, ◌+◌, ◌*◌, List, [], ◌∷◌, Bool, not, ◌||◌}
use Rattle.text.specs.Blanks.{is_empty}
use Rattle.text.specs.Parts.{up_to, past}
use Rattle.text.specs.Refusals.{Judged, when, first, says}
use Rattle.text.specs.declared.refusal.Refusal.TheVariants.{FieldEmpty, Misspelt}
use Rattle.spell.specs.Digits.{number, places, is_marked}
use Rattle.spell.specs.Answers.{Number}

abbrev pub point : ℕ
point = 46

abbrev pub million : ℕ
million = 1000000

-- at most n digits before the point
abbrev pub is_decimal : ℕ → List ℕ → Bool
is_decimal n f = is_marked point n 6 f

-- six places after the point, those not written counting 0
unfoldable pub millionths : List ℕ → ℕ
millionths f = number 10 (up_to point f) * million + places 10 6 0 (past point f)

unfoldable pub decimal_judged : ℕ → List ℕ → Judged
decimal_judged n f = first (when (is_empty f) FieldEmpty ∷ when (not (is_decimal n f)) Misspelt ∷ [])

unfoldable pub decimal_of : ℕ → List ℕ → Number
decimal_of n f = says (decimal_judged n f) (millionths f)

unfoldable pub delay_judged : List ℕ → Judged
delay_judged f = first (when (not (is_empty f || is_decimal 6 f)) Misspelt ∷ [])
