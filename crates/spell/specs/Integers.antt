-- "Integer: 1 to 6 digits; an identifier's value 1 to 10." "Label: 1 to 3 octal digits." "For a number or Boolean: 8, 6, 11,
-- 13"; an overlap's 10 is gone (02, request 3). "In a component line 11 is only for 0 or a above b; all that is too high is 13."
use Rattle.std.specs.Prelude.{ℕ, List, [], ◌∷◌, cond, not, ◌&&◌, leb, ltb, Ok}
use Rattle.text.specs.Blanks.{is_empty}
use Rattle.text.specs.Refusals.{Judged, when, first, says}
use Rattle.text.specs.declared.refusal.Refusal.TheVariants.{FieldEmpty, Misspelt, OutsideLimit, BeyondDeclared}
use Rattle.spell.specs.Digits.{digits_up_to, number}
use Rattle.spell.specs.Answers.{Number}

-- 1 to n digits, the number from least to most
unfoldable pub integer_judged : ℕ → ℕ → ℕ → List ℕ → Judged
integer_judged n least most f =
    first
    (when (is_empty f) FieldEmpty
    ∷ when (not (digits_up_to 10 n f)) Misspelt
    ∷ when (not (leb least (number 10 f) && leb (number 10 f) most)) OutsideLimit
    ∷ [])

unfoldable pub integer_of : ℕ → ℕ → ℕ → List ℕ → Number
integer_of n least most f = says (integer_judged n least most f) (number 10 f)

-- six digits at most, so at most 999999
abbrev pub most_of_six : ℕ
most_of_six = 999999

-- "Subframes, words and bits count from 1": 0 is 11, beyond the number declared is 13
unfoldable pub declared_judged : ℕ → List ℕ → Judged
declared_judged count f = first (integer_judged 6 1 most_of_six f ∷ when (ltb count (number 10 f)) BeyondDeclared ∷ [])

unfoldable pub declared_of : ℕ → List ℕ → Number
declared_of count f = says (declared_judged count f) (number 10 f)

-- "Leading and trailing may be empty"; an empty one says the number that stands for unknown
unfoldable pub margin_of : ℕ → ℕ → List ℕ → Number
margin_of most blank f = cond (is_empty f) (Ok blank) (integer_of 6 0 most f)

-- "label 377 octal"
abbrev pub highest_label : ℕ
highest_label = 255

unfoldable pub label_judged : List ℕ → Judged
label_judged f =
    first
    (when (is_empty f) FieldEmpty
    ∷ when (not (digits_up_to 8 3 f)) Misspelt
    ∷ when (ltb highest_label (number 8 f)) OutsideLimit
    ∷ [])

unfoldable pub label_of : List ℕ → Number
label_of f = says (label_judged f) (number 8 f)
