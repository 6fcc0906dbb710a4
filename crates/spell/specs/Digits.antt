-- Digits, and the number that they spell.
use Rattle.std.specs.Prelude.{ℕ, zero, suc, ◌+◌, ◌-◌, ◌*◌, List, [], ◌∷◌, Bool, true, not, ◌&&◌, ◌||◌, length, drop, leb, ltb}
use Rattle.text.specs.Parts.{up_to, past, holds}

-- a digit of a base: byte 48 is 0
abbrev pub is_digit : ℕ → ℕ → Bool
is_digit base b = leb 48 b && ltb b (48 + base)

unfoldable pub all_digits : ℕ → List ℕ → Bool
all_digits base [] = true
all_digits base (b ∷ l) = is_digit base b && all_digits base l

-- "1 to n digits"
unfoldable pub digits_up_to : ℕ → ℕ → List ℕ → Bool
digits_up_to base n l = ltb 0 (length l) && (leb (length l) n && all_digits base l)

-- the place that a list begins with; past the end it is 0
unfoldable pub place_of : List ℕ → ℕ
place_of [] = 0
place_of (b ∷ l) = b - 48

-- the value of n places, read from the left after a total
unfoldable pub places : ℕ → ℕ → ℕ → List ℕ → ℕ
places base zero total l = total
places base (suc n) total l = places base n (total * base + place_of l) (drop 1 l)

unfoldable pub number : ℕ → List ℕ → ℕ
number base l = places base (length l) 0 l

-- 1 to n digits; or these, a mark, and 1 to m digits
unfoldable pub is_marked : ℕ → ℕ → ℕ → List ℕ → Bool
is_marked mark n m l = digits_up_to 10 n (up_to mark l) && (not (holds mark l) || digits_up_to 10 m (past mark l))
