-- Numbers as the listing writes them: decimal digits, no zero in front; a minus sign first where a value is negative.
use Rattle.std.specs.Prelude.{ℕ, zero, suc, ◌+◌, ◌/◌, ◌%◌, cond, List, [], ◌∷◌, ◌++◌, ltb, ℤ, pos, negsuc}

-- in at most so many digits
abbrev pub digits_in : ℕ → ℕ → List ℕ
digits_in zero n = []
digits_in (suc k) n = cond (ltb n 10) ((48 + n) ∷ []) (digits_in k (n / 10) ++ ((48 + n % 10) ∷ []))

-- twenty digits hold every number of the code
unfoldable pub decimal_text : ℕ → List ℕ
decimal_text n = digits_in 20 n

abbrev pub minus : ℕ
minus = 45

-- `negsuc n` is minus (n + 1)
unfoldable pub value_text : ℤ → List ℕ
value_text (pos n) = decimal_text n
value_text (negsuc n) = minus ∷ decimal_text (suc n)
