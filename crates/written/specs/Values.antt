-- What the written numbers are worth: digits as sums of powers, and what is stored of seconds.
use Rattle.std.specs.Prelude.{ℕ, ◌+◌, ◌-◌, ◌*◌, ◌^◌, ◌≤◌, ◌<◌, ◌≡◌, ◌⊎◌, true, List, [], ◌∷◌, ◌++◌, length, get_or}
use Rattle.lay.specs.Below.{sum}
use Rattle.ratio.specs.Ratio.{lowest}
use Rattle.model.specs.Forms.{sheet_limits}
use Rattle.spell.specs.Decimals.{point, million}
use Rattle.written.specs.Words.{Digit, Numeral}

-- the digit at i; past the end it is 0
abbrev pub digit_at : List ℕ → ℕ → ℕ
digit_at l i = get_or l i 0 - 48

-- n places: the first counts base ^ (n - 1), the last 1
abbrev pub place_sum : ℕ → ℕ → List ℕ → ℕ
place_sum base n l = sum n (λ i. digit_at l i * base ^ (n - 1 - i))

-- the number that digits spell
abbrev pub numeral_sum : ℕ → List ℕ → ℕ
numeral_sum base l = place_sum base (length l) l

-- a decimal's millionths: the whole number times a million, and the i-th digit after the point times 10 ^ (5 - i), digits
-- not written counting 0
pub record Millionths (n : ℕ) (f : List ℕ) (v : ℕ) : Type 0 where
  pub before : List ℕ
  pub after : List ℕ
  pub written : ((f ≡ before) × (after ≡ [])) ⊎ (f ≡ before ++ (point ∷ after))
  pub whole : Numeral 10 n before
  pub few : length after ≤ 6
  pub each : (i : ℕ) → i < length after → Digit 10 (get_or after i 0)
  pub value : v ≡ numeral_sum 10 before * million + sum 6 (λ i. digit_at after i * 10 ^ (5 - i))

-- "numerator over denominator is the written value", in lowest terms and within the table's limits
pub record StoredSeconds (top bottom n d : ℕ) : Type 0 where
  pub value : n * bottom ≡ top * d
  pub terms : lowest n d ≡ true
  pub some : 1 ≤ n
  pub some_below : 1 ≤ d
  pub small : d ≤ sheet_limits.denominator
  pub less : n < sheet_limits.seconds * d
