-- What each spelling is, in plain words: which bytes may stand in a field, put together from digits and marks, and what they
-- say. No field is searched, cut or trimmed here.
use Rattle.std.specs.Prelude.{ℕ, ◌+◌, ◌*◌, ◌%◌, ◌≤◌, ◌<◌, ◌≡◌, ◌⊎◌, Bool, true, false, List, ◌∷◌, ◌++◌, length, get_or}
use Rattle.lay.specs.Quoted.{quoted}
use Rattle.text.specs.Blanks.{space, tab}
use Rattle.spell.specs.Digits.{number, places}
use Rattle.spell.specs.Decimals.{point, million}
use Rattle.spell.specs.BitRanges.{hyphen}
use Rattle.spell.specs.Durations.{slash}

-- ---- digits

-- byte 48 is the digit 0
pub record Digit (base b : ℕ) : Type 0 where
  pub least : 48 ≤ b
  pub below : b < 48 + base

-- 1 to n digits
pub record Numeral (base n : ℕ) (l : List ℕ) : Type 0 where
  pub some : 1 ≤ length l
  pub few : length l ≤ n
  pub each : (i : ℕ) → i < length l → Digit base (get_or l i 0)

-- x, a mark and y: 1 to n digits before the mark, 1 to m after it
pub record Marked (mark n m : ℕ) (f x y : List ℕ) : Type 0 where
  pub written : f ≡ x ++ (mark ∷ y)
  pub left : Numeral 10 n x
  pub right : Numeral 10 m y

-- ---- integers

-- v in 1 to n digits
pub record IsInteger (n : ℕ) (f : List ℕ) (v : ℕ) : Type 0 where
  pub digits : Numeral 10 n f
  pub value : v ≡ number 10 f

-- v in 1 to 3 octal digits
pub record IsOctal (f : List ℕ) (v : ℕ) : Type 0 where
  pub digits : Numeral 8 3 f
  pub value : v ≡ number 8 f

-- ---- decimals, of v millionths

-- digits alone
pub record IsWhole (n : ℕ) (f : List ℕ) (v : ℕ) : Type 0 where
  pub digits : Numeral 10 n f
  pub value : v ≡ number 10 f * million

-- digits, a point, 1 to 6 digits: tenths first, and places not written count 0
pub record IsPointed (n : ℕ) (f : List ℕ) (v : ℕ) : Type 0 where
  pub before : List ℕ
  pub after : List ℕ
  pub digits : Marked point n 6 f before after
  pub value : v ≡ number 10 before * million + places 10 6 0 after

abbrev pub IsDecimal : ℕ → List ℕ → ℕ → Type 0
IsDecimal n f v = IsWhole n f v ⊎ IsPointed n f v

-- ---- bits, from a to b

-- one bit
pub record IsBit (f : List ℕ) (a b : ℕ) : Type 0 where
  pub digits : Numeral 10 6 f
  pub low : a ≡ number 10 f
  pub high : b ≡ number 10 f

-- two, with a hyphen between
pub record IsSpan (f : List ℕ) (a b : ℕ) : Type 0 where
  pub from : List ℕ
  pub to : List ℕ
  pub digits : Marked hyphen 6 6 f from to
  pub low : a ≡ number 10 from
  pub high : b ≡ number 10 to

abbrev pub IsRange : List ℕ → ℕ → ℕ → Type 0
IsRange f a b = IsBit f a b ⊎ IsSpan f a b

-- bits that count from 1, rise, and end at a limit
pub record IsRangeWithin (most : ℕ) (f : List ℕ) (a b : ℕ) : Type 0 where
  pub range : IsRange f a b
  pub first : 1 ≤ a
  pub rising : a ≤ b
  pub last : b ≤ most

-- ---- seconds, top over bottom

-- a decimal: millionths over a million
pub record IsDecimalSeconds (f : List ℕ) (top bottom : ℕ) : Type 0 where
  pub digits : IsDecimal 6 f top
  pub denominator : bottom ≡ million

-- `N/D`
pub record IsFraction (f : List ℕ) (top bottom : ℕ) : Type 0 where
  pub above : List ℕ
  pub under : List ℕ
  pub digits : Marked slash 6 6 f above under
  pub numerator : top ≡ number 10 above
  pub denominator : bottom ≡ number 10 under

-- `W N/D`: one space, N below D, N not 0
pub record IsMixed (f : List ℕ) (top bottom : ℕ) : Type 0 where
  pub whole : List ℕ
  pub above : List ℕ
  pub under : List ℕ
  pub written : f ≡ whole ++ (space ∷ (above ++ (slash ∷ under)))
  pub whole_digits : Numeral 10 6 whole
  pub above_digits : Numeral 10 6 above
  pub under_digits : Numeral 10 6 under
  pub not_none : 1 ≤ number 10 above
  pub not_all : number 10 above < number 10 under
  pub numerator : top ≡ number 10 whole * number 10 under + number 10 above
  pub denominator : bottom ≡ number 10 under

abbrev pub IsSeconds : List ℕ → ℕ → ℕ → Type 0
IsSeconds f top bottom = IsDecimalSeconds f top bottom ⊎ (IsFraction f top bottom ⊎ IsMixed f top bottom)

-- k divides n with no rest
abbrev pub Divides : ℕ → ℕ → Type 0
Divides k n = n % k ≡ 0

-- n over d is top over bottom, and nothing but 1 divides both n and d
pub record IsLowest (top bottom n d : ℕ) : Type 0 where
  pub value : n * bottom ≡ top * d
  pub terms : (k : ℕ) → Divides k n → Divides k d → k ≡ 1

-- n over d seconds: greater than 0, D not 0, in lowest terms
pub record SaysSeconds (f : List ℕ) (n d : ℕ) : Type 0 where
  pub top : ℕ
  pub bottom : ℕ
  pub written : IsSeconds f top bottom
  pub positive : 1 ≤ top
  pub divided : 1 ≤ bottom
  pub lowest : IsLowest top bottom n d

-- ---- texts

-- b stands nowhere in l
abbrev pub Without : ℕ → List ℕ → Type 0
Without b l = (i : ℕ) → i < length l → get_or l i 0 ≡ b → ⊥

-- at most n bytes, and no tab; the bytes of a line are 32 to 126 and the tab
pub record IsText (n : ℕ) (f : List ℕ) : Type 0 where
  pub short : length f ≤ n
  pub plain : Without tab f

-- ---- truths

abbrev pub IsTrue : List ℕ → Type 0
IsTrue f =
    (f ≡ quoted "True")
    ⊎ ((f ≡ quoted "true")
    ⊎ (f ≡ quoted "TRUE"))

abbrev pub IsFalse : List ℕ → Type 0
IsFalse f =
    (f ≡ quoted "False")
    ⊎ ((f ≡ quoted "false")
    ⊎ (f ≡ quoted "FALSE"))

abbrev pub IsTruth : List ℕ → Bool → Type 0
IsTruth f true = IsTrue f
IsTruth f false = IsFalse f
