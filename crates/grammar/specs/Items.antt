-- What stands in a field: an item, and the bytes that spell it. 01, "Spellings".
use Rattle.std.specs.Prelude.{ℕ, ◌-◌, ◌≤◌, ◌<◌, ◌≡◌, ◌⊎◌, Bool, List, [], length, get_or}
use Rattle.written.specs.Words.{IsInteger, IsOctal, IsDecimal, IsRange, IsRangeWithin, IsTruth, SaysSeconds}
use Rattle.model.specs.Margin.{Margin, Known, Unknown}
use Rattle.model.specs.Meaning.{ByteLaw}

-- Items with a value are kept, the others are read and not kept.
pub data Item : Type 0 where
  -- this text and no other: a keyword, `2.0`, a name; the empty one for a field that must be empty
  exactly : List ℕ → Item
  -- any text, and any text but the empty one
  text : Item
  some_text : Item
  -- a Boolean; one or nothing
  truth : Bool → Item
  truth_or_none : Item
  -- a number in 1 to so many digits
  integer : ℕ → ℕ → Item
  -- leading or trailing bits
  margin : Margin → Item
  -- a time offset in millionths; a delay
  time : ℕ → Item
  delay : Item
  -- bits from a to b; bits of a source or nothing
  bits : ℕ → ℕ → Item
  bits_or_none : Item
  label : Item
  -- seconds, n over d
  seconds : ℕ → ℕ → Item

-- "text is bytes 32 to 126, at most 200 after trimming": no comma, which parts fields, and no space at either end
pub record Text (f : List ℕ) : Type 0 where
  pub short : length f ≤ 200
  pub each : (i : ℕ) → i < length f → ByteLaw (get_or f i 0)
  pub begins : get_or f 0 0 ≡ 32 → ⊥
  pub ends : get_or f (length f - 1) 0 ≡ 32 → ⊥

abbrev pub Spelled : Item → List ℕ → Type 0
Spelled (exactly t) f = (f ≡ t) × Text f
Spelled text f = Text f
Spelled some_text f = (1 ≤ length f) × Text f
-- "Boolean: True, true, TRUE, False, false, FALSE."
Spelled (truth b) f = IsTruth f b
Spelled truth_or_none f = (f ≡ []) ⊎ ((b : Bool) × IsTruth f b)
-- "Integer: 1 to 6 digits; an identifier's value 1 to 10."
Spelled (integer n v) f = IsInteger n f v
-- "Leading and trailing may be empty"; the standard: "Should be left blank if unknown."
Spelled (margin Unknown) f = f ≡ []
Spelled (margin (Known v)) f = IsInteger 6 f v
-- "Time offset: a decimal, 1 to 3 digits before the point, kept in millionths. Delay: empty or a decimal with up to 6 digits
-- before the point."
Spelled (time v) f = IsDecimal 3 f v
Spelled delay f = (f ≡ []) ⊎ ((v : ℕ) × IsDecimal 6 f v)
-- "Bits: `a` or `a-b`."; "source bits 1 to 32"
Spelled (bits a b) f = IsRange f a b
Spelled bits_or_none f = (f ≡ []) ⊎ ((a : ℕ) × (b : ℕ) × IsRangeWithin 32 f a b)
-- "Label: 1 to 3 octal digits."; "label 377 octal"
Spelled label f = (v : ℕ) × (IsOctal f v × (v ≤ 255))
-- "Seconds: a decimal with up to 6 digits before the point, `N/D`, or `W N/D`"; "stored in lowest terms"
Spelled (seconds n d) f = SaysSeconds f n d
