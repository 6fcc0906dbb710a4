-- The plain spelling of an item spells it, in no more bytes than a name has. Assumes nothing.
use mathlib.Core.Path.{refl}
use mathlib.Core.Logic.{inl, inr}
use mathlib.Core.Bool.{true, false}
use mathlib.Core.List.{[], ◌∷◌}
use Prim.Native.Nat.{ℕ, zero, suc, ◌^◌, ◌≤◌, ◌<◌}
use native.Mathlib.Omega.{arith}
use lib.ListN.{length, get_or, length-append}
use Rattle.spell.specs.Digits.{number, places, place_of}
use Rattle.spell.specs.BitRanges.{hyphen}
use Rattle.written.specs.Words.{Digit, IsInteger, IsOctal}
use Rattle.model.specs.Forms.{sheet_limits}
use Rattle.model.specs.Meaning.{ByteLaw, SecondsLaw}
use Rattle.model.specs.Margin.{Known, Unknown}
use Rattle.grammar.specs.Items.{Item, exactly, text, some_text, truth, truth_or_none, integer, margin, time, delay, bits, bits_or_none, label, seconds, Text, Spelled}
use Rattle.grammar.specs.Plain.{decimal, plain_item}
use Rattle.grammar.proofs.Digits.{decimal_is, decimal_six, pointed_is, pointed_short}
use Rattle.grammar.proofs.PlainSeconds.{seconds_spelled, seconds_short}

-- ---- texts

pub empty_text : Text []
empty_text =
    record { short = omega arith; each = λ i h. absurd (omega arith); begins = λ e. omega (arith, e); ends = λ e. omega (arith, e) }

hyphen_text : Text (hyphen ∷ [])
hyphen_text =
    record { short = omega arith; each = each; begins = λ e. omega (arith, e); ends = λ e. omega (arith, e) }
  where
    each : (i : ℕ) → i < 1 → ByteLaw (get_or (hyphen ∷ []) i 0)
    each zero h = record { least = omega arith; most = omega arith; comma = λ e. omega (arith, e) }
    each (suc i) h = absurd (omega arith)

-- ---- a label, an integer

zero_label : IsOctal (48 ∷ []) 0
unfolding number places place_of
zero_label = record { digits = record { some = omega arith; few = omega arith; each = each }; value = refl }
  where
    each : (i : ℕ) → i < 1 → Digit 8 (get_or (48 ∷ []) i 0)
    each zero h = record { least = omega arith; below = omega arith }
    each (suc i) h = absurd (omega arith)

-- v has at most m digits
pub record Counted (m v : ℕ) : Type 0 where
  pub some : 1 ≤ m
  pub few : v < 10 ^ m
  pub most : v < 10000000000

-- what a plain spelling asks of an item
abbrev pub Sayable : Item → Type 0
Sayable (exactly t) = Text t × (length t ≤ sheet_limits.text)
Sayable text = Unit {0}
Sayable some_text = Unit {0}
Sayable (truth b) = Unit {0}
Sayable truth_or_none = Unit {0}
Sayable (integer m v) = Counted m v
Sayable (margin Unknown) = Unit {0}
Sayable (margin (Known v)) = v < 1000000
Sayable (time v) = v < 1000000000
Sayable delay = Unit {0}
Sayable (bits a b) = (a < 1000000) × (b < 1000000)
Sayable bits_or_none = Unit {0}
Sayable label = Unit {0}
Sayable (seconds n d) = SecondsLaw sheet_limits n d

integer_spelled : (m v : ℕ) → Counted m v → IsInteger m (decimal v) v
integer_spelled zero v h = absurd (omega (arith, h.some))
integer_spelled (suc m) v h = decimal_is m v h.most h.few

pub item_spelled : (i : Item) → Sayable i → Spelled i (plain_item i)
item_spelled (exactly t) h = (refl, h.0)
item_spelled text h = empty_text
item_spelled some_text h = (omega arith, hyphen_text)
item_spelled (truth true) h = inl refl
item_spelled (truth false) h = inl refl
item_spelled truth_or_none h = inl refl
item_spelled (integer m v) h = integer_spelled m v h
item_spelled (margin Unknown) h = refl
item_spelled (margin (Known v)) h = decimal_six v h
item_spelled (time v) h = pointed_is 2 v (omega (arith, h)) (omega (arith, h))
item_spelled delay h = inl refl
item_spelled (bits a b) h =
    let x = decimal_six a h.0 in
    let y = decimal_six b h.1 in
    inr (record {
      from = decimal a;
      to = decimal b;
      digits = record { written = refl; left = x.digits; right = y.digits };
      low = x.value;
      high = y.value;
    })
item_spelled bits_or_none h = inl refl
item_spelled label h = (0, (zero_label, omega arith))
item_spelled (seconds n d) h = seconds_spelled n d h

pub item_short : (i : Item) → Sayable i → length (plain_item i) ≤ sheet_limits.text
item_short (exactly t) h = h.1
item_short text h = omega arith
item_short some_text h = omega arith
item_short (truth true) h = omega arith
item_short (truth false) h = omega arith
item_short truth_or_none h = omega arith
item_short (integer m v) h = omega (arith, (decimal_is 9 v h.most h.most).digits.few)
item_short (margin Unknown) h = omega arith
item_short (margin (Known v)) h = omega (arith, (decimal_six v h).digits.few)
item_short (time v) h = omega (arith, pointed_short 2 v (omega (arith, h)) (omega (arith, h)))
item_short delay h = omega arith
item_short (bits a b) h =
    omega (arith, length-append (decimal a) (hyphen ∷ decimal b), (decimal_six a h.0).digits.few, (decimal_six b h.1).digits.few)
item_short bits_or_none h = omega arith
item_short label h = omega arith
item_short (seconds n d) h = omega (arith, seconds_short n d h)
