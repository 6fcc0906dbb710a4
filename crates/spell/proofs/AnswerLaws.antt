-- What a field says tells of its tests: they are judged as it is, and where it says a value they pass. Assumes nothing.
use mathlib.Core.Path.{◌≡◌, sym}
use mathlib.Core.List.{List}
use Prim.Native.Nat.{ℕ}
use Rattle.std.specs.Prelude.{Ok}
use Rattle.text.specs.Refusals.{judged_of}
use Rattle.text.proofs.Order.{says_ok, judged_says}
use Rattle.spell.specs.Digits.{number}
use Rattle.spell.specs.Truths.{truth_judged, truth_of}
use Rattle.spell.specs.Integers.{integer_judged, integer_of, declared_judged, declared_of, label_judged, label_of}
use Rattle.spell.specs.Decimals.{decimal_judged, decimal_of}
use Rattle.spell.specs.BitRanges.{low_bit, high_bit, bits_judged, bits_of, component_bits_judged, component_bits_of}
use Rattle.spell.specs.Durations.{seconds_judged, seconds_of}
use Rattle.spell.specs.declared.answers.Bits.{Bits}

-- ---- the two that others are built on

module _ (n least most : ℕ) (f : List ℕ) where
  pub integer_passes : (w : ℕ) → integer_of n least most f ≡ Ok w → (integer_judged n least most f ≡ Ok tt) × (number 10 f ≡ w)
  unfolding integer_of
  integer_passes w e = let p = says_ok _ _ w e in (p.0, sym p.1)

  pub integer_same : integer_judged n least most f ≡ judged_of (integer_of n least most f)
  unfolding integer_of
  integer_same = sym (judged_says _ _)

module _ (f : List ℕ) where
  pub range_passes : (b : Bits) → bits_of f ≡ Ok b → (bits_judged f ≡ Ok tt) × (record { low = low_bit f; high = high_bit f } ≡ b)
  unfolding bits_of
  range_passes b e = let p = says_ok _ _ b e in (p.0, sym p.1)

  pub range_same : bits_judged f ≡ judged_of (bits_of f)
  unfolding bits_of
  range_same = sym (judged_says _ _)

-- ---- the tests of the other spellings

pub declared_same : (count : ℕ) (f : List ℕ) → declared_judged count f ≡ judged_of (declared_of count f)
unfolding declared_of
declared_same count f = sym (judged_says _ _)

pub label_same : (f : List ℕ) → label_judged f ≡ judged_of (label_of f)
unfolding label_of
label_same f = sym (judged_says _ _)

pub decimal_same : (n : ℕ) (f : List ℕ) → decimal_judged n f ≡ judged_of (decimal_of n f)
unfolding decimal_of
decimal_same n f = sym (judged_says _ _)

pub truth_same : (f : List ℕ) → truth_judged f ≡ judged_of (truth_of f)
unfolding truth_of
truth_same f = sym (judged_says _ _)

pub component_same : (count : ℕ) (f : List ℕ) → component_bits_judged count f ≡ judged_of (component_bits_of count f)
unfolding component_bits_of
component_same count f = sym (judged_says _ _)

pub seconds_same : (f : List ℕ) → seconds_judged f ≡ judged_of (seconds_of f)
unfolding seconds_of
seconds_same f = sym (judged_says _ _)
