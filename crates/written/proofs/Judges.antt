-- What passes without its value being asked for, exactly: the field says some value. Assumes nothing.
use mathlib.Core.Path.{◌≡◌}
use mathlib.Core.Logic.{◌↔◌}
use mathlib.Core.Bool.{Bool}
use mathlib.Core.List.{List}
use Prim.Native.Nat.{ℕ, ◌≤◌}
use Rattle.std.specs.Prelude.{Ok}
use Rattle.spell.specs.Truths.{truth_judged, truth_of}
use Rattle.spell.specs.Integers.{integer_judged, integer_of, declared_judged, declared_of, highest_label, label_judged, label_of}
use Rattle.spell.specs.Decimals.{decimal_judged, decimal_of}
use Rattle.spell.specs.BitRanges.{bits_judged, bits_of, component_bits_judged, component_bits_of}
use Rattle.spell.specs.Durations.{seconds_judged, seconds_of}
use Rattle.written.specs.Words.{IsInteger, IsOctal, IsDecimal, IsRange, IsRangeWithin, IsTruth, SaysSeconds}
use Rattle.written.proofs.Passing.{some_said}
use Rattle.written.proofs.Integers.{integer_exactly, declared_exactly, label_exactly}
use Rattle.written.proofs.Decimals.{decimal_exactly}
use Rattle.written.proofs.BitRanges.{bits_exactly, component_bits_exactly}
use Rattle.written.proofs.Durations.{seconds_exactly}
use Rattle.written.proofs.Truths.{truth_exactly}

module _ (f : List ℕ) where
  pub integer_judged_lem : (n least most : ℕ) → (integer_judged n least most f ≡ Ok tt) ↔ ((v : ℕ) × (IsInteger n f v × (least ≤ v) × (v ≤ most)))
  unfolding integer_of
  integer_judged_lem n least most = some_said _ _ (integer_exactly n least most f)

  pub declared_judged_lem : (count : ℕ) → (declared_judged count f ≡ Ok tt) ↔ ((v : ℕ) × (IsInteger 6 f v × (1 ≤ v) × (v ≤ count)))
  unfolding declared_of
  declared_judged_lem count = some_said _ _ (declared_exactly count f)

  pub label_judged_lem : (label_judged f ≡ Ok tt) ↔ ((v : ℕ) × (IsOctal f v × (v ≤ highest_label)))
  unfolding label_of
  label_judged_lem = some_said _ _ (label_exactly f)

  pub decimal_judged_lem : (n : ℕ) → (decimal_judged n f ≡ Ok tt) ↔ ((v : ℕ) × IsDecimal n f v)
  unfolding decimal_of
  decimal_judged_lem n = some_said _ _ (decimal_exactly n f)

  pub truth_judged_lem : (truth_judged f ≡ Ok tt) ↔ ((b : Bool) × IsTruth f b)
  unfolding truth_of
  truth_judged_lem = some_said _ _ (truth_exactly f)

  pub bits_judged_lem : (bits_judged f ≡ Ok tt) ↔ ((a : ℕ) × (b : ℕ) × (IsRange f a b × (1 ≤ a) × (a ≤ b)))
  unfolding bits_of
  bits_judged_lem =
      let p = some_said {P = λ x. IsRange f x.low x.high × (1 ≤ x.low) × (x.low ≤ x.high)} (bits_judged f) _ (λ x. bits_exactly f x.low x.high) in
      (λ e. let r = p.0 e in (r.0.low, r.0.high, r.1), λ r. p.1 (record { low = r.0; high = r.1 }, r.2))

  pub component_bits_judged_lem : (count : ℕ) → (component_bits_judged count f ≡ Ok tt) ↔ ((a : ℕ) × (b : ℕ) × IsRangeWithin count f a b)
  unfolding component_bits_of
  component_bits_judged_lem count =
      let p = some_said {P = λ x. IsRangeWithin count f x.low x.high} (component_bits_judged count f) _ (λ x. component_bits_exactly f count x.low x.high) in
      (λ e. let r = p.0 e in (r.0.low, r.0.high, r.1), λ r. p.1 (record { low = r.0; high = r.1 }, r.2))

  pub seconds_judged_lem : (seconds_judged f ≡ Ok tt) ↔ ((n : ℕ) × (d : ℕ) × SaysSeconds f n d)
  unfolding seconds_of
  seconds_judged_lem =
      let p = some_said {P = λ x. SaysSeconds f x.numerator x.denominator} (seconds_judged f) _ (λ x. seconds_exactly f x.numerator x.denominator) in
      (λ e. let r = p.0 e in (r.0.numerator, r.0.denominator, r.1), λ r. p.1 (record { numerator = r.0; denominator = r.1 }, r.2))
