-- The same for times, bits, seconds and a range: each test against what is spelled. Assumes nothing.
use mathlib.Core.Path.{◌≡◌, refl}
use mathlib.Core.Logic.{inl, inr}
use mathlib.Core.Bool.{Bool, true, false, cond}
use mathlib.Core.List.{List}
use Prim.Native.Nat.{ℕ, ◌≤◌}
use native.Mathlib.Omega.{arith}
use Rattle.std.specs.Prelude.{Ok}
use Rattle.spell.specs.Answers.{amount_of}
use Rattle.spell.specs.Integers.{most_of_six, integer_of}
use Rattle.spell.specs.Decimals.{decimal_judged, decimal_of, delay_judged}
use Rattle.spell.specs.BitRanges.{component_bits_judged, component_bits_of, source_bits_judged}
use Rattle.spell.specs.Durations.{seconds_judged, seconds_of}
use Rattle.written.specs.Words.{IsRange}
use Rattle.written.proofs.Places.{six_below}
use Rattle.written.proofs.Decimals.{decimal_exactly, delay_exactly}
use Rattle.written.proofs.BitRanges.{component_bits_exactly, source_bits_exactly}
use Rattle.written.proofs.Durations.{seconds_exactly}
use Rattle.written.proofs.Judges.{decimal_judged_lem, component_bits_judged_lem, seconds_judged_lem}
use Rattle.lineforms.specs.LineFields.{range_judged}
use Rattle.lineforms.specs.Said.{numerator_of, denominator_of, low_of, high_of}
use Rattle.model.specs.Forms.{sheet_limits}
use Rattle.grammar.specs.Items.{Spelled, time, delay, bits, bits_or_none, seconds}
use Rattle.grammar.specs.Says.{range}
use Rattle.grammar.proofs.Tidy.{Tidy}
use Rattle.grammar.proofs.Spellings.{text_spelled, text_taken, integer_spelled, integer_taken}

module _ (f : List ℕ) where
  -- ---- times

  pub time_spelled : decimal_judged 3 f ≡ Ok tt → Spelled (time (amount_of (decimal_of 3 f))) f
  time_spelled e =
      let r = (decimal_judged_lem f 3).0 e in
      let s : decimal_of 3 f ≡ Ok r.0 = (decimal_exactly 3 f r.0).1 r.1 in
      rw s r.1

  pub time_taken : (v : ℕ) → Spelled (time v) f → (decimal_judged 3 f ≡ Ok tt) × (amount_of (decimal_of 3 f) ≡ v)
  time_taken v r =
      let s : decimal_of 3 f ≡ Ok v = (decimal_exactly 3 f v).1 r in
      ((decimal_judged_lem f 3).1 (v, r), rw s refl)

  pub delay_spelled : delay_judged f ≡ Ok tt → Spelled delay f
  delay_spelled e = (delay_exactly f).0 e

  pub delay_taken : Spelled delay f → delay_judged f ≡ Ok tt
  delay_taken r = (delay_exactly f).1 r

  -- ---- bits

  range_small : (a b : ℕ) → IsRange f a b → b ≤ most_of_six
  range_small a b (inl r) = omega (arith, r.high, six_below f r.digits)
  range_small a b (inr r) = omega (arith, r.high, six_below r.to r.digits.right)

  range_read : (a b : ℕ) → 1 ≤ a → a ≤ b → IsRange f a b → component_bits_of most_of_six f ≡ Ok (record { low = a; high = b })
  range_read a b h k r =
      (component_bits_exactly f most_of_six a b).1 (record { range = r; first = h; rising = k; last = range_small a b r })

  pub bits_spelled : (count : ℕ) → component_bits_judged count f ≡ Ok tt → Spelled (bits (low_of (component_bits_of most_of_six f)) (high_of (component_bits_of most_of_six f))) f
  bits_spelled count e =
      let r = (component_bits_judged_lem f count).0 e in
      let w = r.2 in
      let s = range_read r.0 r.1 w.first w.rising w.range in
      rw s w.range

  pub bits_taken : (count a b : ℕ) → 1 ≤ a → a ≤ b → b ≤ count → Spelled (bits a b) f
      → (component_bits_judged count f ≡ Ok tt) × (low_of (component_bits_of most_of_six f) ≡ a) × (high_of (component_bits_of most_of_six f) ≡ b)
  bits_taken count a b h k m r =
      let s = range_read a b h k r in
      ((component_bits_judged_lem f count).1 (a, b, record { range = r; first = h; rising = k; last = m }), rw s refl, rw s refl)

  pub bits_or_none_spelled : source_bits_judged f ≡ Ok tt → Spelled bits_or_none f
  bits_or_none_spelled e = (source_bits_exactly f).0 e

  pub bits_or_none_taken : Spelled bits_or_none f → source_bits_judged f ≡ Ok tt
  bits_or_none_taken r = (source_bits_exactly f).1 r

  -- ---- seconds

  pub seconds_spelled : seconds_judged f ≡ Ok tt → Spelled (seconds (numerator_of (seconds_of f)) (denominator_of (seconds_of f))) f
  seconds_spelled e =
      let r = (seconds_judged_lem f).0 e in
      let s : seconds_of f ≡ Ok (record { numerator = r.0; denominator = r.1 }) = (seconds_exactly f r.0 r.1).1 r.2 in
      rw s r.2

  pub seconds_taken : (n d : ℕ) → Spelled (seconds n d) f → (seconds_judged f ≡ Ok tt) × (numerator_of (seconds_of f) ≡ n) × (denominator_of (seconds_of f) ≡ d)
  seconds_taken n d r =
      let s : seconds_of f ≡ Ok (record { numerator = n; denominator = d }) = (seconds_exactly f n d).1 r in
      ((seconds_judged_lem f).1 (n, d, r), rw s refl, rw s refl)

  -- ---- an identifier's value, else a text

  pub range_spelled : (i : Bool) → Tidy f → range_judged i f ≡ Ok tt → Spelled (range i (cond i (amount_of (integer_of 10 0 sheet_limits.value f)) 0)) f
  unfolding range_judged
  range_spelled true t e = integer_spelled f 10 0 sheet_limits.value e
  range_spelled false t e = text_spelled f t e

  pub range_taken : (i : Bool) (v : ℕ) → v ≤ sheet_limits.value → Spelled (range i v) f
      → (range_judged i f ≡ Ok tt) × (i ≡ true → amount_of (integer_of 10 0 sheet_limits.value f) ≡ v)
  unfolding range_judged
  range_taken true v b r =
      let s = integer_taken f 10 0 sheet_limits.value v (omega arith) b r in
      (s.0, λ e. s.1)
  range_taken false v b r = (text_taken f r, λ e. absurd (cc))
