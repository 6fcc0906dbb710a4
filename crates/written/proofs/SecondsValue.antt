-- What the seconds mean: numerator over denominator is the written value, in lowest terms, and within the table's limits.
-- Assumes nothing.
use native.Mathlib.Omega.{arith}
use native.Mathlib.Nat.{mul-le-mul_right, suc-mul}
use mathlib.Core.Path.{◌≡◌}
use mathlib.Core.Logic.{inl, inr}
use mathlib.Core.List.{List}
use Prim.Native.Nat.{ℕ, suc, ◌+◌, ◌*◌, ◌≤◌, ◌<◌}
use Rattle.ratio.specs.Ratio.{lowest_terms}
use Rattle.ratio.proofs.Reduced.{same_value, in_lowest, denominator_positive, numerator_positive, denominator_small, stays_below}
use Rattle.model.specs.Forms.{sheet_limits}
use Rattle.spell.specs.Digits.{number}
use Rattle.spell.specs.Decimals.{million}
use Rattle.spell.specs.Durations.{top_of, bottom_of, seconds_judged, seconds_of}
use Rattle.std.specs.Prelude.{Ok}
use Rattle.written.specs.Values.{StoredSeconds}
use Rattle.written.specs.Words.{IsDecimal, IsSeconds, SaysSeconds}
use Rattle.written.proofs.Passing.{seconds_says}
use Rattle.written.proofs.Places.{six_below, millionths_below}
use Rattle.written.proofs.LowestTerms.{lowest_exactly}
use Rattle.written.proofs.Durations.{seconds_passed}

-- ---- a written value, of six digits, is below the limit, and its bottom within its own

decimal_small : (f : List ℕ) (v : ℕ) → IsDecimal 6 f v → v < sheet_limits.seconds * million
decimal_small f v (inl w) = omega (arith, w.value, six_below f w.digits)
decimal_small f v (inr p) = omega (arith, p.value, six_below p.before p.digits.left, millionths_below p.after p.digits.right)

-- W D and N, N below D, is at most W + 1 times D
mixed_small : (w n d : ℕ) → w < sheet_limits.seconds → n < d → w * d + n < sheet_limits.seconds * d
mixed_small w n d h k = omega (arith, suc-mul w d, mul-le-mul_right {m = suc w} {n = sheet_limits.seconds} d h)

written_below : (f : List ℕ) (top bottom : ℕ) → IsSeconds f top bottom → 1 ≤ bottom → top < sheet_limits.seconds * bottom
written_below f top bottom (inl d) h = omega (arith, decimal_small f top d.digits, d.denominator)
written_below f top bottom (inr (inl r)) h = omega (arith, r.numerator, six_below r.above r.digits.left)
written_below f top bottom (inr (inr r)) h =
    omega
    (arith, r.numerator, r.denominator, mixed_small (number 10 r.whole) (number 10 r.above) (number 10 r.under) (omega (arith, six_below r.whole r.whole_digits)) r.not_all)

bottom_small : (f : List ℕ) (top bottom : ℕ) → IsSeconds f top bottom → bottom ≤ sheet_limits.denominator
bottom_small f top bottom (inl d) = omega (arith, d.denominator)
bottom_small f top bottom (inr (inl r)) = omega (arith, r.denominator, six_below r.under r.digits.right)
bottom_small f top bottom (inr (inr r)) = omega (arith, r.denominator, six_below r.under r.under_digits)

-- ---- what is stored of it

stored : (f : List ℕ) (top bottom : ℕ) → IsSeconds f top bottom → 1 ≤ top → 1 ≤ bottom
    → StoredSeconds top bottom (lowest_terms top bottom).numerator (lowest_terms top bottom).denominator
stored f top bottom w a b =
    record {
      value = same_value top bottom b;
      terms = in_lowest top bottom b;
      some = numerator_positive top bottom b a;
      some_below = denominator_positive top bottom b;
      small = omega (arith, denominator_small top bottom b, bottom_small f top bottom w);
      less = stays_below top bottom b sheet_limits.seconds (written_below f top bottom w b);
    }

-- of what is read
pub seconds_value : (f : List ℕ) (n d : ℕ) → seconds_of f ≡ Ok (record { numerator = n; denominator = d }) → StoredSeconds (top_of f) (bottom_of f) n d
unfolding seconds_of
seconds_value f n d e =
    let s = seconds_says (seconds_judged f) _ n d e in
    let p = seconds_passed f s.0 in
    rw (s.1, s.2) (stored f (top_of f) (bottom_of f) p.0 p.1 p.2)

-- of what is written
pub says_value : (f : List ℕ) (n d : ℕ) (r : SaysSeconds f n d) → StoredSeconds r.top r.bottom n d
says_value f n d r =
    let l = (lowest_exactly r.top r.bottom n d r.divided).1 r.lowest in
    rw (l.0, l.1) (stored f r.top r.bottom r.written r.positive r.divided)
