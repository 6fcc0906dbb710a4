-- No field says two values: the plain words leave no choice. Assumes nothing.
use mathlib.Core.Path.{◌≡◌, sym, ◌∙◌}
use mathlib.Core.Bool.{Bool}
use mathlib.Core.List.{List}
use Prim.Native.Nat.{ℕ}
use Rattle.spell.specs.Durations.{seconds_judged, seconds_of}
use Rattle.written.specs.Words.{IsInteger, IsOctal, IsDecimal, IsRange, IsTruth, SaysSeconds}
use Rattle.written.proofs.Passing.{seconds_says}
use Rattle.written.proofs.Decimals.{decimal_test}
use Rattle.written.proofs.BitRanges.{range_test}
use Rattle.written.proofs.Durations.{seconds_exactly}
use Rattle.written.proofs.Truths.{truth_test}

pub one_integer : {n : ℕ} {f : List ℕ} {v w : ℕ} → IsInteger n f v → IsInteger n f w → v ≡ w
one_integer p q = p.value ∙ sym q.value

pub one_octal : {f : List ℕ} {v w : ℕ} → IsOctal f v → IsOctal f w → v ≡ w
one_octal p q = p.value ∙ sym q.value

module _ (f : List ℕ) where
  pub one_decimal : (n v w : ℕ) → IsDecimal n f v → IsDecimal n f w → v ≡ w
  one_decimal n v w p q = (decimal_test n f v p).1 ∙ sym (decimal_test n f w q).1

  pub one_range : (a b c d : ℕ) → IsRange f a b → IsRange f c d → (a ≡ c) × (b ≡ d)
  one_range a b c d p q =
      let s = range_test f a b p in
      let t = range_test f c d q in
      (s.1 ∙ sym t.1, s.2 ∙ sym t.2)

  pub one_truth : (b c : Bool) → IsTruth f b → IsTruth f c → b ≡ c
  one_truth b c p q = (truth_test f b p).1 ∙ sym (truth_test f c q).1

  pub one_seconds : (n d m e : ℕ) → SaysSeconds f n d → SaysSeconds f m e → (n ≡ m) × (d ≡ e)
  unfolding seconds_of
  one_seconds n d m e p q =
      let s = seconds_says (seconds_judged f) _ n d ((seconds_exactly f n d).1 p) in
      let t = seconds_says (seconds_judged f) _ m e ((seconds_exactly f m e).1 q) in
      (s.1 ∙ sym t.1, s.2 ∙ sym t.2)
