-- A value has one pair of lowest terms: what has the value, and no divisor on both sides but 1, is what is stored.
-- Assumes nothing.
use native.Mathlib.Nat.{dvd-mul_left, dvd-mul_right, dvd-mul_left_of_dvd, dvd-add_iff_right, dvd_antisymm, div-add-mod', add-mul, mul_assoc, mul_comm, one-mul, eq_of_mul-eq-mul_right}
use native.Mathlib.Decide.{ℕ_discrete}
use mathlib.Core.Path.{◌≡◌, sym, ap, subst, ◌∙◌}
use mathlib.Core.Logic.{◌↔◌}
use mathlib.Core.Bool.{true, cond}
use Prim.Native.Nat.{ℕ, zero, suc, ◌+◌, ◌*◌, ◌/◌, ◌%◌, ◌≤◌, ◌<◌, ◌∣◌}
use lib.Dec.{eqb}
use borrow.Author.Tests.{eq-eqb, ne_eqb, eqb-true}
use Rattle.ratio.specs.Ratio.{gcd_in, gcd, lowest, lowest_terms}
use Rattle.ratio.proofs.Divisors.{lowest_one, one_lowest}
use Rattle.ratio.proofs.Reduced.{same_value, in_lowest, denominator_positive}
use Rattle.written.specs.Words.{IsLowest}

-- what divides a k and b k divides the rest of a by b, times k
rest_times : (e a b k : ℕ) → e ∣ a * k → e ∣ b * k → e ∣ (a % b) * k
rest_times e a b k p q =
    let s : a / b * (b * k) + (a % b) * k ≡ a * k =
    ap (λ (x : ℕ). x + (a % b) * k) (sym (mul_assoc (a / b) b k)) ∙ sym (add-mul (a / b * b) (a % b) k) ∙ ap (λ (x : ℕ). x * k) (div-add-mod' a b) in
    (dvd-add_iff_right e (dvd-mul_left_of_dvd e q (a / b))).1 (subst (λ (x : ℕ). e ∣ x) (sym s) p)

-- and what they have in common, times k
in_times : (n e a b k : ℕ) → e ∣ a * k → e ∣ b * k → e ∣ gcd_in n a b * k
unfolding gcd_in
in_times zero e a b k p q = p
in_times (suc n) e a b k p q = go (λ x y u v. in_times n e x y k u v) (ℕ_discrete b 0)
  where
    go : ((x y : ℕ) → e ∣ x * k → e ∣ y * k → e ∣ gcd_in n x y * k) → Dec (b ≡ 0) → e ∣ cond (eqb b 0) a (gcd_in n b (a % b)) * k
    go ih (yes z) = rw (eq-eqb b 0 z) p
    go ih (no z) = rw (ne_eqb b 0 z) (ih b (a % b) q (rest_times e a b k p q))

-- with nothing in common, what divides n k and d k divides k
only_once : (n d k e : ℕ) → lowest n d ≡ true → e ∣ n * k → e ∣ d * k → e ∣ k
unfolding lowest gcd
only_once n d k e h p q =
    subst (λ (x : ℕ). e ∣ x) (ap (λ (g : ℕ). g * k) (eqb-true (gcd_in (suc d) n d) 1 h) ∙ one-mul k) (in_times (suc d) e n d k p q)

-- ---- two pairs of lowest terms of one value are the same

module _ (a b n d : ℕ) (one : n * b ≡ a * d) (p : lowest a b ≡ true) (q : lowest n d ≡ true) where
  same_below : b ≡ d
  same_below =
      dvd_antisymm
      (only_once a b d b p (subst (λ (x : ℕ). b ∣ x) one (dvd-mul_left b n)) (dvd-mul_right b d))
      (only_once n d b d q (subst (λ (x : ℕ). d ∣ x) (sym one) (dvd-mul_left d a)) (dvd-mul_right d b))

  same_above : 0 < b → n ≡ a
  same_above h = eq_of_mul-eq-mul_right b h n a (one ∙ ap (λ (x : ℕ). a * x) (sym same_below))

-- ---- what is stored, in plain words

module _ (top bottom : ℕ) (h : 1 ≤ bottom) where
  stored_lowest : IsLowest top bottom (lowest_terms top bottom).numerator (lowest_terms top bottom).denominator
  stored_lowest =
      record {
        value = same_value top bottom h;
        terms = lowest_one (lowest_terms top bottom).numerator (lowest_terms top bottom).denominator (in_lowest top bottom h);
      }

  module _ (n d : ℕ) (l : IsLowest top bottom n d) where
    -- n e ≡ m d from n b ≡ a d and m b ≡ a e
    crossed : n * (lowest_terms top bottom).denominator ≡ (lowest_terms top bottom).numerator * d
    crossed =
        let m = (lowest_terms top bottom).numerator in
        let e = (lowest_terms top bottom).denominator in
        let p : (n * e) * bottom ≡ (m * d) * bottom =
        mul_assoc n e bottom
        ∙ ap (λ (x : ℕ). n * x) (mul_comm e bottom)
        ∙ sym (mul_assoc n bottom e)
        ∙ ap (λ (x : ℕ). x * e) (l.value ∙ mul_comm top d)
        ∙ mul_assoc d top e
        ∙ ap (λ (x : ℕ). d * x) (sym (same_value top bottom h))
        ∙ sym (mul_assoc d m bottom)
        ∙ ap (λ (x : ℕ). x * bottom) (mul_comm d m) in
        eq_of_mul-eq-mul_right bottom h (n * e) (m * d) p

    lowest_below : d ≡ (lowest_terms top bottom).denominator
    lowest_below =
        sym (same_below (lowest_terms top bottom).numerator (lowest_terms top bottom).denominator n d crossed (in_lowest top bottom h) (one_lowest n d l.terms))

    lowest_above : n ≡ (lowest_terms top bottom).numerator
    lowest_above =
        same_above (lowest_terms top bottom).numerator (lowest_terms top bottom).denominator n d crossed (in_lowest top bottom h) (one_lowest n d l.terms) (denominator_positive top bottom h)

pub lowest_exactly : (top bottom n d : ℕ) → 1 ≤ bottom → ((n ≡ (lowest_terms top bottom).numerator) × (d ≡ (lowest_terms top bottom).denominator)) ↔ IsLowest top bottom n d
lowest_exactly top bottom n d h = (λ e. rw (e.0, e.1) (stored_lowest top bottom h), λ l. (lowest_above top bottom h n d l, lowest_below top bottom h n d l))
