-- What the integers take, exactly: digits alone, and the number within its limits. Assumes nothing.
use native.Mathlib.Omega.{arith}
use mathlib.Core.Path.{◌≡◌, refl, ap}
use mathlib.Core.Logic.{◌↔◌}
use mathlib.Core.Bool.{not}
use mathlib.Core.List.{List}
use Prim.Native.Nat.{ℕ, ◌≤◌}
use lib.Dec.{leb}
use borrow.Author.Tests.{le-leb, leb-true, le-ltb, ltb-false, not-false}
use Rattle.lay.proofs.Tests.{and_0, and_1}
use Rattle.std.specs.Prelude.{Ok}
use Rattle.spell.specs.Digits.{number}
use Rattle.spell.specs.Integers.{integer_judged, integer_of, most_of_six, declared_judged, declared_of, highest_label, label_judged, label_of}
use Rattle.written.specs.Words.{Numeral, IsInteger, IsOctal}
use Rattle.text.proofs.Order.{says_ok, ok_says}
use Rattle.written.proofs.Passing.{first_all, all_first, when_false, false_when}
use Rattle.written.proofs.Numerals.{test_numeral, numeral_test}
use Rattle.written.proofs.Empty.{numeral_some}
use Rattle.written.proofs.Places.{six_below}

-- ---- from least to most

module _ (n least most : ℕ) (f : List ℕ) where
  integer_passed : integer_judged n least most f ≡ Ok tt → Numeral 10 n f × (least ≤ number 10 f) × (number 10 f ≤ most)
  unfolding integer_judged
  integer_passed e =
      let p = first_all _ e in
      let d = not-false _ (when_false _ _ p.1.0) in
      let w = not-false _ (when_false _ _ p.1.1.0) in
      let a = leb least (number 10 f) in
      let b = leb (number 10 f) most in
      (test_numeral 10 n f d, leb-true _ _ (and_0 a b w), leb-true _ _ (and_1 a b w))

  integer_passes : Numeral 10 n f → least ≤ number 10 f → number 10 f ≤ most → integer_judged n least most f ≡ Ok tt
  unfolding integer_judged
  integer_passes d a b =
      rw (numeral_some d, numeral_test 10 n f d, le-leb _ _ a, le-leb _ _ b)
      (all_first _ (refl, (refl, (refl, tt))))

  pub integer_exactly : (v : ℕ) → (integer_of n least most f ≡ Ok v) ↔ (IsInteger n f v × (least ≤ v) × (v ≤ most))
  unfolding integer_of
  integer_exactly v = (
    λ e.
        let s = says_ok (integer_judged n least most f) (number 10 f) v e in
        let p = integer_passed s.0 in
        (record { digits = p.0; value = s.1 }, omega arith, omega arith),
    λ r.
        let i = r.0 in
        ok_says (integer_judged n least most f) (number 10 f) v (integer_passes i.digits (omega (arith, i.value)) (omega (arith, i.value))) i.value,
  )

-- ---- up to a number declared

module _ (count : ℕ) (f : List ℕ) where
  pub declared_exactly : (v : ℕ) → (declared_of count f ≡ Ok v) ↔ (IsInteger 6 f v × (1 ≤ v) × (v ≤ count))
  unfolding declared_of declared_judged
  declared_exactly v = (
    λ e.
        let s = says_ok (declared_judged count f) (number 10 f) v e in
        let q = first_all _ s.0 in
        let p = integer_passed 6 1 most_of_six f q.0 in
        let w = ltb-false count (number 10 f) (when_false _ _ q.1.0) in
        (record { digits = p.0; value = s.1 }, omega arith, omega arith),
    λ r.
        let i = r.0 in
        let a : 1 ≤ number 10 f = omega (arith, i.value) in
        let b : number 10 f ≤ most_of_six = omega (arith, six_below f i.digits) in
        let c : number 10 f ≤ count = omega (arith, i.value) in
        ok_says (declared_judged count f) (number 10 f) v
        (all_first _ (integer_passes 6 1 most_of_six f i.digits a b, (false_when _ _ (le-ltb count (number 10 f) c), tt)))
        i.value,
  )

-- ---- a label is at most 377 octal

pub label_exactly : (f : List ℕ) (v : ℕ) → (label_of f ≡ Ok v) ↔ (IsOctal f v × (v ≤ highest_label))
unfolding label_of label_judged
label_exactly f v = (
  λ e.
      let s = says_ok (label_judged f) (number 8 f) v e in
      let p = first_all _ s.0 in
      let d = not-false _ (when_false _ _ p.1.0) in
      let w = ltb-false highest_label (number 8 f) (when_false _ _ p.1.1.0) in
      (record { digits = test_numeral 8 3 f d; value = s.1 }, omega arith),
  λ r.
      let i = r.0 in
      let c : number 8 f ≤ highest_label = omega (arith, i.value) in
      ok_says (label_judged f) (number 8 f) v
      (all_first _ (
        false_when _ _ (numeral_some i.digits),
        (false_when _ _ (ap not (numeral_test 8 3 f i.digits)), (false_when _ _ (le-ltb highest_label (number 8 f) c), tt)),
      ))
      i.value,
)
