-- What the truths take, exactly: six words. Assumes nothing.
use mathlib.Core.Path.{◌≡◌, refl, sym, ap}
use mathlib.Core.Logic.{◌↔◌, ◌⊎◌, inl, inr, ⊎_elim}
use mathlib.Core.Bool.{Bool, true, false, not, ◌||◌}
use mathlib.Core.List.{List, []}
use Prim.Native.Nat.{ℕ}
use borrow.Author.Tests.{not-false}
use Rattle.lay.specs.Bytes.{same}
use Rattle.lay.proofs.Bytes.{same_eq}
use Rattle.lay.proofs.Tests.{or_either}
use Rattle.text.specs.Blanks.{is_empty}
use Rattle.std.specs.Prelude.{Ok}
use Rattle.spell.specs.Truths.{says_true, says_false, truth_judged, truth_of, truth_or_empty_judged}
use Rattle.written.specs.Words.{IsTrue, IsFalse, IsTruth}
use Rattle.text.proofs.Order.{says_ok, ok_says}
use Rattle.written.proofs.Passing.{first_all, all_first, when_false, false_when}
use Rattle.written.proofs.Empty.{or_empty, empty_or}

-- ---- three words each

three : (f a b c : List ℕ) → (same f a || (same f b || same f c)) ≡ true → (f ≡ a) ⊎ ((f ≡ b) ⊎ (f ≡ c))
three f a b c e =
    ⊎_elim (λ p. inl (same_eq f a p))
    (λ q. inr (⊎_elim (λ p. inl (same_eq f b p)) (λ p. inr (same_eq f c p)) (or_either (same f b) (same f c) q)))
    (or_either (same f a) (same f b || same f c) e)

pub test_true : (f : List ℕ) → says_true f ≡ true → IsTrue f
unfolding says_true
test_true f e = three f _ _ _ e

pub test_false : (f : List ℕ) → says_false f ≡ true → IsFalse f
unfolding says_false
test_false f e = three f _ _ _ e

pub true_test : (f : List ℕ) → IsTrue f → says_true f ≡ true
unfolding says_true same
true_test f (inl e) = rw e
true_test f (inr (inl e)) = rw e
true_test f (inr (inr e)) = rw e

-- and what says false does not say true
pub false_test : (f : List ℕ) → IsFalse f → (says_true f ≡ false) × (says_false f ≡ true)
unfolding says_true says_false same
false_test f (inl e) = (rw e, rw e)
false_test f (inr (inl e)) = (rw e, rw e)
false_test f (inr (inr e)) = (rw e, rw e)

-- ---- what a field says

some_truth : (f : List ℕ) → IsTruth f true ⊎ IsTruth f false → is_empty f ≡ false
some_truth f (inl (inl e)) = rw e
some_truth f (inl (inr (inl e))) = rw e
some_truth f (inl (inr (inr e))) = rw e
some_truth f (inr (inl e)) = rw e
some_truth f (inr (inr (inl e))) = rw e
some_truth f (inr (inr (inr e))) = rw e

-- the test that takes both, and which of them
test_truth : (f : List ℕ) → (says_true f || says_false f) ≡ true → IsTruth f (says_true f)
test_truth f e = go (says_true f) refl e
  where
    go : (t : Bool) → says_true f ≡ t → (t || says_false f) ≡ true → IsTruth f t
    go true p e = test_true f p
    go false p e = test_false f e

pub truth_test : (f : List ℕ) (b : Bool) → IsTruth f b → ((says_true f || says_false f) ≡ true) × (b ≡ says_true f) × (is_empty f ≡ false)
truth_test f true w = let p = true_test f w in (rw p, sym p, some_truth f (inl w))
truth_test f false w = let p = false_test f w in (rw (p.0, p.1), sym p.0, some_truth f (inr w))

pub truth_exactly : (f : List ℕ) (b : Bool) → (truth_of f ≡ Ok b) ↔ IsTruth f b
unfolding truth_of truth_judged
truth_exactly f b = (
  λ e.
      let s = says_ok (truth_judged f) (says_true f) b e in
      let p = first_all _ s.0 in
      rw s.1 (test_truth f (not-false _ (when_false _ _ p.1.0))),
  λ w.
      let t = truth_test f b w in
      ok_says (truth_judged f) (says_true f) b (all_first _ (false_when _ _ t.2, (false_when _ _ (ap not t.0), tt))) t.1,
)

pub truth_or_empty_exactly : (f : List ℕ) → (truth_or_empty_judged f ≡ Ok tt) ↔ ((f ≡ []) ⊎ ((b : Bool) × IsTruth f b))
unfolding truth_or_empty_judged
truth_or_empty_exactly f = (
  λ e.
      let p = first_all _ e in
      ⊎_elim inl (λ t. inr (says_true f, test_truth f t)) (or_empty f (says_true f || says_false f) (not-false _ (when_false _ _ p.0))),
  λ d.
      let t = empty_or f (says_true f || says_false f) (⊎_elim inl (λ w. inr (truth_test f w.0 w.1).0) d) in
      all_first _ (false_when _ _ (ap not t), tt),
)
