-- The test of digits with or without a mark holds exactly for digits alone and for digits round the mark. Assumes nothing.
use mathlib.Core.Path.{◌≡◌, refl, subst}
use mathlib.Core.Logic.{◌⊎◌, inl, inr}
use mathlib.Core.Bool.{Bool, true, false, not, ◌||◌}
use mathlib.Core.List.{List}
use Prim.Native.Nat.{ℕ, ◌<◌}
use Rattle.lay.proofs.Tests.{and_0, and_1, and_both}
use Rattle.text.specs.Parts.{up_to, past, holds}
use Rattle.spell.specs.Digits.{digits_up_to, is_marked}
use Rattle.written.specs.Words.{Numeral, Marked}
use Rattle.written.proofs.Numerals.{test_numeral, numeral_test, numeral_without}
use Rattle.written.proofs.Marks.{without_holds, without_up_to, holds_without, mark_holds, mark_up_to, mark_past, cut_again}

-- ---- digits round a mark are cut where they were put together

module _ (mark n m : ℕ) (small : mark < 48) {f x y : List ℕ} (w : Marked mark n m f x y) where
  pub marked_holds : holds mark f ≡ true
  marked_holds = rw w.written (mark_holds mark x y (numeral_without mark small w.left))

  pub marked_left : up_to mark f ≡ x
  marked_left = rw w.written (mark_up_to mark x y (numeral_without mark small w.left))

  pub marked_right : past mark f ≡ y
  marked_right = rw w.written (mark_past mark x y (numeral_without mark small w.left))

  pub marked_test : is_marked mark n m f ≡ true
  unfolding is_marked
  marked_test =
      rw (marked_holds, marked_left, marked_right)
      (and_both (numeral_test 10 n x w.left) (numeral_test 10 m y w.right))

-- ---- digits alone are not cut

module _ (mark n : ℕ) (small : mark < 48) {f : List ℕ} (d : Numeral 10 n f) where
  pub alone_holds : holds mark f ≡ false
  alone_holds = without_holds mark f (numeral_without mark small d)

  pub alone_left : up_to mark f ≡ f
  alone_left = without_up_to mark f (numeral_without mark small d)

  pub alone_test : (m : ℕ) → is_marked mark n m f ≡ true
  unfolding is_marked
  alone_test m = rw (alone_holds, alone_left) (and_both (numeral_test 10 n f d) refl)

-- ---- and where the test holds it is one of these

-- no mark, or cut at the first
abbrev pub Cases : ℕ → ℕ → ℕ → List ℕ → Type 0
Cases mark n m f = ((holds mark f ≡ false) × Numeral 10 n f) ⊎ ((holds mark f ≡ true) × Marked mark n m f (up_to mark f) (past mark f))

pub test_cases : (mark n m : ℕ) (f : List ℕ) → is_marked mark n m f ≡ true → Cases mark n m f
unfolding is_marked
test_cases mark n m f e = go (holds mark f) refl (and_1 (digits_up_to 10 n (up_to mark f)) (not (holds mark f) || digits_up_to 10 m (past mark f)) e)
  where
    before : Numeral 10 n (up_to mark f)
    before = test_numeral 10 n (up_to mark f) (and_0 (digits_up_to 10 n (up_to mark f)) (not (holds mark f) || digits_up_to 10 m (past mark f)) e)

    go : (t : Bool) → holds mark f ≡ t → (not t || digits_up_to 10 m (past mark f)) ≡ true → Cases mark n m f
    go true h k = inr (h, record { written = cut_again mark f h; left = before; right = test_numeral 10 m (past mark f) k })
    go false h k = inl (h, subst (λ (l : List ℕ). Numeral 10 n l) (without_up_to mark f (holds_without mark f h)) before)
