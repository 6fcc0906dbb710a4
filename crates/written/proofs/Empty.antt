-- Which fields are empty. Assumes nothing.
use native.Mathlib.Omega.{arith}
use mathlib.Core.Path.{◌≡◌, refl, ap}
use mathlib.Core.Logic.{◌⊎◌, inl, inr, ⊎_elim}
use mathlib.Core.Bool.{Bool, true, false, not, ◌||◌}
use mathlib.Core.List.{List, [], ◌∷◌, ◌++◌}
use Prim.Native.Nat.{ℕ}
use lib.ListN.{length, length-append}
use borrow.Author.Tests.{ne_eqb, eqb-true}
use Rattle.lay.proofs.Tests.{and_0, or_either}
use Rattle.text.specs.Blanks.{is_empty}
use Rattle.text.specs.Parts.{up_to, past, holds}
use Rattle.text.proofs.Places.{up_to_le}
use Rattle.spell.specs.Digits.{digits_up_to, is_marked}
use Rattle.written.specs.Words.{Numeral}
use Rattle.written.proofs.Numerals.{test_numeral}

no_bytes : (l : List ℕ) → length l ≡ 0 → l ≡ []
no_bytes [] e = refl
no_bytes (x ∷ l) e = absurd (omega arith)

pub empty_nil : (f : List ℕ) → is_empty f ≡ true → f ≡ []
empty_nil f e = no_bytes f (eqb-true (length f) 0 e)

pub nil_empty : (f : List ℕ) → f ≡ [] → is_empty f ≡ true
nil_empty f e = rw e

-- empty, or what a test takes
pub or_empty : (f : List ℕ) (t : Bool) → (is_empty f || t) ≡ true → (f ≡ []) ⊎ (t ≡ true)
or_empty f t e = ⊎_elim (λ a. inl (empty_nil f a)) inr (or_either (is_empty f) t e)

pub empty_or : (f : List ℕ) (t : Bool) → (f ≡ []) ⊎ (t ≡ true) → (is_empty f || t) ≡ true
empty_or f t (inl e) = rw e
empty_or f t (inr e) = rw e (right (is_empty f))
  where
    right : (a : Bool) → (a || true) ≡ true
    right true = refl
    right false = refl

-- ---- no numeral is

pub numeral_some : {base n : ℕ} {l : List ℕ} → Numeral base n l → is_empty l ≡ false
numeral_some {l = l} d = ne_eqb (length l) 0 (λ e. let z : ⊥ = omega (arith, d.some) in z)

pub marked_some : (mark n m : ℕ) (f : List ℕ) → is_marked mark n m f ≡ true → is_empty f ≡ false
unfolding is_marked
marked_some mark n m f e =
    let d = test_numeral 10 n (up_to mark f) (and_0 (digits_up_to 10 n (up_to mark f)) (not (holds mark f) || digits_up_to 10 m (past mark f)) e) in
    ne_eqb (length f) 0 (λ q. let z : ⊥ = omega (arith, d.some, up_to_le mark f) in z)

-- ---- nor what holds a mark

pub joined_some : (mark : ℕ) (f x y : List ℕ) → f ≡ x ++ (mark ∷ y) → is_empty f ≡ false
joined_some mark f x y e = ne_eqb (length f) 0 (λ q. let z : ⊥ = omega (arith, ap length e, length-append x (mark ∷ y)) in z)
