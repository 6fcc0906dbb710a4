-- Cutting bytes at a mark: what is put together round a mark is found again, and what is cut is put together again.
-- Assumes nothing.
use native.Mathlib.Omega.{arith}
use mathlib.Core.Path.{◌≡◌, refl, sym, ap, ◌∙◌}
use mathlib.Core.Logic.{◌↔◌}
use mathlib.Core.Bool.{Bool, true, false, cond}
use mathlib.Core.List.{List, [], ◌∷◌, ◌++◌}
use Prim.Native.Nat.{ℕ, zero, suc, ◌+◌, ◌<◌}
use lib.ListN.{length, get_or, take, drop, length-append}
use lib.Seq.{take_at, take_all, drop-append-add, length-take-le, get_or-take}
use lib.Dec.{eqb}
use borrow.Author.Tests.{eq-eqb, ne_eqb, eqb-true, eqb-false, lt-ltb, le-ltb, ltb-true, ltb-false}
use Rattle.text.specs.Parts.{index_of, up_to, past, holds}
use Rattle.text.proofs.Cuts.{drop_end}
use Rattle.text.proofs.Finds.{index_le}
use Rattle.written.specs.Words.{Without}

-- ---- a list without the mark

without_index : (b : ℕ) (l : List ℕ) → Without b l → index_of b l ≡ length l
unfolding index_of
without_index b [] h = refl
without_index b (x ∷ l) h = rw (ne_eqb x b (h 0 (omega arith)), without_index b l (λ i k. h (suc i) (omega arith)))

pub without_holds : (b : ℕ) (l : List ℕ) → Without b l → holds b l ≡ false
unfolding holds
without_holds b l h = le-ltb (index_of b l) (length l) (omega (arith, without_index b l h))

pub without_up_to : (b : ℕ) (l : List ℕ) → Without b l → up_to b l ≡ l
unfolding up_to
without_up_to b l h = take_all (index_of b l) l (omega (arith, without_index b l h))

pub without_past : (b : ℕ) (l : List ℕ) → Without b l → past b l ≡ []
unfolding past
without_past b l h = drop_end l (index_of b l + 1) (omega (arith, without_index b l h))

-- before its first place it does not stand
before_index : (b : ℕ) (l : List ℕ) (i : ℕ) → i < index_of b l → get_or l i 0 ≡ b → ⊥
unfolding index_of
before_index b [] i h e = let z : ⊥ = omega arith in z
before_index b (x ∷ l) i h e = go (λ i. before_index b l i) (eqb x b) refl i h e
  where
    go : ((i : ℕ) → i < index_of b l → get_or l i 0 ≡ b → ⊥) → (t : Bool) → eqb x b ≡ t → (i : ℕ) → i < cond t 0 (suc (index_of b l)) → get_or (x ∷ l) i 0 ≡ b → ⊥
    go ih true q i h e = let z : ⊥ = omega arith in z
    go ih false q zero h e = eqb-false x b q e
    go ih false q (suc i) h e = ih i (omega arith) e

pub holds_without : (b : ℕ) (l : List ℕ) → holds b l ≡ false → Without b l
unfolding holds
holds_without b l e i h = before_index b l i (omega (arith, ltb-false (index_of b l) (length l) e))

pub without_exactly : (b : ℕ) (l : List ℕ) → (holds b l ≡ false) ↔ Without b l
without_exactly b l = (holds_without b l, without_holds b l)

-- ---- a list with the mark

mark_index : (b : ℕ) (w p : List ℕ) → Without b w → index_of b (w ++ (b ∷ p)) ≡ length w
unfolding index_of
mark_index b [] p h = rw (eq-eqb b b refl)
mark_index b (x ∷ w) p h = rw (ne_eqb x b (h 0 (omega arith)), mark_index b w p (λ i k. h (suc i) (omega arith)))

pub mark_holds : (b : ℕ) (w p : List ℕ) → Without b w → holds b (w ++ (b ∷ p)) ≡ true
unfolding holds
mark_holds b w p h = lt-ltb (index_of b (w ++ (b ∷ p))) (length (w ++ (b ∷ p))) (omega (arith, mark_index b w p h, length-append w (b ∷ p)))

pub mark_up_to : (b : ℕ) (w p : List ℕ) → Without b w → up_to b (w ++ (b ∷ p)) ≡ w
unfolding up_to
mark_up_to b w p h = take_at w (b ∷ p) (index_of b (w ++ (b ∷ p))) (sym (mark_index b w p h))

pub mark_past : (b : ℕ) (w p : List ℕ) → Without b w → past b (w ++ (b ∷ p)) ≡ p
unfolding past
mark_past b w p h = rw (mark_index b w p h) (drop-append-add w (b ∷ p) 1)

-- what is cut at the mark is put together again
put_back : (b : ℕ) (l : List ℕ) → index_of b l < length l → l ≡ take (index_of b l) l ++ (b ∷ drop (index_of b l + 1) l)
unfolding index_of
put_back b [] h = absurd (omega arith)
put_back b (x ∷ l) h = go (λ k. put_back b l k) (eqb x b) refl h
  where
    go : (index_of b l < length l → l ≡ take (index_of b l) l ++ (b ∷ drop (index_of b l + 1) l))
        → (t : Bool) → eqb x b ≡ t → cond t 0 (suc (index_of b l)) < suc (length l)
        → x ∷ l ≡ take (cond t 0 (suc (index_of b l))) (x ∷ l) ++ (b ∷ drop (cond t 0 (suc (index_of b l)) + 1) (x ∷ l))
    go ih true q k = ap (λ (y : ℕ). y ∷ l) (eqb-true x b q)
    go ih false q k =
        let e : suc (index_of b l) + 1 ≡ suc (index_of b l + 1) = omega arith in
        rw e (ap (λ (m : List ℕ). x ∷ m) (ih (omega arith)))

pub cut_again : (b : ℕ) (l : List ℕ) → holds b l ≡ true → l ≡ up_to b l ++ (b ∷ past b l)
unfolding holds up_to past
cut_again b l e = put_back b l (ltb-true (index_of b l) (length l) e)

pub up_to_without : (b : ℕ) (l : List ℕ) → Without b (up_to b l)
unfolding up_to
up_to_without b l i h e =
    let k : length (take (index_of b l) l) ≡ index_of b l = length-take-le (index_of b l) l (index_le b l) in
    let m : i < index_of b l = omega arith in
    before_index b l i m (sym (get_or-take (index_of b l) l i 0 m) ∙ e)

-- a byte stands in two lists joined only where it stands in one of them
pub without_join : (b : ℕ) (x y : List ℕ) → Without b x → Without b y → Without b (x ++ y)
without_join b [] y h k i m e = k i m e
without_join b (c ∷ x) y h k zero m e = h 0 (omega arith) e
without_join b (c ∷ x) y h k (suc i) m e = without_join b x y (λ j n. h (suc j) (omega arith)) k i (omega arith) e

pub without_more : (b c : ℕ) (l : List ℕ) → (c ≡ b → ⊥) → Without b l → Without b (c ∷ l)
without_more b c l h k zero m e = h e
without_more b c l h k (suc i) m e = k i (omega arith) e
