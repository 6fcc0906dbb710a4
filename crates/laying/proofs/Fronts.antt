-- Rows from the front. Assumes nothing.
use mathlib.Core.Path.{◌≡◌, refl, sym, ap, ◌∙◌}
use mathlib.Core.List.{List, [], ◌∷◌, ◌++◌, append_assoc}
use Prim.Native.Nat.{ℕ, zero, suc}
use Rattle.lay.specs.Below.{flat}

pub nil_end : {A : Type 0} (l : List A) → l ++ [] ≡ l
nil_end [] = refl
nil_end {A} (x ∷ l) = ap (λ (m : List A). x ∷ m) (nil_end l)

pub flat_front : {A : Type 0} (n : ℕ) (f : ℕ → List A) → flat (suc n) f ≡ f 0 ++ flat n (λ k. f (suc k))
flat_front zero f = sym (nil_end (f 0))
flat_front {A} (suc n) f =
    ap (λ (l : List A). l ++ f (suc n)) (flat_front n f) ∙ append_assoc (f 0) (flat n (λ k. f (suc k))) (f (suc n))
