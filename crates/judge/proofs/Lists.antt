-- A test of each of a list's items, by their indices; and of each number below a bound. Assumes nothing.
use mathlib.Core.Path.{◌≡◌, refl, sym, ap, ap₂, ◌∙◌}
use mathlib.Core.Bool.{Bool, true, false, cond, ◌&&◌, ◌||◌}
use mathlib.Core.List.{List}
use Prim.Native.Nat.{ℕ, zero, suc, ◌≤◌, ◌<◌}
use native.Mathlib.Numerals.{add-one}
use native.Mathlib.Omega.{arith}
use borrow.Author.Tests.{lt-ltb, le-ltb}
use lib.Dec.{ltb}
use lib.ListN.{length, take, get_or}
use lib.Seq.{take-length}
use Rattle.std.specs.List.{list_all, list_any, range_with_len}
use Rattle.std.specs.Option.{MatchOption}
use Rattle.std.specs.declared.option.Option.{Option}
use Rattle.std.specs.declared.option.Option.TheVariants.{Some, None}
use Rattle.std.proofs.lemmas.List.Folds.{list_all_more, list_any_more}
use Rattle.std.proofs.lemmas.List.FromFn.{length-range_with_len, get_or-range_with_len}
use Rattle.lay.specs.Below.{all, any, find}
use Rattle.lay.proofs.Below.{find_at, find_none}

pub and_true : (a : Bool) → (a && true) ≡ a
and_true true = refl
and_true false = refl

module _ {A : Type 0} (p : A → Bool) (xs : List A) (d : A) (f : ℕ → Bool) where
  pub all_first : (n : ℕ) → n ≤ length xs → ((k : ℕ) → k < n → p (get_or xs k d) ≡ f k) → list_all p (take n xs) ≡ all n f
  all_first zero h e = refl
  all_first (suc n) h e =
      ap (λ (k : ℕ). list_all p (take k xs)) (sym (add-one n))
      ∙ (list_all_more p xs n d (omega arith) ∙ ap₂ ◌&&◌ (all_first n (omega arith) (λ k l. e k (omega arith))) (e n (omega arith)))

  any_first : (n : ℕ) → n ≤ length xs → ((k : ℕ) → k < n → p (get_or xs k d) ≡ f k) → list_any p (take n xs) ≡ any n f
  any_first zero h e = refl
  any_first (suc n) h e =
      ap (λ (k : ℕ). list_any p (take k xs)) (sym (add-one n))
      ∙ (list_any_more p xs n d (omega arith) ∙ ap₂ ◌||◌ (any_first n (omega arith) (λ k l. e k (omega arith))) (e n (omega arith)))

  pub all_items : ((k : ℕ) → k < length xs → p (get_or xs k d) ≡ f k) → list_all p xs ≡ all (length xs) f
  all_items e = ap (list_all p) (sym (take-length xs)) ∙ all_first (length xs) (omega arith) e

  pub any_items : ((k : ℕ) → k < length xs → p (get_or xs k d) ≡ f k) → list_any p xs ≡ any (length xs) f
  any_items e = ap (list_any p) (sym (take-length xs)) ∙ any_first (length xs) (omega arith) e

-- two tests that agree at each index of two lists of one length
pub same_all : {A B : Type 0} (p : A → Bool) (q : B → Bool) (xs : List A) (ys : List B) (d : A) (e : B) → length xs ≡ length ys
    → ((k : ℕ) → k < length ys → p (get_or xs k d) ≡ q (get_or ys k e)) → list_all p xs ≡ list_all q ys
same_all p q xs ys d e h g =
    all_items p xs d (λ k. q (get_or ys k e)) (λ k l. g k (omega arith))
    ∙ (ap (λ (n : ℕ). all n (λ k. q (get_or ys k e))) h ∙ sym (all_items q ys e (λ k. q (get_or ys k e)) (λ k l. refl)))

pub all_range : (n : ℕ) (f : ℕ → Bool) → list_all f (range_with_len 0 n) ≡ all n f
all_range n f =
    all_items f (range_with_len 0 n) 0 f (λ k h. ap f (omega (arith, get_or-range_with_len 0 n k 0 (omega (arith, length-range_with_len 0 n)))))
    ∙ ap (λ (m : ℕ). all m f) (length-range_with_len 0 n)

-- the first number below n of which f holds, where there is one
abbrev pub first_below : ℕ → (ℕ → Bool) → Option ℕ
first_below n f = cond (ltb (find n f) n) (Some (find n f)) None

pub first_is : (n : ℕ) (f : ℕ → Bool) (r : Option ℕ)
    → MatchOption r ((k : ℕ) → 0 ≤ k → k < n → f k ≡ false) (λ i. (0 ≤ i) × (i < n) × (f i ≡ true) × ((k : ℕ) → 0 ≤ k → k < i → f k ≡ false))
    → r ≡ first_below n f
first_is n f None h = rw (find_none n f (λ k l. h k (omega arith) l), le-ltb n n (omega arith))
first_is n f (Some i) h = rw (find_at n f i h.1 h.2 (λ k l. h.3 k (omega arith) l), lt-ltb i n h.1)
