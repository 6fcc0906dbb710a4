-- What holds of every item of a list, by its index; sums and rows over a list's items. Assumes nothing.
use mathlib.Core.Path.{◌≡◌, refl, ap}
use mathlib.Core.List.{List, [], ◌∷◌, ◌++◌}
use Prim.Native.Nat.{ℕ, zero, suc, ◌+◌, ◌<◌}
use native.Mathlib.Omega.{arith}
use lib.ListN.{length, get_or, take, drop, length-append}
use Rattle.lay.specs.Below.{sum, tab}

abbrev pub Each : {A : Type 0} → (A → Type 0) → A → List A → Type 0
Each P d xs = (k : ℕ) → k < length xs → P (get_or xs k d)

pub each_none : {A : Type 0} (P : A → Type 0) (d : A) (xs : List A) → xs ≡ [] → Each P d xs
each_none P d xs e k h = absurd (omega (arith, ap length e))

-- one item more at the end
pub each_more : {A : Type 0} (P : A → Type 0) (d : A) (xs : List A) (x : A) → Each P d xs → P x → Each P d (xs ++ (x ∷ []))
each_more P d [] x h p zero l = p
each_more P d [] x h p (suc k) l = absurd (omega arith)
each_more P d (y ∷ xs) x h p zero l = h 0 (omega arith)
each_more P d (y ∷ xs) x h p (suc k) l = each_more P d xs x (λ j m. h (suc j) (omega arith)) p k (omega arith)

pub each_take : {A : Type 0} (P : A → Type 0) (d : A) (n : ℕ) (xs : List A) → Each P d xs → Each P d (take n xs)
each_take P d zero xs h k l = absurd (omega arith)
each_take P d (suc n) [] h k l = absurd (omega arith)
each_take P d (suc n) (x ∷ xs) h zero l = h 0 (omega arith)
each_take P d (suc n) (x ∷ xs) h (suc k) l = each_take P d n xs (λ j m. h (suc j) (omega arith)) k (omega arith)

pub each_drop : {A : Type 0} (P : A → Type 0) (d : A) (n : ℕ) (xs : List A) → Each P d xs → Each P d (drop n xs)
each_drop P d zero xs h k l = h k l
each_drop P d (suc n) [] h k l = absurd (omega arith)
each_drop P d (suc n) (x ∷ xs) h k l = each_drop P d n xs (λ j m. h (suc j) (omega arith)) k l

pub length_more : {A : Type 0} (xs : List A) (x : A) → length (xs ++ (x ∷ [])) ≡ length xs + 1
length_more xs x = length-append xs (x ∷ [])

-- ---- from the front

pub sum_front : (n : ℕ) (f : ℕ → ℕ) → sum (suc n) f ≡ f 0 + sum n (λ k. f (suc k))
sum_front zero f = omega arith
sum_front (suc n) f = let h = sum_front n f in omega arith

pub tab_front : {A : Type 0} (n : ℕ) (f : ℕ → A) → tab (suc n) f ≡ f 0 ∷ tab n (λ k. f (suc k))
tab_front zero f = refl
tab_front {A} (suc n) f = ap (λ (l : List A). l ++ (f (suc n) ∷ [])) (tab_front n f)
