-- What the places of a numeral add up to: each digit times its power of the base. Assumes nothing.
use native.Mathlib.Omega.{arith}
use native.Mathlib.Nat.{pow-suc, pow-zero, pow-le-pow_right, mul_assoc, mul-one, zero-mul, suc-mul, add-mul, mul-le-mul_right}
use native.Mathlib.Decide.{dec_lt}
use mathlib.Core.Path.{◌≡◌, refl, sym, ap, ap₂, subst, ◌∙◌}
use mathlib.Core.List.{List, [], ◌∷◌, ◌++◌}
use Prim.Native.Nat.{ℕ, zero, suc, ◌+◌, ◌-◌, ◌*◌, ◌^◌, ◌≤◌, ◌<◌}
use lib.ListN.{length, get_or, drop, length-append, get_or-append, get_or-eq_default}
use lib.Seq.{drop-drop, get_or-drop, get_or_at}
use Rattle.lay.specs.Below.{sum}
use Rattle.lay.proofs.Below.{sum_same}
use Rattle.spell.specs.Digits.{place_of, places, number}
use Rattle.written.specs.Values.{digit_at, place_sum, numeral_sum}
use Rattle.written.specs.Words.{Digit, Numeral}

place_head : (l : List ℕ) → place_of l ≡ digit_at l 0
unfolding place_of
place_head [] = omega arith
place_head (b ∷ l) = refl

place_at : (l : List ℕ) (i : ℕ) → place_of (drop i l) ≡ digit_at l i
place_at l i =
    let e : i + 0 ≡ i = omega arith in
    place_head (drop i l) ∙ ap (λ (b : ℕ). b - 48) (get_or-drop i l 0 0 ∙ ap (λ (k : ℕ). get_or l k 0) e)

-- one place more at the end: base times the value, and the digit
last_place : (base n total : ℕ) (l : List ℕ) → places base (suc n) total l ≡ places base n total l * base + place_of (drop n l)
unfolding places
last_place base zero total l = refl
last_place base (suc n) total l =
    let e : 1 + n ≡ suc n = omega arith in
    last_place base n (total * base + place_of l) (drop 1 l)
    ∙ ap (λ (m : List ℕ). places base n (total * base + place_of l) (drop 1 l) * base + place_of m) (drop-drop n 1 l ∙ ap (λ (k : ℕ). drop k l) e)

places_more : (base n total : ℕ) (l : List ℕ) → places base (suc n) total l ≡ places base n total l * base + digit_at l n
places_more base n total l = last_place base n total l ∙ ap (λ (d : ℕ). places base n total l * base + d) (place_at l n)

sum_times : (n : ℕ) (f : ℕ → ℕ) (c : ℕ) → sum n f * c ≡ sum n (λ i. f i * c)
sum_times zero f c = zero-mul c
sum_times (suc n) f c = add-mul (sum n f) (f n) c ∙ ap (λ (k : ℕ). k + f n * c) (sum_times n f c)

-- n places: the first counts base ^ (n - 1), the last 1
pub places_sum : (base n : ℕ) (l : List ℕ) → places base n 0 l ≡ place_sum base n l
places_sum base zero l = unfold places in refl
places_sum base (suc n) l =
    places_more base n 0 l
    ∙ ap (λ (k : ℕ). k * base + digit_at l n) (places_sum base n l)
    ∙ ap (λ (k : ℕ). k + digit_at l n) (sum_times n (λ i. digit_at l i * base ^ (n - 1 - i)) base ∙ sum_same n _ _ (λ i h. raised i h))
    ∙ ap (λ (k : ℕ). sum n (λ i. digit_at l i * base ^ (suc n - 1 - i)) + k) (sym (single n))
  where
    raised : (i : ℕ) → i < n → digit_at l i * base ^ (n - 1 - i) * base ≡ digit_at l i * base ^ (suc n - 1 - i)
    raised i h =
        let e : suc n - 1 - i ≡ suc (n - 1 - i) = omega arith in
        mul_assoc (digit_at l i) (base ^ (n - 1 - i)) base
        ∙ ap (λ (k : ℕ). digit_at l i * k) (sym (pow-suc base (n - 1 - i)) ∙ ap (λ (k : ℕ). base ^ k) (sym e))

    single : (m : ℕ) → digit_at l m * base ^ (suc m - 1 - m) ≡ digit_at l m
    single m =
        let e : suc m - 1 - m ≡ 0 = omega arith in
        ap (λ (k : ℕ). digit_at l m * base ^ k) e ∙ ap (λ (k : ℕ). digit_at l m * k) (pow-zero base) ∙ mul-one (digit_at l m)

-- a numeral's number
pub number_sum : (base : ℕ) (l : List ℕ) → number base l ≡ numeral_sum base l
unfolding number
number_sum base l = places_sum base (length l) l

-- one digit more at its end: base times the number, and the digit
pub number_more : (base : ℕ) (l : List ℕ) (b : ℕ) → number base (l ++ (b ∷ [])) ≡ number base l * base + (b - 48)
unfolding number
number_more base l b =
    let e : length (l ++ (b ∷ [])) ≡ suc (length l) = length-append l (b ∷ []) ∙ omega arith in
    ap (λ (n : ℕ). places base n 0 (l ++ (b ∷ []))) e
    ∙ places_more base (length l) 0 (l ++ (b ∷ []))
    ∙ ap₂ (λ (k d : ℕ). k * base + (d - 48)) front (get_or_at l b [] 0 (length l) refl)
  where
    front : places base (length l) 0 (l ++ (b ∷ [])) ≡ places base (length l) 0 l
    front =
        places_sum base (length l) (l ++ (b ∷ []))
        ∙ sum_same (length l) _ _ (λ i h. ap (λ (d : ℕ). (d - 48) * base ^ (length l - 1 - i)) (get_or-append l (b ∷ []) 0 i h))
        ∙ sym (places_sum base (length l) l)

-- ---- how large it is

digit_small : (base : ℕ) (l : List ℕ) → 0 < base → ((i : ℕ) → i < length l → Digit base (get_or l i 0)) → (i : ℕ) → digit_at l i < base
digit_small base l p h i = go (dec_lt i (length l))
  where
    go : Dec (i < length l) → digit_at l i < base
    go (yes k) = let d = h i k in omega (arith, d.least, d.below)
    go (no k) = omega (arith, get_or-eq_default l 0 {n = i} (omega arith))

-- n places of digits are below base ^ n
places_below : (base n : ℕ) (l : List ℕ) → 0 < base → ((i : ℕ) → i < length l → Digit base (get_or l i 0)) → places base n 0 l < base ^ n
places_below base zero l p h = unfold places in omega (arith, pow-zero base)
places_below base (suc n) l p h =
    let k = places_below base n l p h in
    let m : places base n 0 l * base + base ≤ base ^ n * base = subst (λ (x : ℕ). x ≤ base ^ n * base) (suc-mul (places base n 0 l) base) (mul-le-mul_right base k) in
    omega (arith, places_more base n 0 l, digit_small base l p h n, pow-suc base n)

pub number_below : (base n : ℕ) (l : List ℕ) → 0 < base → Numeral base n l → number base l < base ^ n
unfolding number
number_below base n l p h = omega (arith, places_below base (length l) l p h.each, pow-le-pow_right {n = base} p h.few)

-- up to 6 decimal digits
pub six_below : (l : List ℕ) → Numeral 10 6 l → number 10 l < 1000000
six_below l h = number_below 10 6 l (omega arith) h

pub millionths_below : (l : List ℕ) → Numeral 10 6 l → places 10 6 0 l < 1000000
millionths_below l h = places_below 10 6 l (omega arith) h.each
