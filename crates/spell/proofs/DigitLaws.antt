-- Laws of digits in the form of the loops that read them. Assumes nothing.
use native.Mathlib.Omega.{arith}
use native.Mathlib.Numerals.{add-one}
use native.Mathlib.Nat.{pow-suc, pow-le-pow_right, mul-le-mul_left}
use mathlib.Core.Path.{◌≡◌, refl, sym, ap}
use mathlib.Core.Bool.{true, ◌&&◌}
use mathlib.Core.List.{List, [], ◌∷◌}
use Prim.Native.Nat.{ℕ, zero, suc, ◌+◌, ◌-◌, ◌*◌, ◌^◌, ◌≤◌, ◌<◌}
use lib.ListN.{length, get_or, drop}
use lib.Seq.{drop-drop}
use lib.Dec.{leb, ltb}
use borrow.Author.Tests.{lt-ltb, le-leb, leb-true, ltb-true}
use Rattle.std.specs.List.{list_all}
use Rattle.std.proofs.lemmas.List.Recursion.{same_from_clauses}
use Rattle.lay.proofs.Tests.{and_0, and_1}
use Rattle.text.proofs.Cuts.{drop_more, drop_end}
use Rattle.spell.specs.Digits.{is_digit, all_digits, digits_up_to, place_of, places}

-- ---- all are digits

pub all_is : (base : ℕ) (s : List ℕ) → all_digits base s ≡ list_all (is_digit base) s
unfolding all_digits
all_is base s = same_from_clauses (all_digits base) (list_all (is_digit base)) (λ b t. is_digit base b && t) refl (λ x xs. refl) (λ x xs. refl) s

pub digit_at : (base : ℕ) (s : List ℕ) (i : ℕ) → i < length s → all_digits base s ≡ true → (48 ≤ get_or s i 0) × (get_or s i 0 < 48 + base)
unfolding all_digits
digit_at base [] i h e = absurd (omega arith)
digit_at base (b ∷ s) zero h e =
    let d = and_0 (is_digit base b) (all_digits base s) e in
    (leb-true _ _ (and_0 (leb 48 b) (ltb b (48 + base)) d), ltb-true _ _ (and_1 (leb 48 b) (ltb b (48 + base)) d))
digit_at base (b ∷ s) (suc i) h e = digit_at base s i (omega arith) (and_1 (is_digit base b) (all_digits base s) e)

-- ---- 1 to n digits, by the tests that the code makes

module _ (base n : ℕ) (s : List ℕ) where
  pub up_all : 0 < length s → length s ≤ n → digits_up_to base n s ≡ all_digits base s
  unfolding digits_up_to
  up_all k h = simp (lt-ltb 0 (length s) k, le-leb _ _ h)

  -- and what it says
  pub up_some : digits_up_to base n s ≡ true → 0 < length s
  unfolding digits_up_to
  up_some e = ltb-true _ _ (and_0 (ltb 0 (length s)) (leb (length s) n && all_digits base s) e)

  up_rest : digits_up_to base n s ≡ true → leb (length s) n && all_digits base s ≡ true
  unfolding digits_up_to
  up_rest e = and_1 (ltb 0 (length s)) (leb (length s) n && all_digits base s) e

  pub up_few : digits_up_to base n s ≡ true → length s ≤ n
  up_few e = leb-true _ _ (and_0 (leb (length s) n) (all_digits base s) (up_rest e))

  pub up_digits : digits_up_to base n s ≡ true → all_digits base s ≡ true
  up_digits e = and_1 (leb (length s) n) (all_digits base s) (up_rest e)

-- ---- places

pub place_digit : (s : List ℕ) (i : ℕ) → i < length s → get_or s i 0 - 48 ≡ place_of (drop i s)
unfolding place_of
place_digit s i h = rw (drop_more s i h)

pub place_past : (s : List ℕ) (i : ℕ) → length s ≤ i → 0 ≡ place_of (drop i s)
unfolding place_of
place_past s i h = rw (drop_end s i h)

-- one place more
pub place_more : (base n i total d : ℕ) (s : List ℕ) → i < n → d ≡ place_of (drop i s) → places base (n - (i + 1)) (total * base + d) (drop (i + 1) s) ≡ places base (n - i) total (drop i s)
unfolding places
place_more base n i total d s k e =
    let left : n - i ≡ suc (n - (i + 1)) = omega arith in
    rw (left, e) (ap (λ (l : List ℕ). places base (n - (i + 1)) (total * base + place_of (drop i s)) l) (sym (drop-drop 1 i s)))

pub places_start : (base n : ℕ) (s : List ℕ) → places base (n - 0) 0 s ≡ places base n 0 s
places_start base n s =
    let e : n - 0 ≡ n = omega arith in
    rw e

pub places_all : (base n i total : ℕ) (s : List ℕ) → n ≤ i → places base (n - i) total s ≡ total
unfolding places
places_all base n i total s h =
    let e : n - i ≡ 0 = omega arith in
    rw e

-- ---- how large they are

ten_more : (i : ℕ) → 10 ^ (i + 1) ≡ 10 ^ i * 10
ten_more i = rw (add-one, pow-suc)

ten_ten : (i : ℕ) → i ≤ 10 → 10 ^ i ≤ 10000000000
ten_ten i h = pow-le-pow_right {n = 10} (omega arith) h

pub ten_six : (i : ℕ) → i ≤ 6 → 10 ^ i ≤ 1000000
ten_six i h = pow-le-pow_right {n = 10} (omega arith) h

pub product_small : (base total i : ℕ) → base ≤ 10 → i ≤ 9 → total < 10 ^ i → total * base ≤ 10000000000
product_small base total i b h t = omega (arith, mul-le-mul_left {m = base} {n = 10} total b, ten_more i, ten_ten (i + 1) (omega arith))

pub total_small : (base total i d : ℕ) → base ≤ 10 → d ≤ 9 → total < 10 ^ i → total * base + d < 10 ^ (i + 1)
total_small base total i d b k t = omega (arith, mul-le-mul_left {m = base} {n = 10} total b, ten_more i)

pub at_end_lem : (n i total : ℕ) → i ≤ n → n ≤ i → total < 10 ^ i → total < 10 ^ n
at_end_lem n i total h k t =
    let e : i ≡ n = omega arith in
    rw (← e) t
