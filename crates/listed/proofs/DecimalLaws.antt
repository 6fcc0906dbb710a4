-- The fewest digits of a number are its text. Assumes nothing.
use mathlib.Core.Path.{◌≡◌, refl, sym, ap, ap₂, subst, ◌∙◌}
use mathlib.Core.List.{List, [], ◌∷◌, ◌++◌}
use Prim.Native.Nat.{ℕ, zero, suc, ◌+◌, ◌-◌, ◌*◌, ◌/◌, ◌%◌, ◌^◌, ◌≤◌, ◌<◌}
use native.Mathlib.Omega.{arith}
use native.Mathlib.Numerals.{unary_clauses}
use mathlib.Core.Bool.{Bool, true, false, cond}
use borrow.Author.Tests.{lt-ltb, le-ltb, ltb-true, ltb-false}
use lib.Dec.{ltb}
use lib.ListN.{length, take, length-append}
use Rattle.io.specs.Digits.{hex_digit_ascii, last_digits, IsDigitCount}
use Rattle.lay.specs.Bytes.{put}
use Rattle.listed.specs.Decimals.{digits_in, decimal_text}

-- ---- powers of ten

pub ten_more : (k : ℕ) → 10 ^ suc k ≡ 10 * 10 ^ k
ten_more k = simp unary_clauses (omega arith)

ten_some : (k : ℕ) → 1 ≤ 10 ^ k
ten_some zero = omega arith
ten_some (suc k) = omega (arith, ten_more k, ten_some k)

ten_rises : (m j : ℕ) → 10 ^ m ≤ 10 ^ (j + m)
ten_rises m zero = subst (λ (i : ℕ). 10 ^ m ≤ 10 ^ i) (let e : m ≡ 0 + m = omega arith in e) (omega arith)
ten_rises m (suc j) = subst (λ (i : ℕ). 10 ^ m ≤ 10 ^ i) (let e : suc (j + m) ≡ suc j + m = omega arith in e) (omega (arith, ten_more (j + m), ten_rises m j))

ten_below : (m k : ℕ) → m ≤ k → 10 ^ m ≤ 10 ^ k
ten_below m k h = subst (λ (i : ℕ). 10 ^ m ≤ 10 ^ i) (let e : k - m + m ≡ k = omega arith in e) (ten_rises m (k - m))

-- ---- the fewest digits

glyph_digit : (n : ℕ) → hex_digit_ascii (n % 10) ≡ 48 + n % 10
glyph_digit n = rw (lt-ltb (n % 10) 10 (omega arith))

one_digit : (m n : ℕ) → n < 10 → last_digits 10 1 n ≡ digits_in (suc m) n
one_digit m n h =
    let e : n % 10 ≡ n = omega arith in
    rw (lt-ltb n 10 h, glyph_digit n, e)

fewest_in : (k m n : ℕ) → n < 10 ^ suc k → (1 < suc k → 10 ^ k ≤ n) → suc k ≤ m → last_digits 10 (suc k) n ≡ digits_in m n
fewest_in k zero n h g l = absurd (omega arith)
fewest_in zero (suc m) n h g l = one_digit m n (omega (arith, h))
fewest_in (suc k) (suc m) n h g l =
    let low = g (omega arith) in
    let t = ten_more k in
    let u = ten_more (suc k) in
    let i : last_digits 10 (suc k) (n / 10) ≡ digits_in m (n / 10) = fewest_in k m (n / 10) (omega (arith, h, t, u)) (λ x. omega (arith, low, t)) (omega arith) in
    ap₂ (λ (a : List ℕ) (d : ℕ). a ++ (d ∷ [])) i (glyph_digit n)
    ∙ sym (rw (le-ltb n 10 (omega (arith, low, t, ten_some k))))

short_enough : (k n : ℕ) → n < 2 ^ 64 → (1 < suc k → 10 ^ k ≤ n) → suc k ≤ 20
short_enough k n h g = go (ltb k 20) refl
  where
    go : (b : Bool) → ltb k 20 ≡ b → suc k ≤ 20
    go true e = omega (arith, ltb-true k 20 e)
    go false e = let f = ltb-false k 20 e in absurd (omega (arith, h, g (omega (arith, f)), ten_below 20 k f))

digits_long : (k n : ℕ) → length (last_digits 10 k n) ≡ k
digits_long zero n = refl
digits_long (suc k) n = length-append (last_digits 10 k (n / 10)) (hex_digit_ascii (n % 10) ∷ []) ∙ (let e : length (last_digits 10 k (n / 10)) + 1 ≡ suc k = omega (arith, digits_long k (n / 10)) in e)

high : (k n : ℕ) → (1 < suc k → 10 ^ (suc k - 1) ≤ n) → 1 < suc k → 10 ^ k ≤ n
high k n g x = subst (λ (j : ℕ). 10 ^ j ≤ n) (let e : suc k - 1 ≡ k = omega arith in e) (g x)

-- what the digits' code leaves is the number's text
fewest_text : (k n : ℕ) → n < 2 ^ 64 → IsDigitCount 10 1 n k → last_digits 10 k n ≡ decimal_text n
unfolding decimal_text
fewest_text zero n h f = absurd (omega (arith, f.0))
fewest_text (suc k) n h f = fewest_in k 20 n f.1 (high k n f.2) (short_enough k n h (high k n f.2))

module _ (n k : ℕ) (h : n < 2 ^ 64) (f : IsDigitCount 10 1 n k) where
  pub decimal_put : (out after d : List ℕ) (o : ℕ) → take k d ≡ last_digits 10 k n → after ≡ put out o (take k d) → (o + k ≡ o + length (decimal_text n)) × (after ≡ put out o (decimal_text n))
  decimal_put out after d o e p =
      let t = fewest_text k n h f in
      (ap (λ (m : ℕ). o + m) (sym (ap length (sym t) ∙ digits_long k n)), p ∙ ap (put out o) (e ∙ t))

digits_in_short : (k n : ℕ) → length (digits_in k n) ≤ k
digits_in_short zero n = omega arith
digits_in_short (suc k) n = go (ltb n 10) (digits_in_short k (n / 10))
  where
    go : (b : Bool) → length (digits_in k (n / 10)) ≤ k → length (cond b ((48 + n) ∷ []) (digits_in k (n / 10) ++ ((48 + n % 10) ∷ []))) ≤ suc k
    go true h = omega arith
    go false h = omega (arith, length-append (digits_in k (n / 10)) ((48 + n % 10) ∷ []), h)

pub decimal_short : (n : ℕ) → length (decimal_text n) ≤ 20
unfolding decimal_text
decimal_short n = digits_in_short 20 n
