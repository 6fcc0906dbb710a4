-- A value's text reads back as the value, its minus sign included. Assumes nothing.
use mathlib.Core.Path.{◌≡◌, refl, sym, ap, ◌∙◌}
use mathlib.Core.Bool.{Bool, true, false, cond}
use mathlib.Core.List.{List, [], ◌∷◌, ◌++◌}
use Prim.Native.Nat.{ℕ, zero, suc, ◌+◌, ◌-◌, ◌*◌, ◌/◌, ◌%◌, ◌^◌, ◌≤◌, ◌<◌}
use native.Mathlib.Omega.{arith}
use borrow.Author.Tests.{ne_eqb}
use lib.Dec.{eqb, ltb}
use lib.IntN.{ℤ, pos, negsuc}
use lib.Signed.{mag}
use Rattle.listed.specs.Decimals.{digits_in, decimal_text, minus, value_text}
use Rattle.listed.proofs.DecimalLaws.{ten_more}

-- how a reader takes a number: digit after digit, each ten times what stood before
abbrev read_on : ℕ → List ℕ → ℕ
read_on v [] = v
read_on v (d ∷ ds) = read_on (10 * v + (d - 48)) ds

abbrev minus_of : ℕ → ℤ
minus_of zero = pos 0
minus_of (suc n) = negsuc n

-- and a value: with a minus sign the number after it is taken away from nothing
abbrev pub read_value : List ℕ → ℤ
read_value [] = pos 0
read_value (d ∷ ds) = cond (eqb d minus) (minus_of (read_on 0 ds)) (pos (read_on 0 (d ∷ ds)))

read_more : (v : ℕ) (ds : List ℕ) (d : ℕ) → read_on v (ds ++ (d ∷ [])) ≡ 10 * read_on v ds + (d - 48)
read_more v [] d = refl
read_more v (x ∷ xs) d = read_more (10 * v + (x - 48)) xs d

digits_back : (k n : ℕ) → n < 10 ^ k → read_on 0 (digits_in k n) ≡ n
digits_back zero n h = omega (arith, h)
digits_back (suc k) n h = go (ltb n 10) refl (λ x. digits_back k (n / 10) x)
  where
    go : (t : Bool) → ltb n 10 ≡ t → (n / 10 < 10 ^ k → read_on 0 (digits_in k (n / 10)) ≡ n / 10) → read_on 0 (cond t ((48 + n) ∷ []) (digits_in k (n / 10) ++ ((48 + n % 10) ∷ []))) ≡ n
    go true e ih = omega arith
    go false e ih = omega (arith, read_more 0 (digits_in k (n / 10)) (48 + n % 10), ih (omega (arith, h, ten_more k)))

-- a number's text begins with a digit
pub record Begins (l : List ℕ) : Type 0 where
  pub first : ℕ
  pub rest : List ℕ
  pub is : l ≡ first ∷ rest
  pub digit : 48 ≤ first

begins_on : (xs ys : List ℕ) → Begins xs → Begins (xs ++ ys)
begins_on xs ys b = record { first = b.first; rest = b.rest ++ ys; is = ap (λ (l : List ℕ). l ++ ys) b.is; digit = b.digit }

digits_begin : (k n : ℕ) → Begins (digits_in (suc k) n)
digits_begin zero n = go (ltb n 10)
  where
    go : (t : Bool) → Begins (cond t ((48 + n) ∷ []) ([] ++ ((48 + n % 10) ∷ [])))
    go true = record { first = 48 + n; rest = []; is = refl; digit = omega arith }
    go false = record { first = 48 + n % 10; rest = []; is = refl; digit = omega arith }
digits_begin (suc k) n = go (ltb n 10) (digits_begin k (n / 10))
  where
    go : (t : Bool) → Begins (digits_in (suc k) (n / 10)) → Begins (cond t ((48 + n) ∷ []) (digits_in (suc k) (n / 10) ++ ((48 + n % 10) ∷ [])))
    go true ih = record { first = 48 + n; rest = []; is = refl; digit = omega arith }
    go false ih = begins_on (digits_in (suc k) (n / 10)) ((48 + n % 10) ∷ []) ih

pub decimal_back : (n : ℕ) → n < 10 ^ 20 → read_on 0 (decimal_text n) ≡ n
unfolding decimal_text
decimal_back n h = digits_back 20 n h

-- a text that begins with a digit is read without a sign
plain : (l : List ℕ) → Begins l → read_value l ≡ pos (read_on 0 l)
plain l b =
    let t : read_value (b.first ∷ b.rest) ≡ pos (read_on 0 (b.first ∷ b.rest)) = rw (ne_eqb b.first minus (λ e. omega (arith, e, b.digit))) in
    ap read_value b.is ∙ (t ∙ sym (ap (λ (x : List ℕ). pos (read_on 0 x)) b.is))

-- mag is n for n and for -(n + 1): every value of the code is below two to the 63
pub value_back : (v : ℤ) → mag v < 2 ^ 63 → read_value (value_text v) ≡ v
unfolding value_text decimal_text
value_back (pos n) h = plain (digits_in 20 n) (digits_begin 19 n) ∙ ap pos (digits_back 20 n (omega (arith, h)))
value_back (negsuc n) h = ap minus_of (digits_back 20 (suc n) (omega (arith, h)))
