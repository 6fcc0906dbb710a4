-- A number's digits spell it: in the fewest digits, in six, and millionths with a point. Assumes nothing.
use mathlib.Core.Path.{◌≡◌, refl, sym, ap, subst, ◌∙◌}
use mathlib.Core.Logic.{inl, inr}
use mathlib.Core.Bool.{Bool, true, false, cond}
use mathlib.Core.List.{List, [], ◌∷◌, ◌++◌}
use Prim.Native.Nat.{ℕ, zero, suc, ◌+◌, ◌-◌, ◌*◌, ◌/◌, ◌%◌, ◌^◌, ◌≤◌, ◌<◌}
use native.Mathlib.Omega.{arith}
use native.Mathlib.Nat.{pow-suc}
use borrow.Author.Count.{below_more}
use borrow.Author.Tests.{lt-ltb, ltb-true, ltb-false, eqb-true}
use lib.Dec.{eqb, ltb}
use lib.ListN.{length, get_or, length-append, get_or-append}
use lib.Seq.{get_or_at}
use Rattle.spell.specs.Digits.{number, places, place_of}
use Rattle.spell.specs.Decimals.{point, million}
use Rattle.written.specs.Words.{Digit, IsInteger, IsDecimal}
use Rattle.written.proofs.Places.{number_more}
use Rattle.grammar.specs.Plain.{fewest, decimal, padded, pointed}

-- ---- one digit, and one digit more

one_digit : (m n : ℕ) → n < 10 → IsInteger (suc m) ((48 + n) ∷ []) n
unfolding number places place_of
one_digit m n h =
    record {
      digits = record { some = omega arith; few = omega arith; each = each };
      value = let e : n ≡ 0 * 10 + (48 + n - 48) = omega arith in e;
    }
  where
    each : (i : ℕ) → i < 1 → Digit 10 (get_or ((48 + n) ∷ []) i 0)
    each zero l = record { least = omega arith; below = omega arith }
    each (suc i) l = absurd (omega arith)

digit_more : (m v d : ℕ) (l : List ℕ) → d < 10 → IsInteger m l v → IsInteger (suc m) (l ++ ((48 + d) ∷ [])) (v * 10 + d)
digit_more m v d l h w =
    record {
      digits = record { some = omega (arith, long); few = omega (arith, long); each = each };
      value = omega (arith, number_more 10 l (48 + d), w.value);
    }
  where
    long : length (l ++ ((48 + d) ∷ [])) ≡ length l + 1
    long = length-append l ((48 + d) ∷ [])

    each : (i : ℕ) → i < length (l ++ ((48 + d) ∷ [])) → Digit 10 (get_or (l ++ ((48 + d) ∷ [])) i 0)
    each i k =
        below_more (λ (j : ℕ). Digit 10 (get_or (l ++ ((48 + d) ∷ [])) j 0)) (length l)
        (λ j e. subst (Digit 10) (sym (get_or-append l ((48 + d) ∷ []) 0 j e)) (w.digits.each j e))
        (subst (Digit 10) (sym (get_or_at l (48 + d) [] 0 (length l) refl)) (record { least = omega arith; below = omega arith }))
        i
        (omega (arith, long))

-- ---- in the fewest digits

ten_more : (k : ℕ) → 10 ^ suc k ≡ 10 ^ k * 10
ten_more k = pow-suc 10 k

-- of a number below both powers: k bounds the steps, m the digits
fewest_is : (k m n : ℕ) → n < 10 ^ suc k → n < 10 ^ suc m → IsInteger (suc m) (fewest (suc k) n) n
fewest_is zero m n a b = rw (lt-ltb n 10 (omega (arith, a))) (one_digit m n (omega (arith, a)))
fewest_is (suc k) m n a b = go (λ j p q. fewest_is k j (n / 10) p q) (ltb n 10) refl m b
  where
    go : ((j : ℕ) → n / 10 < 10 ^ suc k → n / 10 < 10 ^ suc j → IsInteger (suc j) (fewest (suc k) (n / 10)) (n / 10)) → (t : Bool) → ltb n 10 ≡ t
        → (m : ℕ) → n < 10 ^ suc m → IsInteger (suc m) (cond t ((48 + n) ∷ []) (fewest (suc k) (n / 10) ++ ((48 + n % 10) ∷ []))) n
    go ih true e m b = one_digit m n (ltb-true n 10 e)
    go ih false e zero b = absurd (omega (arith, b, ltb-false n 10 e))
    go ih false e (suc m) b =
        let x : n / 10 * 10 + n % 10 ≡ n = omega arith in
        subst (λ (v : ℕ). IsInteger (suc (suc m)) (fewest (suc k) (n / 10) ++ ((48 + n % 10) ∷ [])) v) x
        (digit_more (suc m) (n / 10) (n % 10) (fewest (suc k) (n / 10)) (omega arith)
        (ih m (omega (arith, ten_more (suc k))) (omega (arith, ten_more (suc m)))))

pub decimal_is : (m n : ℕ) → n < 10000000000 → n < 10 ^ suc m → IsInteger (suc m) (decimal n) n
unfolding decimal
decimal_is m n a b = fewest_is 9 m n (omega arith) b

pub decimal_six : (n : ℕ) → n < 1000000 → IsInteger 6 (decimal n) n
decimal_six n h = decimal_is 5 n (omega arith) (omega arith)

-- ---- in six digits

padded_is : (k n : ℕ) → n < 10 ^ suc k → IsInteger (suc k) (padded (suc k) n) n
padded_is zero n h =
    let x : n % 10 ≡ n = omega (arith, h) in
    subst (λ (v : ℕ). IsInteger 1 ((48 + v) ∷ []) n) (sym x) (one_digit 0 n (omega (arith, h)))
padded_is (suc k) n h =
    let x : n / 10 * 10 + n % 10 ≡ n = omega arith in
    subst (λ (v : ℕ). IsInteger (suc (suc k)) (padded (suc (suc k)) n) v) x
    (digit_more (suc k) (n / 10) (n % 10) (padded (suc k) (n / 10)) (omega arith) (padded_is k (n / 10) (omega (arith, ten_more (suc k)))))

padded_long : (k n : ℕ) → length (padded k n) ≡ k
padded_long zero n = refl
padded_long (suc k) n = length-append (padded k (n / 10)) ((48 + n % 10) ∷ []) ∙ omega (arith, padded_long k (n / 10))

padded_places : (n : ℕ) → n < 1000000 → places 10 6 0 (padded 6 n) ≡ n
unfolding number
padded_places n h =
    ap (λ (k : ℕ). places 10 k 0 (padded 6 n)) (sym (padded_long 6 n)) ∙ sym (padded_is 5 n (omega arith)).value

-- ---- millionths

pub pointed_is : (m v : ℕ) → v < 1000000000000 → v / million < 10 ^ suc m → IsDecimal (suc m) (pointed v) v
unfolding pointed
pointed_is m v h k = go (eqb (v % million) 0) refl
  where
    front : IsInteger (suc m) (decimal (v / million)) (v / million)
    front = decimal_is m (v / million) (omega arith) k

    go : (t : Bool) → eqb (v % million) 0 ≡ t → IsDecimal (suc m) (cond t (decimal (v / million)) (decimal (v / million) ++ (point ∷ padded 6 (v % million)))) v
    go true e = inl (record { digits = front.digits; value = omega (arith, front.value, eqb-true (v % million) 0 e) })
    go false e =
        inr (record {
          before = decimal (v / million);
          after = padded 6 (v % million);
          digits = record { written = refl; left = front.digits; right = (padded_is 5 (v % million) (omega arith)).digits };
          value = omega (arith, front.value, padded_places (v % million) (omega arith));
        })

-- no more than so many digits, a point and six digits
pub pointed_short : (m v : ℕ) → v < 1000000000000 → v / million < 10 ^ suc m → length (pointed v) ≤ m + 8
unfolding pointed
pointed_short m v h k = go (eqb (v % million) 0)
  where
    front : length (decimal (v / million)) ≤ suc m
    front = (decimal_is m (v / million) (omega arith) k).digits.few

    go : (t : Bool) → length (cond t (decimal (v / million)) (decimal (v / million) ++ (point ∷ padded 6 (v % million)))) ≤ m + 8
    go true = omega (arith, front)
    go false = omega (arith, front, length-append (decimal (v / million)) (point ∷ padded 6 (v % million)), padded_long 6 (v % million))
