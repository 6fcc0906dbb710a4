-- The test of digits holds exactly where each byte is a digit; and no mark is a digit. Assumes nothing.
use native.Mathlib.Omega.{arith}
use mathlib.Core.Path.{◌≡◌, refl}
use mathlib.Core.Logic.{◌↔◌}
use mathlib.Core.Bool.{true}
use mathlib.Core.List.{List, [], ◌∷◌}
use Prim.Native.Nat.{ℕ, suc, ◌+◌, ◌<◌}
use lib.ListN.{length, get_or}
use borrow.Author.Tests.{le-leb, lt-ltb}
use Rattle.lay.proofs.Tests.{and_both}
use Rattle.spell.specs.Digits.{all_digits, digits_up_to}
use Rattle.spell.proofs.DigitLaws.{digit_at, up_some, up_few, up_digits}
use Rattle.written.specs.Words.{Digit, Numeral, Without}

all_each : (base : ℕ) (l : List ℕ) → all_digits base l ≡ true → (i : ℕ) → i < length l → Digit base (get_or l i 0)
all_each base l e i h = let d = digit_at base l i h e in record { least = d.0; below = d.1 }

each_all : (base : ℕ) (l : List ℕ) → ((i : ℕ) → i < length l → Digit base (get_or l i 0)) → all_digits base l ≡ true
unfolding all_digits
each_all base [] h = refl
each_all base (b ∷ l) h =
    let d : Digit base b = h 0 (omega arith) in
    and_both (and_both (le-leb 48 b d.least) (lt-ltb b (48 + base) d.below)) (each_all base l (λ i k. h (suc i) (omega arith)))

pub digits_exactly : (base : ℕ) (l : List ℕ) → (all_digits base l ≡ true) ↔ ((i : ℕ) → i < length l → Digit base (get_or l i 0))
digits_exactly base l = (all_each base l, each_all base l)

pub test_numeral : (base n : ℕ) (l : List ℕ) → digits_up_to base n l ≡ true → Numeral base n l
test_numeral base n l e =
    record {
      some = up_some base n l e;
      few = up_few base n l e;
      each = all_each base l (up_digits base n l e);
    }

pub numeral_test : (base n : ℕ) (l : List ℕ) → Numeral base n l → digits_up_to base n l ≡ true
unfolding digits_up_to
numeral_test base n l h =
    and_both (lt-ltb 0 (length l) h.some) (and_both (le-leb (length l) n h.few) (each_all base l h.each))

pub numeral_exactly : (base n : ℕ) (l : List ℕ) → (digits_up_to base n l ≡ true) ↔ Numeral base n l
numeral_exactly base n l = (test_numeral base n l, numeral_test base n l)

-- the marks (space 32, hyphen 45, point 46, slash 47) are below every digit
pub numeral_without : (mark : ℕ) → mark < 48 → {base n : ℕ} {l : List ℕ} → Numeral base n l → Without mark l
numeral_without mark m h i k e = let d = h.each i k in let z : ⊥ = omega (arith, d.least) in z
