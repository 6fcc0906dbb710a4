-- What the numbers mean: a value that a field says is the sum of its digits, each times its power. Assumes nothing.
use native.Mathlib.Omega.{arith}
use native.Mathlib.Nat.{add-zero}
use mathlib.Core.Path.{◌≡◌, refl, sym, ap, ap₂, ◌∙◌}
use mathlib.Core.Logic.{inl, inr}
use mathlib.Core.List.{List, []}
use Prim.Native.Nat.{ℕ, ◌+◌, ◌-◌, ◌*◌, ◌^◌, ◌<◌}
use lib.ListN.{length, get_or}
use Rattle.lay.specs.Below.{sum}
use Rattle.spell.specs.Digits.{number}
use Rattle.spell.specs.Decimals.{million, decimal_of}
use Rattle.spell.specs.Integers.{integer_of, declared_of, label_of}
use Rattle.std.specs.Prelude.{Ok}
use Rattle.written.specs.Words.{Digit, IsDecimal}
use Rattle.written.specs.Values.{Millionths}
use Rattle.written.proofs.Places.{places_sum, number_sum}
use Rattle.written.proofs.Integers.{integer_exactly, declared_exactly, label_exactly}
use Rattle.written.proofs.Decimals.{decimal_exactly}

-- the number of digits: digit i times base ^ (length - 1 - i)
pub number_value : (base : ℕ) (l : List ℕ) → number base l ≡ sum (length l) (λ i. (get_or l i 0 - 48) * base ^ (length l - 1 - i))
number_value base l = number_sum base l

pub integer_value : (n least most : ℕ) (f : List ℕ) (v : ℕ) → integer_of n least most f ≡ Ok v → v ≡ sum (length f) (λ i. (get_or f i 0 - 48) * 10 ^ (length f - 1 - i))
integer_value n least most f v e = ((integer_exactly n least most f v).0 e).0.value ∙ number_value 10 f

pub declared_value : (count : ℕ) (f : List ℕ) (v : ℕ) → declared_of count f ≡ Ok v → v ≡ sum (length f) (λ i. (get_or f i 0 - 48) * 10 ^ (length f - 1 - i))
declared_value count f v e = ((declared_exactly count f v).0 e).0.value ∙ number_value 10 f

pub label_value : (f : List ℕ) (v : ℕ) → label_of f ≡ Ok v → v ≡ sum (length f) (λ i. (get_or f i 0 - 48) * 8 ^ (length f - 1 - i))
label_value f v e = ((label_exactly f v).0 e).0.value ∙ number_value 8 f

-- a decimal's millionths
none_written : (i : ℕ) → i < 0 → Digit 10 (get_or {A = ℕ} [] i 0)
none_written i h = absurd (omega arith)

pub decimal_millionths : (n : ℕ) (f : List ℕ) (v : ℕ) → IsDecimal n f v → Millionths n f v
decimal_millionths n f v (inl w) =
    record {
      before = f;
      after = [];
      written = inl (refl, refl);
      whole = w.digits;
      few = omega arith;
      each = none_written;
      value = w.value ∙ ap (λ (k : ℕ). k * million) (number_sum 10 f) ∙ sym (add-zero _);
    }
decimal_millionths n f v (inr p) =
    record {
      before = p.before;
      after = p.after;
      written = inr p.digits.written;
      whole = p.digits.left;
      few = p.digits.right.few;
      each = p.digits.right.each;
      value = p.value ∙ ap₂ (λ (k m : ℕ). k * million + m) (number_sum 10 p.before) (places_sum 10 6 p.after);
    }

pub decimal_value : (n : ℕ) (f : List ℕ) (v : ℕ) → decimal_of n f ≡ Ok v → Millionths n f v
decimal_value n f v e = decimal_millionths n f v ((decimal_exactly n f v).0 e)
