-- The fields of a line all spelled, one after the other: the items are those of the line. Assumes nothing.
use mathlib.Core.Path.{◌≡◌}
use mathlib.Core.List.{List, [], ◌∷◌}
use Prim.Native.Nat.{ℕ, zero, suc, ◌≤◌, ◌<◌}
use native.Mathlib.Omega.{arith}
use lib.ListN.{length, get_or}
use Rattle.text.specs.Fields.{field_of, field_count}
use Rattle.grammar.specs.Items.{Item, Spelled, text}
use Rattle.grammar.specs.Written.{Fields}
use Rattle.grammar.proofs.Partings.{at_fields}

-- proofs in a row, of a list's items or tests
infixr 20 ◌&◌
pub ◌&◌ : {A B : Type 0} → A → B → A × B
a & b = (a, b)

-- item k is spelled by field k
abbrev AllSpelled : List Item → (ℕ → List ℕ) → Type 0
AllSpelled [] field = Unit {0}
AllSpelled (i ∷ is) field = Spelled i (field 0) × AllSpelled is (λ k. field (suc k))

all_at : (is : List Item) (field : ℕ → List ℕ) → AllSpelled is field → (k : ℕ) → k < length is → Spelled (get_or is k text) (field k)
all_at [] field a k h = absurd (omega arith)
all_at (i ∷ is) field a zero h = a.0
all_at (i ∷ is) field a (suc k) h = all_at is (λ j. field (suc j)) a.1 k (omega arith)

pub all_fields : (l : List ℕ) (is : List Item) → 1 ≤ length is → field_count l ≡ length is → AllSpelled is (λ k. field_of k l) → Fields l is
all_fields l is h n a = at_fields l is h n (all_at is (λ k. field_of k l) a)
