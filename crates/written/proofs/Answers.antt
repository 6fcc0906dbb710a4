-- Every spelling is accepted or refused, and never both: a test, and what a field says of a number, a truth, bits or seconds.
-- Assumes nothing.
use mathlib.Core.Path.{◌≡◌, refl}
use mathlib.Core.Logic.{◌⊎◌, inl, inr}
use Rattle.std.specs.Prelude.{Result, Ok, Err}
use Rattle.text.specs.declared.refusal.Refusal.{Refusal}

-- one of two, and not both
abbrev OneOf : Type 0 → Type 0 → Type 0
OneOf A B = (A ⊎ B) × (A → B → ⊥)

pub answer_one : {A : Type 0} (a : Result A Refusal) → OneOf ((v : A) × (a ≡ Ok v)) ((r : Refusal) × (a ≡ Err r))
answer_one {A} a = (some a, λ p q. let d = p.1 in let e = q.1 in cc)
  where
    some : (a : Result A Refusal) → ((v : A) × (a ≡ Ok v)) ⊎ ((r : Refusal) × (a ≡ Err r))
    some (Ok v) = inl (v, refl)
    some (Err r) = inr (r, refl)
