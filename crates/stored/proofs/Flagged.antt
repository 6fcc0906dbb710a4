-- What the flags of a parameter's entry say is what the table says of it. Assumes nothing.
use mathlib.Core.Path.{◌≡◌, ap, ◌∙◌}
use mathlib.Core.Bool.{Bool}
use mathlib.Core.List.{List}
use Prim.Native.Nat.{ℕ, ◌/◌, ◌%◌}
use lib.Dec.{eqb}
use Rattle.model.specs.Stored.{parameter_flags_in}
use Rattle.model.specs.View.{signed_in, identifier_in}

-- f is the entry's flags, and t what the call returned
module _ (b : List ℕ) (i : ℕ) {f : ℕ} {t : Bool} (e : f ≡ parameter_flags_in b i) where
  pub signed_flag : t ≡ eqb (f % 2) 1 → t ≡ signed_in b i
  signed_flag q = q ∙ ap (λ (x : ℕ). eqb (x % 2) 1) e

  pub identifier_flag : t ≡ eqb (f / 2) 1 → t ≡ identifier_in b i
  identifier_flag q = q ∙ ap (λ (x : ℕ). eqb (x / 2) 1) e
