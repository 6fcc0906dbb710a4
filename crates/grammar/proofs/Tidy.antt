-- What every field is, whatever it spells: bytes of a line, no comma, no blank at either end. Assumes nothing.
use mathlib.Core.Path.{◌≡◌}
use mathlib.Core.Bool.{true, false}
use mathlib.Core.List.{List}
use Prim.Native.Nat.{ℕ, ◌-◌, ◌<◌}
use lib.ListN.{length, get_or}
use Rattle.text.specs.Blanks.{is_blank}
use Rattle.text.specs.Fields.{comma}
use Rattle.lines.specs.Line.{is_clean}

pub record Tidy (f : List ℕ) : Type 0 where
  pub clean : (i : ℕ) → i < length f → is_clean (get_or f i 0) ≡ true
  pub comma : (i : ℕ) → i < length f → get_or f i 0 ≡ comma → ⊥
  pub begins : is_blank (get_or f 0 0) ≡ false
  pub ends : is_blank (get_or f (length f - 1) 0) ≡ false
