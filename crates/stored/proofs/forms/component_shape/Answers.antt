-- The numbers are the row's, form by form: forms 1 and 2 have neither an overlap nor a zero byte.
use mathlib.Core.Path.{◌≡◌, refl}
use Prim.Native.Nat.{ℕ, ◌≤◌, ◌<◌}
use native.Mathlib.Omega.{arith}
use Rattle.model.specs.Forms.{rows, row, newest, layout_of}
use Rattle.stored.specs.Shapes.{component_shape}
use Rattle.model.proofs.Rows.{each_form}
use Rattle.stored.proofs.forms.component_shape.Goals as goal

pub returns-then-f-lt3 : goal.returns-then-f-lt3
unfolding row rows newest
returns-then-f-lt3 c =
    each_form (λ (f : ℕ). f < 3 → component_shape (layout_of 1) ≡ component_shape (layout_of f))
    ((λ l. refl), ((λ l. refl), ((λ l. absurd (omega (arith, l))), tt))) _ c.requires c.if-f-lt3.true

pub returns : goal.returns
unfolding row rows newest
returns c =
    each_form (λ (f : ℕ). 3 ≤ f → component_shape (layout_of newest) ≡ component_shape (layout_of f))
    ((λ l. absurd (omega (arith, l))), ((λ l. absurd (omega (arith, l))), ((λ l. refl), tt))) _ c.requires (omega (arith, c.if-f-lt3.false))
