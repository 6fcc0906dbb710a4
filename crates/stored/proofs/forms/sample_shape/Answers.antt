-- The numbers are the row's, form by form.
use mathlib.Core.Path.{◌≡◌}
use Prim.Native.Nat.{ℕ}
use Rattle.model.specs.Forms.{rows, row, newest, layout_of}
use Rattle.stored.specs.Shapes.{sample_shape}
use Rattle.model.proofs.Rows.{each_form}
use borrow.Author.Rules.{rules}
use Rattle.stored.proofs.forms.sample_shape.Goals as goal

pub returns : goal.returns
unfolding row rows newest
returns c = each_form (λ (f : ℕ). sample_shape (layout_of newest) ≡ sample_shape (layout_of f)) (search rules) _ c.requires
