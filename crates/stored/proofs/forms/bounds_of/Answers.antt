-- The limits are the row's, form by form.
use mathlib.Core.Path.{◌≡◌}
use Prim.Native.Nat.{ℕ}
use lib.Dec.{leb}
use mathlib.Core.Bool.{cond}
use Rattle.model.specs.Forms.{rows, row, newest, limits_with, limits_of}
use Rattle.stored.specs.Shapes.{bounds_of}
use Rattle.model.proofs.Rows.{each_form}
use borrow.Author.Rules.{rules}
use Rattle.stored.proofs.forms.bounds_of.Goals as goal

pub most_overlap-requires : goal.most_overlap-requires
most_overlap-requires c = tt

pub returns : goal.returns
unfolding row rows newest
returns c = rw c.most_overlap.ensures (each_form (λ (f : ℕ). bounds_of (limits_with (leb 2 f) (cond (leb 3 f) 15 0)) ≡ bounds_of (limits_of f)) (search rules) _ c.requires)
