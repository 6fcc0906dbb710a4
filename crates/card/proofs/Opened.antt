-- A table opened says of its parameters and margins what the lent bytes do. Assumes nothing.
use mathlib.Core.Path.{◌≡◌, sym, ap, ◌∙◌}
use mathlib.Core.Bool.{Bool}
use mathlib.Core.List.{List}
use Prim.Native.Nat.{ℕ}
use Rattle.std.specs.Prelude.{Option, Some}
use Rattle.std.specs.Borrow.{Bor}
use Rattle.model.specs.Content.{parameters}
use Rattle.model.specs.View.{view}
use Rattle.model.specs.Accepts.{accepts}
use Rattle.model.proofs.Views.{parameters_view}
use Rattle.stored.specs.Entry.{OpeningOf}
use Rattle.rules.specs.declared.ruled.RuledTable.{RuledTable}
use Rattle.carding.specs.Answer.{margins_told}

module _ {b : Bor (List ℕ)} {r : Option RuledTable} (h : OpeningOf (λ (r : RuledTable). r.declared.table.bytes) b (accepts b.now) r) {o : RuledTable} (e : r ≡ Some o) where
  pub opened_count : parameters (view b.now) ≡ o.declared.table.opened.counts.parameters
  opened_count =
      ap (λ (x : Bor (List ℕ)). parameters (view x.now)) (sym (h.of o e))
      ∙ parameters_view o.declared.table.bytes.now
      ∙ sym o.declared.table.opened_of.counts.parameters_is

  pub opened_told : {t u : Bool} → t ≡ margins_told o.declared.table.bytes.now → t ≡ u → margins_told b.now ≡ u
  opened_told q w = ap (λ (x : Bor (List ℕ)). margins_told x.now) (sym (h.of o e)) ∙ sym q ∙ w
