-- The parameters before i pass, and then every subframe is asked for.
use mathlib.Core.Path.{◌≡◌}
use mathlib.Core.Bool.{true}
use mathlib.Core.List.{List}
use Prim.Native.Nat.{ℕ, ◌≤◌}
use Rattle.lay.specs.Below.{all}
use Rattle.model.specs.Identifiers.{identifies}
use Rattle.model.specs.Stored.{parameters_in}
use Rattle.model.specs.View.{view}
use Rattle.rules.proofs.identifiers.identifiers_ok.Given as goal

pub record Passed (b : List ℕ) (i : ℕ) : Type 0 where
  pub within : i ≤ parameters_in b
  pub done : all i (identifies (view b)) ≡ true

abbrev pub invariant-loop-i : goal.invariant-loop-i
invariant-loop-i l = Passed l.r.declared.table.bytes.now l.i
