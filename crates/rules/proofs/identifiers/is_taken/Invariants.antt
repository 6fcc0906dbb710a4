-- No parameter before i is an identifier in subframe s.
use mathlib.Core.Path.{◌≡◌}
use mathlib.Core.Bool.{false}
use mathlib.Core.List.{List}
use Prim.Native.Nat.{ℕ, ◌≤◌}
use Rattle.lay.specs.Below.{any}
use Rattle.model.specs.Stored.{parameters_in}
use Rattle.rules.proofs.Identifying.{takes}
use Rattle.rules.proofs.identifiers.is_taken.Given as goal

pub record Passed (b : List ℕ) (s i : ℕ) : Type 0 where
  pub within : i ≤ parameters_in b
  pub none : any i (takes b s) ≡ false

abbrev pub invariant-loop-i : goal.invariant-loop-i
invariant-loop-i l = Passed l.r.declared.table.bytes.now l.s l.i
