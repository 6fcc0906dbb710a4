-- The identifiers before k differ from i.
use mathlib.Core.Path.{◌≡◌}
use mathlib.Core.Bool.{true}
use mathlib.Core.List.{List}
use Prim.Native.Nat.{ℕ, ◌≤◌}
use Rattle.lay.specs.Below.{all}
use Rattle.rules.proofs.Identifying.{apart_from}
use Rattle.rules.proofs.identifiers.newly_identified.Given as goal

pub record Passed (b : List ℕ) (i k : ℕ) : Type 0 where
  pub within : k ≤ i
  pub done : all k (apart_from b i) ≡ true

abbrev pub invariant-loop-k : goal.invariant-loop-k
invariant-loop-k l = Passed l.r.declared.table.bytes.now l.i l.k
