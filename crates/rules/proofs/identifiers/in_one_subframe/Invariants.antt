-- The components before k lie where the first one does.
use mathlib.Core.Path.{◌≡◌}
use mathlib.Core.Bool.{Bool, true}
use mathlib.Core.List.{List}
use Prim.Native.Nat.{ℕ, ◌≤◌}
use lib.Dec.{eqb}
use Rattle.lay.specs.Below.{all}
use Rattle.model.specs.Content.{sample, component}
use Rattle.model.specs.Identifiers.{lies}
use Rattle.model.specs.View.{parameter_at}
use Rattle.rules.proofs.identifiers.in_one_subframe.Given as goal

abbrev pub at_home : List ℕ → ℕ → ℕ → Bool
at_home b i k = eqb (component (sample (parameter_at b i) 0) k).subframe (lies (parameter_at b i))

pub record Passed (b : List ℕ) (i count k : ℕ) : Type 0 where
  pub within : k ≤ count
  pub done : all k (at_home b i) ≡ true

abbrev pub invariant-loop-k : goal.invariant-loop-k
invariant-loop-k l = Passed l.r.declared.table.bytes.now l.i l.count l.k
