-- The samples before j are in order, and first is what they add up to.
use mathlib.Core.Path.{◌≡◌}
use mathlib.Core.Bool.{Bool, true}
use mathlib.Core.List.{List}
use Prim.Native.Nat.{ℕ, ◌*◌, ◌≤◌}
use lib.Dec.{eqb}
use Rattle.lay.specs.Below.{all, sum}
use Rattle.model.specs.Stored.{samples_in, first_component_in, component_count_in}
use Rattle.stored.proofs.layout.rows_ok.Given as goal

abbrev pub in_row : List ℕ → ℕ → Bool
in_row b j = eqb (first_component_in b j) (sum j (component_count_in b))

pub record Passed (b : List ℕ) (samples first j : ℕ) : Type 0 where
  pub counted : samples ≡ samples_in b
  pub within : j ≤ samples_in b
  pub firsts : first ≡ sum j (component_count_in b)
  pub few : first ≤ 4294967295 * j
  pub done : all j (in_row b) ≡ true

abbrev pub invariant-loop-j : goal.invariant-loop-j
invariant-loop-j l = Passed l.t.bytes.now l.samples l.first l.j
