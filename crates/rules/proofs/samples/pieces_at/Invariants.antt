-- The components before k are held, in their order.
use mathlib.Core.Path.{◌≡◌}
use mathlib.Core.List.{List}
use Prim.Native.Nat.{ℕ, ◌+◌, ◌≤◌}
use Rattle.lay.specs.Below.{tab}
use Rattle.sample.specs.declared.component.Component.{Component}
use Rattle.sample.specs.declared.component.Components.{Components}
use Rattle.sample.specs.Promise.{listed}
use Rattle.model.specs.Samples.{piece}
use Rattle.model.specs.Stored.{first_component_in, component_count_in}
use Rattle.model.specs.View.{component_at}
use Rattle.rules.specs.Ruled.{subframes_of}
use Rattle.rules.proofs.samples.pieces_at.Given as goal

-- component k of all, where it stands in a frame
abbrev pub stands : List ℕ → ℕ → Component
stands b k = piece (subframes_of b) (component_at b k)

pub record Passed (b : List ℕ) (j first count : ℕ) (cs : Components) (k : ℕ) : Type 0 where
  pub firsts : first ≡ first_component_in b j
  pub counted : count ≡ component_count_in b j
  pub within : k ≤ count
  pub many : cs.count ≡ k
  pub held : listed cs ≡ tab k (λ k. stands b (first_component_in b j + k))

abbrev pub invariant-loop-k : goal.invariant-loop-k
invariant-loop-k l = Passed l.d.table.bytes.now l.j l.first l.count l.cs l.k
