-- The width is summed component by component.
use mathlib.Core.Path.{◌≡◌}
use mathlib.Core.List.{List}
use Prim.Native.Nat.{ℕ, ◌*◌, ◌≤◌}
use Rattle.sample.proofs.Walks.{Measuring}
use Rattle.model.specs.Samples.{pieces}
use Rattle.model.specs.Forms.{sheet_limits}
use Rattle.model.specs.Stored.{first_component_in, component_count_in}
use Rattle.model.specs.View.{sample_at}
use Rattle.rules.specs.Ruled.{subframes_of}
use Rattle.rules.proofs.Samplings.{left}
use Rattle.rules.proofs.samples.width_at.Given as goal

pub record Passed (b : List ℕ) (j first count width k : ℕ) : Type 0 where
  pub firsts : first ≡ first_component_in b j
  pub counted : count ≡ component_count_in b j
  pub few : count ≤ sheet_limits.components_each
  pub within : k ≤ count
  pub low : width ≤ 16 * k
  pub done : Measuring (pieces (subframes_of b) (sample_at b j)) (left b j k) width

abbrev pub invariant-loop-k : goal.invariant-loop-k
invariant-loop-k l = Passed l.d.table.bytes.now l.j l.first l.count l.width l.k
