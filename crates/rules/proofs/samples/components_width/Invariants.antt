-- The components before k are in order, and their widths are summed.
use mathlib.Core.Path.{◌≡◌}
use mathlib.Core.Bool.{true}
use mathlib.Core.List.{List}
use Prim.Native.Nat.{ℕ, ◌+◌, ◌*◌, ◌≤◌}
use Rattle.lay.specs.Below.{all}
use Rattle.sample.specs.Joining.{width}
use Rattle.model.specs.Forms.{sheet_limits}
use Rattle.model.specs.Samples.{width_of}
use Rattle.model.specs.Stored.{first_component_in, component_count_in}
use Rattle.model.specs.View.{sample_at}
use Rattle.rules.specs.Ruled.{subframes_of, in_order}
use Rattle.rules.proofs.Samplings.{left}
use Rattle.rules.proofs.samples.components_width.Given as goal

pub record Passed (b : List ℕ) (j first count width' k : ℕ) : Type 0 where
  pub firsts : first ≡ first_component_in b j
  pub counted : count ≡ component_count_in b j
  pub few : count ≤ sheet_limits.components_each
  pub within : k ≤ count
  pub low : width' ≤ sheet_limits.bits * k
  pub done : all k (in_order b j) ≡ true
  pub sums : width' + width (left b j k) ≡ width_of (subframes_of b) (sample_at b j)

abbrev pub invariant-loop-k : goal.invariant-loop-k
invariant-loop-k l = Passed l.d.table.bytes.now l.j l.first l.count l.width l.k
