-- Each part is added at its weight; what is left joins above. The bits overlapped so far are those of the components passed.
use mathlib.Core.Path.{◌≡◌}
use mathlib.Core.List.{List}
use Prim.Native.Nat.{ℕ, ◌*◌, ◌≤◌, ◌<◌}
use Rattle.sample.specs.declared.component.Component.{Component as Piece}
use Rattle.sample.specs.Joining.{width}
use Rattle.sample.proofs.Walks.{Joining}
use Rattle.model.specs.Samples.{pieces}
use Rattle.model.specs.Forms.{sheet_limits}
use Rattle.model.specs.Stored.{first_component_in, component_count_in}
use Rattle.model.specs.View.{sample_at}
use Rattle.rules.specs.Ruled.{subframes_of}
use Rattle.rules.proofs.Samplings.{left}
use Rattle.frame.proofs.Laps.{over_bits}
use Rattle.frame.proofs.read.joined_at.Given as goal

abbrev pub all_pieces : List ℕ → ℕ → List Piece
all_pieces b j = pieces (subframes_of b) (sample_at b j)

pub record Passed (b f : List ℕ) (j first count raw wide over k : ℕ) : Type 0 where
  pub firsts : first ≡ first_component_in b j
  pub counted : count ≡ component_count_in b j
  pub inside : k ≤ count
  pub narrow : width (all_pieces b j) ≤ sheet_limits.width
  pub done : Joining f (all_pieces b j) (left b j k) raw wide
  pub overs : over ≡ over_bits (sample_at b j) k
  pub few : count < 4294967296
  pub small : over ≤ 4294967295 * k

abbrev pub invariant-loop-k : goal.invariant-loop-k
invariant-loop-k l = Passed l.f.based.now.ruled.declared.table.bytes.now l.f.words.now l.j l.first l.count l.raw l.width l.over l.k
