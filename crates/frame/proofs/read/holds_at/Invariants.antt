-- The components before k are their bits of v; what the place so far is.
use mathlib.Core.Path.{◌≡◌}
use mathlib.Core.List.{List}
use Prim.Native.Nat.{ℕ, ◌≤◌}
use Rattle.lay.proofs.Passing.{Passed}
use Rattle.model.specs.Forms.{limits_in}
use Rattle.model.specs.Samples.{place_in, holds_at}
use Rattle.model.specs.Stored.{component_count_in}
use Rattle.model.specs.View.{sample_at}
use Rattle.rules.specs.Ruled.{subframes_of}
use Rattle.frame.proofs.read.holds_at.Given as goal

pub record Held (b f : List ℕ) (j v count at k : ℕ) : Type 0 where
  pub passed : Passed (component_count_in b j) (holds_at (subframes_of b) f (sample_at b j) v) count k
  pub place : at ≡ place_in (subframes_of b) (sample_at b j) k
  pub narrow : (limits_in b).width ≤ 32

abbrev pub invariant-loop-k : goal.invariant-loop-k
invariant-loop-k l = Held l.f.based.now.ruled.declared.table.bytes.now l.f.words.now l.j l.v l.count l.at l.k
