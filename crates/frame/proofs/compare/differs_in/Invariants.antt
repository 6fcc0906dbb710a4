-- No parameter before i is a differing identifier of this subframe.
use mathlib.Core.Path.{◌≡◌}
use mathlib.Core.Bool.{false}
use mathlib.Core.List.{List}
use Prim.Native.Nat.{ℕ, ◌≤◌, ◌<◌}
use Rattle.model.specs.Stored.{parameters_in}
use Rattle.model.specs.View.{view}
use Rattle.framing.specs.Comparing.{differs_at}
use Rattle.frame.proofs.compare.differs_in.Given as goal

pub record Passed (b f : List ℕ) (s parameters i : ℕ) : Type 0 where
  pub counted : parameters ≡ parameters_in b
  pub within : i ≤ parameters
  pub none : (k : ℕ) → k < i → differs_at (view b) f s k ≡ false

abbrev pub invariant-loop-i : goal.invariant-loop-i
invariant-loop-i l = Passed l.f.based.now.ruled.declared.table.bytes.now l.f.words.now l.s l.parameters l.i
