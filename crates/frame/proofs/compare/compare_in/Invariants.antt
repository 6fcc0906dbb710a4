-- No subframe's identifier before this one differs.
use mathlib.Core.Path.{◌≡◌}
use mathlib.Core.Bool.{false}
use mathlib.Core.List.{List}
use Prim.Native.Nat.{ℕ, ◌+◌, ◌≤◌, ◌<◌}
use Rattle.model.specs.Stored.{subframes_in}
use Rattle.model.specs.View.{view}
use Rattle.framing.specs.Comparing.{differs_in}
use Rattle.frame.proofs.compare.compare_in.Given as goal

pub record Passed (b f : List ℕ) (subframes s : ℕ) : Type 0 where
  pub counted : subframes ≡ subframes_in b
  pub within : s ≤ subframes
  pub none : (k : ℕ) → k < s → differs_in (view b) f (k + 1) ≡ false

abbrev pub invariant-loop-s : goal.invariant-loop-s
invariant-loop-s l = Passed l.f.based.now.ruled.declared.table.bytes.now l.f.words.now l.subframes l.s
