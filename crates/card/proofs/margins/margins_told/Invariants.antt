-- The margins of the subframes passed are known.
use mathlib.Core.Path.{◌≡◌}
use mathlib.Core.List.{List}
use Prim.Native.Nat.{ℕ, ◌≤◌, ◌<◌}
use Rattle.model.specs.Stored.{subframes_in}
use Rattle.card.proofs.MarginLaws.{KnownAt}
use Rattle.card.proofs.margins.margins_told.Given as goal

pub record Passed (b : List ℕ) (count i : ℕ) : Type 0 where
  pub counted : count ≡ subframes_in b
  pub within : i ≤ subframes_in b
  pub each : (k : ℕ) → k < i → KnownAt b k

abbrev pub invariant-loop-i : goal.invariant-loop-i
invariant-loop-i l = Passed l.t.bytes.now l.t.opened.counts.subframes l.i
