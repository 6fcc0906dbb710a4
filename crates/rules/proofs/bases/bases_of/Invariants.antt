-- Before subframe i stand the words of the subframes passed.
use mathlib.Core.Path.{◌≡◌}
use mathlib.Core.List.{List}
use Prim.Native.Nat.{ℕ, ◌+◌, ◌*◌, ◌≤◌, ◌<◌}
use lib.ListN.{length, get_or}
use Rattle.sample.specs.Flat.{before}
use Rattle.model.specs.Samples.{word_counts}
use Rattle.model.specs.Forms.{sheet_limits}
use Rattle.model.specs.Stored.{subframes_in}
use Rattle.rules.specs.Ruled.{subframes_of}
use Rattle.rules.proofs.bases.bases_of.Given as goal

pub record Passed (b : List ℕ) (subframes : ℕ) (list : List ℕ) (sum i : ℕ) : Type 0 where
  pub counted : subframes ≡ subframes_in b
  pub within : i ≤ subframes_in b
  pub long : length list ≡ sheet_limits.subframes
  pub sums : sum ≡ before (word_counts (subframes_of b)) (i + 1)
  pub small : sum ≤ sheet_limits.words * i
  pub each : (k : ℕ) → k < i → get_or list k 0 ≡ before (word_counts (subframes_of b)) (k + 1)
  pub low : (k : ℕ) → k < i → get_or list k 0 ≤ sheet_limits.words * sheet_limits.subframes

abbrev pub invariant-loop-i : goal.invariant-loop-i
invariant-loop-i l = Passed l.t l.subframes l.before l.sum l.i
