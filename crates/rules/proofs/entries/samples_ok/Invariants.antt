-- The samples before j are lawful, and of the first one's width.
use mathlib.Core.Path.{◌≡◌}
use mathlib.Core.Bool.{true}
use mathlib.Core.List.{List}
use Prim.Native.Nat.{ℕ, ◌+◌, ◌≤◌, ◌<◌}
use Rattle.model.specs.Forms.{limits_in}
use Rattle.model.specs.Rules.{sample_ok}
use Rattle.model.specs.Stored.{first_sample_in, sample_count_in}
use Rattle.model.specs.View.{sample_at}
use Rattle.rules.specs.Ruled.{subframes_of}
use Rattle.rules.proofs.Parameters.{width_at}
use Rattle.rules.proofs.entries.samples_ok.Given as goal

abbrev pub Fine : List ℕ → ℕ → ℕ → Type 0
Fine b i j = (sample_ok (limits_in b) (subframes_of b) (sample_at b (first_sample_in b i + j)) ≡ true) × (width_at b i j ≡ width_at b i 0)

pub record Passed (b : List ℕ) (i first count width j : ℕ) : Type 0 where
  pub firsts : first ≡ first_sample_in b i
  pub counted : count ≡ sample_count_in b i
  pub within : j ≤ count
  pub wide : 0 < j → width ≡ width_at b i 0
  pub done : (k : ℕ) → k < j → Fine b i k

abbrev pub invariant-loop-j : goal.invariant-loop-j
invariant-loop-j l = Passed l.d.table.bytes.now l.i l.first l.count l.width l.j
