-- Each component is held against those after it.
use mathlib.Core.Path.{◌≡◌}
use mathlib.Core.Bool.{Bool, ◌||◌}
use mathlib.Core.List.{List}
use Prim.Native.Nat.{ℕ, ◌+◌, ◌≤◌, ◌<◌}
use Rattle.sample.specs.Clash.{clash_any, twice}
use Rattle.model.specs.Samples.{wholes}
use Rattle.model.specs.Stored.{first_component_in, component_count_in}
use Rattle.model.specs.View.{sample_at}
use Rattle.rules.specs.Ruled.{subframes_of}
use Rattle.rules.proofs.Samplings.{stands_whole, left_whole}
use Rattle.rules.proofs.samples.named_twice.Given as goal

-- what the walk is to tell
abbrev pub told : List ℕ → ℕ → Bool
told b j = twice (wholes (subframes_of b) (sample_at b j))

pub record Outer (b : List ℕ) (j first count : ℕ) (k : ℕ) : Type 0 where
  pub firsts : first ≡ first_component_in b j
  pub counted : count ≡ component_count_in b j
  pub within : k ≤ count
  pub rest : twice (left_whole b j k) ≡ told b j

pub record Inner (b : List ℕ) (j first count k : ℕ) (i : ℕ) : Type 0 where
  pub firsts : first ≡ first_component_in b j
  pub counted : count ≡ component_count_in b j
  pub inside : k < count
  pub within : i ≤ count
  pub rest : (clash_any (stands_whole b j k) (left_whole b j i) || twice (left_whole b j (k + 1))) ≡ told b j

abbrev pub invariant-loop-i : goal.invariant-loop-i
invariant-loop-i l = Inner l.t.bytes.now l.j l.first l.count l.k l.i

abbrev pub invariant-loop-k : goal.invariant-loop-k
invariant-loop-k l = Outer l.t.bytes.now l.j l.first l.count l.k
