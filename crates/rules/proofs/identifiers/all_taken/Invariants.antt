-- The subframes before s are taken.
use mathlib.Core.Path.{◌≡◌}
use mathlib.Core.Bool.{Bool, true}
use mathlib.Core.List.{List}
use Prim.Native.Nat.{ℕ, ◌+◌, ◌≤◌}
use Rattle.lay.specs.Below.{all}
use Rattle.model.specs.Identifiers.{taken}
use Rattle.model.specs.Stored.{subframes_in}
use Rattle.model.specs.View.{view}
use Rattle.rules.proofs.identifiers.all_taken.Given as goal

abbrev pub is_taken : List ℕ → ℕ → Bool
is_taken b s = taken (view b) (s + 1)

pub record Passed (b : List ℕ) (s : ℕ) : Type 0 where
  pub within : s ≤ subframes_in b
  pub done : all s (is_taken b) ≡ true

abbrev pub invariant-loop-s : goal.invariant-loop-s
invariant-loop-s l = Passed l.r.declared.table.bytes.now l.s
