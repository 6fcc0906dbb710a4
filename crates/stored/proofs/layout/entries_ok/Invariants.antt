-- The entries before i are in order, and first and start are what they add up to.
use mathlib.Core.Path.{◌≡◌}
use mathlib.Core.Bool.{true}
use mathlib.Core.List.{List}
use Prim.Native.Nat.{ℕ, ◌*◌, ◌≤◌}
use Rattle.lay.specs.Below.{all, sum}
use Rattle.model.specs.Stored.{parameters_in, sample_count_in, text_length_in}
use Rattle.model.specs.Accepts.{entry_ok}
use Rattle.stored.proofs.layout.entries_ok.Given as goal

pub record Passed (b : List ℕ) (parameters first start i : ℕ) : Type 0 where
  pub counted : parameters ≡ parameters_in b
  pub within : i ≤ parameters_in b
  pub firsts : first ≡ sum i (sample_count_in b)
  pub starts : start ≡ sum i (text_length_in b)
  pub few : first ≤ 4294967295 * i
  pub short : start ≤ 12884901885 * i
  pub done : all i (entry_ok b) ≡ true

abbrev pub invariant-loop-i : goal.invariant-loop-i
invariant-loop-i l = Passed l.t.bytes.now l.parameters l.first l.start l.i
