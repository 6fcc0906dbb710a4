-- The parameters before k are named apart from i.
use mathlib.Core.Bool.{Bool}
use mathlib.Core.List.{List}
use Prim.Native.Nat.{ℕ}
use Rattle.lay.proofs.Passing.{Passed}
use Rattle.model.specs.Identifiers.{named_apart}
use Rattle.model.specs.View.{parameter_at}
use Rattle.rules.proofs.names.newly_named.Given as goal

abbrev pub apart_at : List ℕ → ℕ → ℕ → Bool
apart_at b i k = named_apart (parameter_at b k) (parameter_at b i)

abbrev pub invariant-loop-k : goal.invariant-loop-k
invariant-loop-k l = Passed l.i (apart_at l.t.bytes.now l.i) l.i l.k
