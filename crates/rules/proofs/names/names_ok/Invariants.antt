-- The parameters before i are named apart from those before them.
use mathlib.Core.Bool.{Bool}
use mathlib.Core.List.{List}
use Prim.Native.Nat.{ℕ}
use Rattle.lay.specs.Below.{all}
use Rattle.lay.proofs.Passing.{Passed}
use Rattle.model.specs.Identifiers.{named_apart}
use Rattle.model.specs.Stored.{parameters_in}
use Rattle.model.specs.View.{parameter_at}
use Rattle.rules.proofs.names.names_ok.Given as goal

abbrev pub new_at : List ℕ → ℕ → Bool
new_at b i = all i (λ k. named_apart (parameter_at b k) (parameter_at b i))

abbrev pub invariant-loop-i : goal.invariant-loop-i
invariant-loop-i l = Passed (parameters_in l.t.bytes.now) (new_at l.t.bytes.now) l.t.opened.counts.parameters l.i
