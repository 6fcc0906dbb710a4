-- The zero bytes before k are 0.
use mathlib.Core.Bool.{Bool}
use mathlib.Core.List.{List}
use Prim.Native.Nat.{ℕ}
use lib.Dec.{eqb}
use Rattle.lay.proofs.Passing.{Passed}
use Rattle.model.specs.Stored.{components_in, zero_byte_in}
use Rattle.stored.proofs.layout.zeros_ok.Given as goal

abbrev pub is_zero : List ℕ → ℕ → Bool
is_zero b k = eqb (zero_byte_in b k) 0

abbrev pub invariant-loop-k : goal.invariant-loop-k
invariant-loop-k l = Passed (components_in l.t.bytes.now) (is_zero l.t.bytes.now) l.components l.k
