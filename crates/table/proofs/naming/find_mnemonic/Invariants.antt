-- No parameter before i has the mnemonic.
use mathlib.Core.Path.{◌≡◌}
use mathlib.Core.Bool.{false}
use mathlib.Core.List.{List}
use Prim.Native.Nat.{ℕ, ◌≤◌, ◌<◌}
use Rattle.model.specs.Stored.{parameters_in}
use Rattle.table.proofs.Asking.{called_at}
use Rattle.table.proofs.naming.find_mnemonic.Given as goal

pub record Passed (b m : List ℕ) (parameters i : ℕ) : Type 0 where
  pub counted : parameters ≡ parameters_in b
  pub within : i ≤ parameters
  pub none : (k : ℕ) → k < i → called_at b m k ≡ false

abbrev pub invariant-loop-i : goal.invariant-loop-i
invariant-loop-i l = Passed l.t.bytes.now l.mnemonic l.parameters l.i
