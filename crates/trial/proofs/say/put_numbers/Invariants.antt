-- A number and its space have at most 21 bytes.
use Prim.Native.Nat.{◌*◌, ◌≤◌}
use Rattle.trial.proofs.say.put_numbers.Given as goal

abbrev pub invariant-loop-n : goal.invariant-loop-n
invariant-loop-n l = l.end ≤ 21 * l.n-index
