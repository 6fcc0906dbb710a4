-- The samples so far lie within the lent values.
use Rattle.std.proofs.Common.{◌≤◌, length}
use Rattle.speedlib.proofs.all_values.Given as goal

abbrev pub invariant-loop-i : goal.invariant-loop-i
invariant-loop-i l = l.at ≤ length l.values
