-- The cursor stays ready, and each line leaves less behind it.
use Prim.Native.Nat.{◌-◌}
use lib.ListN.{length}
use Rattle.lines.specs.Line.{Ready}
use Rattle.intake.proofs.list.each_line.Given as goal

abbrev pub invariant-loop-c : goal.invariant-loop-c
invariant-loop-c g l = Ready l.list l.c × goal.F-IsAlwaysCallable g l.each

abbrev pub decreases-loop-c : goal.decreases-loop-c
decreases-loop-c g l = length l.list - l.c.at
