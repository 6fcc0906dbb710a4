use Prim.Native.Nat.{◌-◌}
use lib.ListN.{length}
use Rattle.judge.proofs.Judging.{Judging}
use Rattle.judge.proofs.walk.walked.Given as goal

abbrev pub invariant-loop-c : goal.invariant-loop-c
invariant-loop-c l = Judging l.sheet l.rows l.c l.t

abbrev pub decreases-loop-c : goal.decreases-loop-c
decreases-loop-c l = length l.sheet - l.c.at
