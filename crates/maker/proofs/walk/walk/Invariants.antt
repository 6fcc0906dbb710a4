use Prim.Native.Nat.{◌-◌}
use lib.ListN.{length}
use Rattle.maker.proofs.Writing as writing
use Rattle.maker.proofs.walk.walk.Given as goal

abbrev pub invariant-loop-found : goal.invariant-loop-found
invariant-loop-found l = writing.Walk l.sheet l.initial.out l.a l.n l.out l.c l.due l.x

abbrev pub decreases-loop-found : goal.decreases-loop-found
decreases-loop-found l = length l.sheet - l.c.at
