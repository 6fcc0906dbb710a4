-- At no position from k to before byte a are the n bits `want`.
use Prim.Native.Nat.{◌-◌}
use lib.ListN.{length}
use Rattle.stream.proofs.Skipping.{Passed}
use Rattle.stream.proofs.skip.skip_unlike.Given as goal

abbrev pub invariant-loop-a : goal.invariant-loop-a
invariant-loop-a l = Passed l.stream l.k l.n l.want l.a

abbrev pub decreases-loop-a : goal.decreases-loop-a
decreases-loop-a l = length l.stream - l.a
