-- From no bit before j on.
use Rattle.stream.specs.Promise.{UnlikeTo}
use Rattle.stream.proofs.skip.eight_unlike.Given as goal

abbrev pub invariant-loop-j : goal.invariant-loop-j
invariant-loop-j l = UnlikeTo l.v 0 l.n l.want l.j
