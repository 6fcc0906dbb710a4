-- From no bit before j on.
use Rattle.stream.specs.Promise.{UnlikeTo}
use Rattle.stream.proofs.skip.first_like.Given as goal

abbrev pub invariant-loop-j : goal.invariant-loop-j
invariant-loop-j l = UnlikeTo l.v l.s l.n l.want l.j
