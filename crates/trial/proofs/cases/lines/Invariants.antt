-- Each case leaves less behind it.
use lib.ListN.{length}
use Rattle.trial.proofs.cases.lines.Given as goal

abbrev pub decreases-loop-c : goal.decreases-loop-c
decreases-loop-c l = length l.c.rest.now
