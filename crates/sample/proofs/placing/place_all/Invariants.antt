-- Each component takes the low bits of what is left of the value.
use lib.ListN.{drop}
use Rattle.sample.proofs.Walks.{Placing}
use Rattle.sample.proofs.placing.place_all.Given as goal

abbrev pub invariant-loop-c : goal.invariant-loop-c
invariant-loop-c l = Placing l.initial.words l.c-items l.value l.words (drop l.c-index l.c-items) l.rest
