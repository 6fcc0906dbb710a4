use native.Mathlib.Omega.{arith}
use mathlib.Core.Path.{sym, ◌∙◌}
use Rattle.judge.proofs.Judging.{judging_start, judging_pairs, judging_parameters, judging_end}
use Rattle.judge.proofs.Turnings.{turn_going, turn_refused, turn_next, turn_steady, turn_on}
use Rattle.judge.proofs.walk.walked.Goals as goal

pub loop-c-init : goal.loop-c-init
loop-c-init c = judging_start c.requires (record { words = omega arith; bits = omega arith; kept = omega arith }) c.at_start-t.ensures

pub overflow_add-number : goal.overflow_add-number
overflow_add-number c = omega (arith, c.loop-c.invariant.ready)

pub turn-requires : goal.turn-requires
turn-requires c = turn_going c.loop-c.invariant

pub returns-in-Err : goal.returns-in-Err
returns-in-Err c = c.refused.ensures ∙ turn_refused c.loop-c.invariant c.loop-c-test.true _ (sym c.turn.ensures ∙ c.in-Err.is)

pub between-line-requires : goal.between-line-requires
between-line-requires c = let k = turn_next c.loop-c.invariant (sym c.turn.ensures ∙ c.in-Ok.is) in (k.ordered, omega (arith, k.ends, k.ready.inside))

pub keep-requires : goal.keep-requires
keep-requires c = (judging_pairs c.loop-c.invariant, judging_parameters c.loop-c.invariant)

pub after-t-requires : goal.after-t-requires
after-t-requires c = turn_steady c.loop-c.invariant (sym c.turn.ensures ∙ c.in-Ok.is) c.between-line.ensures

pub loop-c-smaller : goal.loop-c-smaller
loop-c-smaller c = let k = turn_next c.loop-c.invariant (sym c.turn.ensures ∙ c.in-Ok.is) in omega (arith, k.starts, k.ordered, k.ends, c.loop-c-test.true)

pub loop-c-preserved : goal.loop-c-preserved
loop-c-preserved c = turn_on c.loop-c.invariant (sym c.turn.ensures ∙ c.in-Ok.is) c.between-line.ensures c.keep.ensures c.after-t.ensures

pub overflow_add-c : goal.overflow_add-c
overflow_add-c c = omega (arith, c.loop-c.invariant.ready)

pub ended-requires : goal.ended-requires
ended-requires c = judging_parameters c.loop-c.invariant

pub returns : goal.returns
returns c = c.ended.ensures ∙ judging_end c.loop-c.invariant c.loop-c-test.false
