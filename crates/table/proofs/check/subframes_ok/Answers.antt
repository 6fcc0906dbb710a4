use Rattle.lay.proofs.Passing.{passed_none, passed_more, failed, passed_all}
use Rattle.table.proofs.check.subframes_ok.Goals as goal

pub loop-i-init : goal.loop-i-init
loop-i-init c = passed_none _ _ _ c.args.t.now.opened_of.counts.subframes_is

pub returns-then-not-subframe_ok : goal.returns-then-not-subframe_ok
returns-then-not-subframe_ok c = failed c.loop-i.invariant c.loop-i-test.true c.subframe_ok.ensures c.if-not-subframe_ok.true

pub loop-i-preserved : goal.loop-i-preserved
loop-i-preserved c = passed_more c.loop-i.invariant c.loop-i-test.true c.subframe_ok.ensures c.if-not-subframe_ok.false

pub returns : goal.returns
returns c = passed_all c.loop-i.invariant c.loop-i-test.false
