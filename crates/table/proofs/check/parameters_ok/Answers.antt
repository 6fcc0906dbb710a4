use native.Mathlib.Omega.{arith}
use Rattle.lay.proofs.Passing.{passed_none, passed_more, failed, passed_all}
use Rattle.model.proofs.Laying.{parameter_here}
use Rattle.table.proofs.check.parameters_ok.Goals as goal

pub loop-i-init : goal.loop-i-init
loop-i-init c = passed_none _ _ _ c.args.d.now.table.opened_of.counts.parameters_is

pub parameter_ok-requires : goal.parameter_ok-requires
parameter_ok-requires c =
    let b = c.args.d.now.table.bytes.now in
    let v = c.loop-i.invariant in
    record { rows = c.requires.rows; parameter_here = parameter_here b c.requires.entries _ (omega (arith, v, c.loop-i-test.true)) }

pub returns-then-not-parameter_ok : goal.returns-then-not-parameter_ok
returns-then-not-parameter_ok c = failed c.loop-i.invariant c.loop-i-test.true c.parameter_ok.ensures c.if-not-parameter_ok.true

pub loop-i-preserved : goal.loop-i-preserved
loop-i-preserved c = passed_more c.loop-i.invariant c.loop-i-test.true c.parameter_ok.ensures c.if-not-parameter_ok.false

pub returns : goal.returns
returns c = passed_all c.loop-i.invariant c.loop-i-test.false
