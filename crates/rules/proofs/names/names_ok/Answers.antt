use native.Mathlib.Omega.{arith}
use Rattle.lay.proofs.Passing.{passed_none, passed_more, failed, passed_all}
use Rattle.rules.specs.Ruled.{names_ok}
use Rattle.rules.proofs.names.names_ok.Goals as goal

pub loop-i-init : goal.loop-i-init
loop-i-init c = passed_none _ _ _ c.args.t.now.opened_of.counts.parameters_is

pub newly_named-requires : goal.newly_named-requires
newly_named-requires c =
    record { entries = c.requires.entries; i_bound = omega (arith, c.loop-i-test.true, c.args.t.now.opened_of.counts.parameters_is) }

pub returns-then-not-newly_named : goal.returns-then-not-newly_named
unfolding names_ok
returns-then-not-newly_named c = failed c.loop-i.invariant c.loop-i-test.true c.newly_named.ensures c.if-not-newly_named.true

pub loop-i-preserved : goal.loop-i-preserved
loop-i-preserved c = passed_more c.loop-i.invariant c.loop-i-test.true c.newly_named.ensures c.if-not-newly_named.false

pub returns : goal.returns
unfolding names_ok
returns c = passed_all c.loop-i.invariant c.loop-i-test.false
