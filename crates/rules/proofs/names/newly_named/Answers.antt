use mathlib.Core.Path.{refl}
use native.Mathlib.Omega.{arith}
use Rattle.lay.proofs.Passing.{passed_none, passed_more, failed, passed_all}
use Rattle.model.proofs.Laying.{parameter_here}
use Rattle.rules.proofs.names.newly_named.Goals as goal

pub loop-k-init : goal.loop-k-init
loop-k-init c = passed_none _ _ _ refl

pub named_apart-requires : goal.named_apart-requires
named_apart-requires c =
    let p = c.requires in
    let l = c.loop-k-test.true in
    record { parameter_here = parameter_here _ p.entries c.loop-k.k (omega (arith, l, p.i_bound)); parameter_here_2 = parameter_here _ p.entries c.args.i p.i_bound }

pub returns-then-not-named_apart : goal.returns-then-not-named_apart
returns-then-not-named_apart c = failed c.loop-k.invariant c.loop-k-test.true c.named_apart.ensures c.if-not-named_apart.true

pub loop-k-preserved : goal.loop-k-preserved
loop-k-preserved c = passed_more c.loop-k.invariant c.loop-k-test.true c.named_apart.ensures c.if-not-named_apart.false

pub returns : goal.returns
returns c = passed_all c.loop-k.invariant c.loop-k-test.false
