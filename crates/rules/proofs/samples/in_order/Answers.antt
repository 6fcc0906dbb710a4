-- The two tests of a component.
use Rattle.rules.proofs.Samplings.{order_lost, order_is}
use mathlib.Core.Path.{ap}
use mathlib.Core.Bool.{not}
use Rattle.rules.proofs.samples.in_order.Goals as goal

pub returns-then-not-component_ok : goal.returns-then-not-component_ok
returns-then-not-component_ok c = order_lost _ _ _ c.sample_at-s.ensures.first_is c.component_ok.ensures (ap not c.if-not-component_ok.true)

pub returns : goal.returns
returns c = order_is _ _ _ c.sample_at-s.ensures.first_is c.component_ok.ensures (ap not c.if-not-component_ok.false) c.overlap_ok.ensures
