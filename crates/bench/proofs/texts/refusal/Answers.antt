use Rattle.bench.proofs.TextLaws.{fills_none, fills_some}
use Rattle.bench.proofs.texts.refusal.Goals as goal

pub returns-then-out-lt50 : goal.returns-then-out-lt50
returns-then-out-lt50 c = fills_none _ _ _ c.if-out-lt50.true

pub returns : goal.returns
returns c = fills_some _ _ _ _ _ c.if-out-lt50.false c.put_refused.ensures.value.0 c.put_refused.ensures.value.1
