use Rattle.bench.proofs.TextLaws.{fills_none, fills_some}
use Rattle.bench.proofs.texts.heading.Goals as goal

pub returns-then-out-lt28 : goal.returns-then-out-lt28
returns-then-out-lt28 c = fills_none _ _ _ c.if-out-lt28.true

pub returns : goal.returns
returns c = fills_some _ _ _ _ _ c.if-out-lt28.false c.put_heading.ensures.value.0 c.put_heading.ensures.value.1
