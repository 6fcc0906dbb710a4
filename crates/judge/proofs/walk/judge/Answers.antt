use mathlib.Core.Path.{◌∙◌}
use Rattle.judge.proofs.Runs.{answer_long}
use Rattle.judge.proofs.walk.judge.Goals as goal

pub returns-then-sheet-gt65536 : goal.returns-then-sheet-gt65536
returns-then-sheet-gt65536 c = c.refused.ensures ∙ answer_long _ c.if-sheet-gt65536.true
