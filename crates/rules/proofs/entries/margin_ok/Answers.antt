-- Unknown, or so many.
use mathlib.Core.Path.{sym, ap}
use Rattle.model.specs.Rules.{margin_ok}
use Rattle.model.proofs.Margins.{margin_unknown, margin_known}
use Rattle.stored.specs.Shapes.{limits_by}
use Rattle.rules.proofs.entries.margin_ok.Goals as goal

pub returns-then-n-eq-BLANK_MARGIN : goal.returns-then-n-eq-BLANK_MARGIN
unfolding margin_ok
returns-then-n-eq-BLANK_MARGIN c = sym (ap (margin_ok (limits_by c.args.most)) (margin_unknown _ c.if-n-eq-BLANK_MARGIN.true))

pub returns : goal.returns
unfolding margin_ok
returns c = sym (ap (margin_ok (limits_by c.args.most)) (margin_known _ c.if-n-eq-BLANK_MARGIN.false))
