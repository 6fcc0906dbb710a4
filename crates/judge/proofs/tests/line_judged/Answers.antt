use mathlib.Core.Path.{sym}
use Rattle.judge.proofs.FittingLaws.{fitting_apt}
use Rattle.judge.proofs.tests.line_judged.Goals as goal

pub sample_judged-requires : goal.sample_judged-requires
sample_judged-requires c =
    let a = c.args in
    fitting_apt a.form a.x a.g _ _ _ c.requires (sym c.in_ok-form_judged.ensures)
