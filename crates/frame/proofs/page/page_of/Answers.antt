-- What the check said, and the fit by it.
use mathlib.Core.Path.{refl, ap, ◌∙◌}
use Rattle.rules.specs.declared.ruled.RuledTable.{RuledTable}
use Rattle.table.proofs.Accepting.{opened_here, opened_not, opened_now}
use Rattle.frame.proofs.page.page_of.Goals as goal

pub returns-in_err-r : goal.returns-in_err-r
returns-in_err-r c = rw c.from_residual.ensures (opened_not c.in_err-r.ensures refl)

pub invariant_of-result : goal.invariant_of-result
invariant_of-result c = record { fit_value = c.fit_of-fit.ensures }

pub returns : goal.returns
returns c =
    let m = c.in_ok-r.ensures in
    record { accepted = opened_here m; bytes = ap (λ (r : RuledTable). r.declared.table.bytes.now) c.based-table.ensures ∙ opened_now m; words = refl }
