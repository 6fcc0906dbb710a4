-- The number of what is asked.
use mathlib.Core.Path.{refl, sym, ap, ◌∙◌}
use Rattle.table.specs.Answers.{asked_refusal}
use Rattle.table.proofs.Accepting.{opened_here, opened_not, opened_parameters}
use Rattle.table.proofs.Asking.{number_table, number_no_table}
use Rattle.table.proofs.naming.name_number.Goals as goal

pub returns-in-Some : goal.returns-in-Some
unfolding asked_refusal
returns-in-Some c =
    c.answer_number.ensures ∙ ap asked_refusal (c.numbered.ensures ∙ number_table _ _ (opened_here c.in-Some.ensures) _ (opened_parameters c.in-Some.ensures))

pub returns-in-None : goal.returns-in-None
unfolding asked_refusal
returns-in-None c = c.reason_number.ensures ∙ sym (ap asked_refusal (number_no_table _ _ (opened_not c.in-None.ensures refl)))
