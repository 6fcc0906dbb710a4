-- The tests of acceptance behind the head's, in their order.
use mathlib.Core.Path.{sym, ◌∙◌}
use Rattle.lay.proofs.Tests.{refuse, differ}
use Rattle.model.proofs.Laying.{head_made, entries, rows, zeros}
use Rattle.table.proofs.Accepting.{accepts_entries, accepts_rows, accepts_zeros, accepts_lawful, accepts_made}
use Rattle.table.proofs.check.body_ok.Goals as goal

pub returns-then-not-entries_ok : goal.returns-then-not-entries_ok
returns-then-not-entries_ok c = refuse _ (λ h. differ (sym c.entries_ok.ensures ∙ c.if-not-entries_ok.true) (accepts_entries _ h))

pub returns-then-not-rows_ok : goal.returns-then-not-rows_ok
returns-then-not-rows_ok c = refuse _ (λ h. differ (sym c.rows_ok.ensures ∙ c.if-not-rows_ok.true) (accepts_rows _ h))

pub returns-then-not-zeros_ok : goal.returns-then-not-zeros_ok
returns-then-not-zeros_ok c = refuse _ (λ h. differ (sym c.zeros_ok.ensures ∙ c.if-not-zeros_ok.true) (accepts_zeros _ h))

pub lawful_ok-requires : goal.lawful_ok-requires
lawful_ok-requires c =
    record {
      laid =
          record {
            head = c.requires.head;
            entries = entries _ (sym c.entries_ok.ensures ∙ c.if-not-entries_ok.false);
            rows = rows _ (sym c.rows_ok.ensures ∙ c.if-not-rows_ok.false);
            zeros = zeros _ (sym c.zeros_ok.ensures ∙ c.if-not-zeros_ok.false);
          };
    }

pub returns-then-not-lawful_ok : goal.returns-then-not-lawful_ok
returns-then-not-lawful_ok c = refuse _ (λ h. differ (sym c.lawful_ok.ensures ∙ c.if-not-lawful_ok.true) (accepts_lawful _ h))

pub returns : goal.returns
returns c =
    sym
    (accepts_made _
    (head_made _ c.requires.head)
    (sym c.entries_ok.ensures ∙ c.if-not-entries_ok.false)
    (sym c.rows_ok.ensures ∙ c.if-not-rows_ok.false)
    (sym c.zeros_ok.ensures ∙ c.if-not-zeros_ok.false)
    (sym c.lawful_ok.ensures ∙ c.if-not-lawful_ok.false))
