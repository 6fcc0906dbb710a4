-- The number of what is asked.
use mathlib.Core.Path.{◌≡◌, refl, sym, ap, subst, ◌∙◌}
use mathlib.Core.List.{List}
use Prim.Native.Nat.{ℕ}
use Rattle.std.specs.Borrow.{Bor}
use Rattle.table.specs.Answers.{asked_refusal, called}
use Rattle.model.specs.View.{view}
use Rattle.table.proofs.Accepting.{opened_here, opened_not, opened_bytes, opened_entries}
use Rattle.table.proofs.Asking.{mnemonic_table, mnemonic_no_table}
use Rattle.table.proofs.naming.name_by_number.Goals as goal

pub with_mnemonic-requires : goal.with_mnemonic-requires
with_mnemonic-requires c = record { entries = opened_entries c.in-Some.ensures }

pub returns-in-Some : goal.returns-in-Some
unfolding asked_refusal
returns-in-Some c =
    let h = subst (λ (x : Bor (List ℕ)). c.with_mnemonic.result ≡ called (view x.now) c.args.mnemonic.now) (opened_bytes c.in-Some.ensures) c.with_mnemonic.ensures in
    c.answer_number.ensures ∙ ap asked_refusal (h ∙ mnemonic_table _ _ (opened_here c.in-Some.ensures))

pub returns-in-None : goal.returns-in-None
unfolding asked_refusal
returns-in-None c = c.reason_number.ensures ∙ sym (ap asked_refusal (mnemonic_no_table _ _ (opened_not c.in-None.ensures refl)))
