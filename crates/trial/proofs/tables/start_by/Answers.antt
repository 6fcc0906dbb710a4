-- What is asked for is in the table.
use mathlib.Core.Path.{◌≡◌, refl, sym, ap, subst, ◌∙◌}
use mathlib.Core.List.{List}
use Prim.Native.Nat.{ℕ}
use Rattle.model.specs.View.{view}
use Rattle.table.specs.Answers.{Asked, AskedHere, asked_mnemonic, called, place_answered}
use Rattle.table.proofs.Accepting.{opened_here, opened_not, opened_now, opened_entries}
use Rattle.table.proofs.Asking.{mnemonic_asked, mnemonic_table, mnemonic_no_table}
use Rattle.trial.proofs.tables.start_by.Goals.{After-with_mnemonic}
use Rattle.trial.proofs.tables.start_by.Goals as goal

-- the parameter of that mnemonic is what is asked of the lent bytes
asked : (c : After-with_mnemonic) → c.with_mnemonic.result ≡ asked_mnemonic c.args.t.now c.args.mnemonic.now
asked c =
    c.with_mnemonic.ensures ∙ ap (λ (x : List ℕ). called (view x) c.args.mnemonic.now) (opened_now c.in-Some.ensures) ∙ mnemonic_table _ _ (opened_here c.in-Some.ensures)

pub with_mnemonic-requires : goal.with_mnemonic-requires
with_mnemonic-requires c = record { entries = opened_entries c.in-Some.ensures }

pub start_in-requires : goal.start_in-requires
start_in-requires c =
    let h = subst (λ (x : List ℕ). AskedHere x (asked_mnemonic c.args.t.now c.args.mnemonic.now)) (sym (opened_now c.in-Some.ensures)) (mnemonic_asked c.args.t.now c.args.mnemonic.now) in
    record { asked_here = subst (λ (x : Asked). AskedHere c.in-Some.r.declared.table.bytes.now x) (sym (asked c)) h }

pub returns-in-Some : goal.returns-in-Some
returns-in-Some c =
    c.start_in.ensures
    ∙ ap (λ (x : List ℕ). place_answered x c.with_mnemonic.result) (opened_now c.in-Some.ensures)
    ∙ ap (place_answered c.args.t.now) (asked (goal.at.returns-in-Some c).After-with_mnemonic)

pub returns-in-None : goal.returns-in-None
unfolding place_answered
returns-in-None c = rw (mnemonic_no_table c.args.t.now c.args.mnemonic.now (opened_not c.in-None.ensures refl))
