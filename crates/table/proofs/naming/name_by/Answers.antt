-- What is asked, and its name.
use mathlib.Core.Path.{◌≡◌, refl, sym, subst, ◌∙◌}
use mathlib.Core.List.{List}
use Prim.Native.Nat.{ℕ}
use Rattle.std.specs.Borrow.{Bor}
use Rattle.table.specs.Answers.{NameOf, Asked, AskedHere, asked_mnemonic, called}
use Rattle.model.specs.View.{view}
use Rattle.table.proofs.Accepting.{opened_here, opened_not, opened_bytes, opened_entries}
use Rattle.table.proofs.Asking.{mnemonic_asked, mnemonic_table, mnemonic_no_table, no_name}
use Rattle.table.proofs.naming.name_by.Goals.{After-with_mnemonic}
use Rattle.table.proofs.naming.name_by.Goals as goal

-- the parameter of that mnemonic is what is asked of the lent bytes
asked : (c : After-with_mnemonic) → c.with_mnemonic.result ≡ asked_mnemonic c.args.t.now c.args.mnemonic.now
asked c =
    let h = subst (λ (x : Bor (List ℕ)). c.with_mnemonic.result ≡ called (view x.now) c.args.mnemonic.now) (opened_bytes c.in-Some.ensures) c.with_mnemonic.ensures in
    h ∙ mnemonic_table _ _ (opened_here c.in-Some.ensures)

pub with_mnemonic-requires : goal.with_mnemonic-requires
with_mnemonic-requires c = record { entries = opened_entries c.in-Some.ensures }

pub name_of-requires : goal.name_of-requires
name_of-requires c =
    let h = subst (λ (x : Bor (List ℕ)). AskedHere x.now (asked_mnemonic c.args.t.now c.args.mnemonic.now)) (sym (opened_bytes c.in-Some.ensures)) (mnemonic_asked c.args.t.now c.args.mnemonic.now) in
    record { asked_here = subst (λ (x : Asked). AskedHere c.in-Some.r.declared.table.bytes.now x) (sym (asked c)) h }

pub returns-in-Some : goal.returns-in-Some
returns-in-Some c =
    let h = subst (λ (x : Bor (List ℕ)). NameOf x c.name_of.result c.with_mnemonic.result) (opened_bytes c.in-Some.ensures) c.name_of.ensures in
    subst (λ (x : Asked). NameOf c.args.t c.name_of.result x) (asked (goal.at.returns-in-Some c).After-with_mnemonic) h

pub returns-in-None : goal.returns-in-None
returns-in-None c = no_name _ _ _ _ (mnemonic_no_table _ _ (opened_not c.in-None.ensures refl)) refl refl
