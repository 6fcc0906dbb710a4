-- What is asked, and its name.
use mathlib.Core.Path.{◌≡◌, refl, sym, subst, ◌∙◌}
use mathlib.Core.List.{List}
use Prim.Native.Nat.{ℕ}
use Rattle.std.specs.Borrow.{Bor}
use Rattle.table.specs.Answers.{NameOf, Asked, AskedHere, asked_number}
use Rattle.table.proofs.Accepting.{opened_here, opened_not, opened_bytes, opened_parameters}
use Rattle.table.proofs.Asking.{number_asked, number_table, number_no_table, no_name}
use Rattle.table.proofs.naming.name.Goals.{After-numbered}
use Rattle.table.proofs.naming.name.Goals as goal

-- the parameter of that number is what is asked of the lent bytes
asked : (c : After-numbered) → c.numbered.result ≡ asked_number c.args.t.now c.args.number
asked c = c.numbered.ensures ∙ number_table _ _ (opened_here c.in-Some.ensures) _ (opened_parameters c.in-Some.ensures)

pub name_of-requires : goal.name_of-requires
name_of-requires c =
    let h = subst (λ (x : Bor (List ℕ)). AskedHere x.now (asked_number c.args.t.now c.args.number)) (sym (opened_bytes c.in-Some.ensures)) (number_asked c.args.t.now c.args.number) in
    record { asked_here = subst (λ (x : Asked). AskedHere c.in-Some.r.declared.table.bytes.now x) (sym (asked c)) h }

pub returns-in-Some : goal.returns-in-Some
returns-in-Some c =
    let h = subst (λ (x : Bor (List ℕ)). NameOf x c.name_of.result c.numbered.result) (opened_bytes c.in-Some.ensures) c.name_of.ensures in
    subst (λ (x : Asked). NameOf c.args.t c.name_of.result x) (asked (goal.at.returns-in-Some c).After-numbered) h

pub returns-in-None : goal.returns-in-None
returns-in-None c = no_name _ _ _ _ (number_no_table _ _ (opened_not c.in-None.ensures refl)) refl refl
