-- What is asked for is in the table.
use mathlib.Core.Path.{◌≡◌, refl, sym, ap, subst, ◌∙◌}
use mathlib.Core.List.{List}
use Prim.Native.Nat.{ℕ}
use Rattle.table.specs.Answers.{Asked, AskedHere, asked_number, place_answered}
use Rattle.table.proofs.Accepting.{opened_here, opened_not, opened_now, opened_parameters}
use Rattle.table.proofs.Asking.{number_asked, number_table, number_no_table}
use Rattle.trial.proofs.tables.start_of.Goals.{After-numbered}
use Rattle.trial.proofs.tables.start_of.Goals as goal

-- the parameter of that number is what is asked of the lent bytes
asked : (c : After-numbered) → c.numbered.result ≡ asked_number c.args.t.now c.args.parameter
asked c = c.numbered.ensures ∙ number_table _ _ (opened_here c.in-Some.ensures) _ (opened_parameters c.in-Some.ensures)

pub start_in-requires : goal.start_in-requires
start_in-requires c =
    let h = subst (λ (x : List ℕ). AskedHere x (asked_number c.args.t.now c.args.parameter)) (sym (opened_now c.in-Some.ensures)) (number_asked c.args.t.now c.args.parameter) in
    record { asked_here = subst (λ (x : Asked). AskedHere c.in-Some.r.declared.table.bytes.now x) (sym (asked c)) h }

pub returns-in-Some : goal.returns-in-Some
returns-in-Some c =
    c.start_in.ensures
    ∙ ap (λ (x : List ℕ). place_answered x c.numbered.result) (opened_now c.in-Some.ensures)
    ∙ ap (place_answered c.args.t.now) (asked (goal.at.returns-in-Some c).After-numbered)

pub returns-in-None : goal.returns-in-None
unfolding place_answered
returns-in-None c = rw (number_no_table c.args.t.now c.args.parameter (opened_not c.in-None.ensures refl))
