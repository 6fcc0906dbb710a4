-- 18, then what the frame turns out to be, then the comparison.
use mathlib.Core.Path.{◌≡◌, sym, ap, subst, ◌∙◌}
use mathlib.Core.List.{List}
use Prim.Native.Nat.{ℕ}
use Rattle.std.specs.Prelude.{Ok, Some}
use Rattle.std.specs.Borrow.{Bor}
use Rattle.std.proofs.lemmas.Result.{err_from_is_err_and}
use Rattle.model.specs.View.{view}
use Rattle.framing.specs.Fitting.{Fit, fit_of}
use Rattle.framing.specs.Comparing.{fitted_compared, compared_in}
use Rattle.framing.proofs.Exits.{none_out}
use Rattle.framing.proofs.WantCases.{fits_long}
use Rattle.framing.proofs.CompareCases.{compared_no_table, compared_frame}
use Rattle.table.proofs.Accepting.{opened_accepted, opened_not}
use Rattle.frame.proofs.compare.compare.Goals as goal

pub returns-in_err-r : goal.returns-in_err-r
returns-in_err-r c =
    rw (none_out c.opening.result c.from_residual.result c.from_residual.ensures.1 c.in_err-r.ensures.value)
    (sym (compared_no_table _ _ (opened_not c.opening.ensures c.in_err-r.ensures.ok_part)))

pub invariant_of-compare_in : goal.invariant_of-compare_in
invariant_of-compare_in c = record { words_len = fits_long _ _ (sym c.in_ok-fit_of.ensures) }

-- what the frame turns out to be by the opened table, it is by the lent bytes
fitting : {b k : Bor (List ℕ)} (f : List ℕ) {d : Fit} → k ≡ b → d ≡ fit_of (view k.now) f → fit_of (view b.now) f ≡ d
fitting {b} {k} f {d} e h = sym (subst (λ (x : Bor (List ℕ)). d ≡ fit_of (view x.now) f) e h)

pub returns-in_err-fit_of : goal.returns-in_err-fit_of
unfolding fitted_compared
returns-in_err-fit_of c =
    let e = c.in_ok-r.ensures.ok_part ∙ ap Some (sym c.based-b.ensures) in
    let q = err_from_is_err_and c.from_residual-in_err-fit_of.result c.from_residual-in_err-fit_of.ensures.1 in
    rw (q.1, q.2)
    (sym (compared_frame _ _ _ (opened_accepted c.opening.ensures e) (fitting _ (c.opening.ensures.of _ e) c.in_err-fit_of.ensures)))

pub returns : goal.returns
unfolding fitted_compared
returns c =
    let e = c.in_ok-r.ensures.ok_part ∙ ap Some (sym c.based-b.ensures) in
    let b = c.opening.ensures.of _ e in
    c.compare_in.ensures
    ∙ ap (λ (x : Bor (List ℕ)). compared_in (view x.now) c.args.words.now) b
    ∙ sym (compared_frame _ _ (Ok tt) (opened_accepted c.opening.ensures e) (fitting _ b c.in_ok-fit_of.ensures))
