-- 21, 22, then what the frame turns out to be.
use mathlib.Core.Path.{◌≡◌, sym, ap, ◌∙◌}
use Prim.Native.Nat.{◌-◌}
use native.Mathlib.Omega.{arith}
use Rattle.model.specs.View.{view}
use Rattle.framing.specs.Wanted.{fitted, wanted_by}
use Rattle.framing.proofs.WantCases.{parameter_low, parameter_high, sample_low, sample_high, sample_here}
use Rattle.frame.proofs.want.sample_wanted.Goals.{Else-e-s}
use Rattle.std.proofs.lemmas.Result.{err_from_is_err_and}
use Rattle.frame.proofs.want.sample_wanted.Goals as goal
use Rattle.framing.specs.Fitting.{Fit}

pub returns-then-p-lt1 : goal.returns-then-p-lt1
returns-then-p-lt1 c = sym (parameter_low _ _ _ _ c.if-p-lt1.true)

pub returns-then-r-p : goal.returns-then-r-p
returns-then-r-p c = sym (parameter_high _ _ _ _ c.if-p-lt1.false (omega (arith, c.args.r.now.declared.table.opened_of.counts, c.if-r-p.true)))

pub parameter_at-e-requires : goal.parameter_at-e-requires
parameter_at-e-requires c = record { i_bound = omega (arith, c.args.r.now.declared.table.opened_of.counts, c.if-r-p.false, c.if-p-lt1.false) }

pub returns-then-s-lt1 : goal.returns-then-s-lt1
returns-then-s-lt1 c = sym (sample_low _ _ _ _ c.if-p-lt1.false (omega (arith, c.args.r.now.declared.table.opened_of.counts, c.if-r-p.false)) c.if-s-lt1.true)

pub returns-then-e-s : goal.returns-then-e-s
returns-then-e-s c =
    sym (sample_high _ _ _ _ c.if-p-lt1.false (omega (arith, c.args.r.now.declared.table.opened_of.counts, c.if-r-p.false)) c.if-s-lt1.false (omega (arith, c.parameter_at-e.ensures.count_is, c.if-e-s.true)))

-- the numbers name a sample of the table, so that the frame's fit decides
decided : (c : Else-e-s) (d : Fit) → c.args.fit ≡ d → wanted_by (view c.args.r.now.declared.table.bytes.now) c.args.fit c.args.parameter c.args.sample ≡ fitted d (c.args.parameter - 1) (c.args.sample - 1)
decided c d e =
    sample_here _ _ _ _ c.if-p-lt1.false (omega (arith, c.args.r.now.declared.table.opened_of.counts, c.if-r-p.false)) c.if-s-lt1.false (omega (arith, c.parameter_at-e.ensures.count_is, c.if-e-s.false))
    ∙ ap (λ (x : Fit). fitted x (c.args.parameter - 1) (c.args.sample - 1)) e

pub returns-in_err-fit : goal.returns-in_err-fit
unfolding fitted
returns-in_err-fit c =
    let q = err_from_is_err_and c.from_residual.result c.from_residual.ensures.1 in
    rw (q.1, q.2) (sym (decided (goal.at.returns-in_err-fit c).Else-e-s _ c.in_err-fit.was))

pub returns : goal.returns
unfolding fitted
returns c = sym (decided (goal.at.returns c).Else-e-s _ c.in_ok-fit.was)
