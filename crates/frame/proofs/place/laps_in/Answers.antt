-- 21, 22, then what the sample has.
use mathlib.Core.Path.{sym, ap, ◌∙◌}
use Prim.Native.Nat.{ℕ, ◌+◌, ◌-◌}
use native.Mathlib.Omega.{arith}
use Rattle.model.specs.Samples.{overlapped}
use Rattle.model.specs.View.{sample_at}
use Rattle.framing.proofs.Listed.{listed_at, here_at, law_at}
use Rattle.framing.proofs.WantCases.{laps_low, laps_high, laps_none, laps_beyond, laps_here}
use Rattle.frame.proofs.place.laps_in.Goals as goal

pub returns-then-p-lt1 : goal.returns-then-p-lt1
returns-then-p-lt1 c = sym (laps_low _ _ _ c.if-p-lt1.true)

pub returns-then-r-p : goal.returns-then-r-p
returns-then-r-p c = sym (laps_high _ _ _ c.if-p-lt1.false (omega (arith, c.args.r.now.declared.table.opened_of.counts, c.if-r-p.true)))

pub parameter_at-e-requires : goal.parameter_at-e-requires
parameter_at-e-requires c = record { i_bound = omega (arith, c.args.r.now.declared.table.opened_of.counts, c.if-r-p.false, c.if-p-lt1.false) }

pub returns-then-s-lt1 : goal.returns-then-s-lt1
returns-then-s-lt1 c = sym (laps_none _ _ _ c.if-p-lt1.false (omega (arith, c.args.r.now.declared.table.opened_of.counts, c.if-r-p.false)) c.if-s-lt1.true)

pub returns-then-e-s : goal.returns-then-e-s
returns-then-e-s c =
    sym (laps_beyond _ _ _ c.if-p-lt1.false (omega (arith, c.args.r.now.declared.table.opened_of.counts, c.if-r-p.false)) c.if-s-lt1.false (omega (arith, c.parameter_at-e.ensures.count_is, c.if-e-s.true)))

pub overflow_add-e : goal.overflow_add-e
overflow_add-e c = omega (arith, c.parameter_at-e.ensures)

pub laps_at-requires : goal.laps_at-requires
laps_at-requires c =
    let t = c.args.r.now.declared.table.bytes.now in
    let s = c.args.sample in
    let p = c.args.parameter in
    let e = c.parameter_at-e.ensures in
    let m = listed_at t (p - 1) (s - 1) c.args.r.now.ruled (omega (arith, c.args.r.now.declared.table.opened_of.counts, c.if-r-p.false, c.if-p-lt1.false)) (omega (arith, e.count_is, c.if-e-s.false, c.if-s-lt1.false)) in
    let q = ap (λ (n : ℕ). n + (s - 1)) e.first_is in
    record { sample_here = here_at t _ _ m q; sample_law = law_at t _ _ m q }

pub returns : goal.returns
returns c =
    let t = c.args.r.now.declared.table.bytes.now in
    let s = c.args.sample in
    let p = c.args.parameter in
    let e = c.parameter_at-e.ensures in
    let m = listed_at t (p - 1) (s - 1) c.args.r.now.ruled (omega (arith, c.args.r.now.declared.table.opened_of.counts, c.if-r-p.false, c.if-p-lt1.false)) (omega (arith, e.count_is, c.if-e-s.false, c.if-s-lt1.false)) in
    c.laps_at.ensures
    ∙ ap overlapped (ap (λ (n : ℕ). sample_at t (n + (s - 1))) e.first_is ∙ sym m.is)
    ∙ sym (laps_here t p s c.if-p-lt1.false (omega (arith, c.args.r.now.declared.table.opened_of.counts, c.if-r-p.false)) c.if-s-lt1.false (omega (arith, e.count_is, c.if-e-s.false)))
