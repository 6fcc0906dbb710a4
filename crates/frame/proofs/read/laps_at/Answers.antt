use mathlib.Core.Path.{refl, sym, ap, ◌∙◌}
use Prim.Native.Nat.{◌-◌}
use native.Mathlib.Omega.{arith}
use borrow.Author.Tests.{eq-eqb}
use Rattle.lay.proofs.Passing.{passed_none, passed_more, passed_all}
use Rattle.model.proofs.Views.{components_at}
use Rattle.rules.proofs.Overlaps.{overlap_read}
use Rattle.framing.proofs.Held.{some_laps, no_laps}
use Rattle.frame.proofs.read.laps_at.Goals as goal

pub overflow_sub-last : goal.overflow_sub-last
overflow_sub-last c = omega (arith, components_at c.args.r.now.declared.table.bytes.now c.args.j, c.requires.sample_law.some, c.sample_at-s.ensures.count_is)

pub loop-k-init : goal.loop-k-init
loop-k-init c = passed_none _ _ _ (ap (λ n. n - 1) c.sample_at-s.ensures.count_is)

pub returns-then-c-ne0 : goal.returns-then-c-ne0
returns-then-c-ne0 c =
    let x = overlap_read c.args.r.now.declared.table.bytes.now c.args.j c.loop-k.k _ c.sample_at-s.ensures.first_is (omega (arith, c.loop-k.invariant.counted, c.loop-k-test.true)) c.component_at-c.ensures in
    sym (some_laps c.args.r.now.declared.table.bytes.now c.args.j c.loop-k.k (omega (arith, c.loop-k.invariant.counted, c.loop-k-test.true)) (λ e. c.if-c-ne0.true (sym x ∙ e)))

pub loop-k-preserved : goal.loop-k-preserved
loop-k-preserved c =
    let x = overlap_read c.args.r.now.declared.table.bytes.now c.args.j c.loop-k.k _ c.sample_at-s.ensures.first_is (omega (arith, c.loop-k.invariant.counted, c.loop-k-test.true)) c.component_at-c.ensures in
    passed_more c.loop-k.invariant c.loop-k-test.true refl (eq-eqb _ 0 (x ∙ c.if-c-ne0.false))

pub returns : goal.returns
returns c = sym (no_laps c.args.r.now.declared.table.bytes.now c.args.j c.requires.sample_law (sym (passed_all c.loop-k.invariant c.loop-k-test.false)))
