use mathlib.Core.Path.{◌∙◌}
use native.Mathlib.Omega.{arith}
use borrow.Author.Tests.{eq-eqb, ne_eqb}
use Rattle.lay.proofs.Passing.{passed_more, failed, passed_all}
use Rattle.model.specs.View.{view}
use Rattle.framing.proofs.Held.{holds_all}
use Rattle.carding.specs.Layout.{frame_at}
use Rattle.card.proofs.Runs.{law_here, next_narrow, along_more, tested}
use Rattle.card.proofs.agree.holds_in.Goals as goal

pub run_at-c-requires-clause-component_law : goal.run_at-c-requires-clause-component_law
run_at-c-requires-clause-component_law c = law_here c.loop-k.invariant.0 c.loop-k-test.true

pub returns-then-bits_at-field_of : goal.returns-then-bits_at-field_of
returns-then-bits_at-field_of c =
    let v = c.loop-k.invariant in
    let l = c.loop-k-test.true in
    let b = c.args.s.now.ruled.declared.table.bytes.now in
    let y = c.args.stream.now in
    failed v.1 l (tested v.0 l c.run_at-c.ensures y c.args.p c.args.v c.bits_at.ensures.0 c.field_of.ensures) (ne_eqb _ _ c.if-bits_at-field_of.true)
    ∙ holds_all b c.args.j (frame_at (view b) y c.args.p) c.args.v

pub overflow_add-at : goal.overflow_add-at
overflow_add-at c = omega (arith, next_narrow c.loop-k.invariant.0 c.loop-k-test.true c.run_at-c.ensures)

pub loop-k-preserved : goal.loop-k-preserved
loop-k-preserved c =
    let v = c.loop-k.invariant in
    let l = c.loop-k-test.true in
    let e = c.run_at-c.ensures in (
      along_more v.0 l e,
      passed_more v.1 l (tested v.0 l e c.args.stream.now c.args.p c.args.v c.bits_at.ensures.0 c.field_of.ensures) (eq-eqb _ _ c.if-bits_at-field_of.false),
    )

pub returns : goal.returns
returns c =
    let b = c.args.s.now.ruled.declared.table.bytes.now in
    passed_all c.loop-k.invariant.1 c.loop-k-test.false
    ∙ holds_all b c.args.j (frame_at (view b) c.args.stream.now c.args.p) c.args.v
