use mathlib.Core.Path.{sym, ap, ◌∙◌}
use native.Mathlib.Omega.{arith}
use borrow.Author.Count.{below_more}
use borrow.Author.Tests.{not-true, not-false}
use Rattle.model.specs.Limits.{Limits}
use Prim.Native.Nat.{◌<◌}
use Rattle.model.specs.Stored.{subframes_in}
use Rattle.stored.proofs.Reading.{bounds_are}
use Rattle.card.proofs.MarginLaws.{known_made, known_told, untold_form, untold_leading, untold_trailing}
use Rattle.card.proofs.margins.margins_told.Goals.{then-f-eq-BLANK_MARGIN-via-then-f-eq-BLANK_MARGIN, then-f-eq-BLANK_MARGIN-via-else-f-eq-BLANK_MARGIN+then-f-eq-BLANK_MARGIN-2}
use Rattle.card.proofs.margins.margins_told.Goals as goal

pub returns-then-not-bounds_of : goal.returns-then-not-bounds_of
returns-then-not-bounds_of c = untold_form _ (sym (ap (λ (l : Limits). l.blank) (bounds_are _ c.args.t.now.opened_of.form_is c.bounds_of.ensures)) ∙ not-true _ c.if-not-bounds_of.true)

pub returns-then-f-eq-BLANK_MARGIN : goal.returns-then-f-eq-BLANK_MARGIN
returns-then-f-eq-BLANK_MARGIN c =
    let here : c.loop-i.i < subframes_in c.args.t.now.bytes.now = omega (arith, c.loop-i.invariant, c.loop-i-test.true) in
    let e = c.subframe_at-f.ensures in
    elim c.then-f-eq-BLANK_MARGIN.branch [
      | then-f-eq-BLANK_MARGIN-via-then-f-eq-BLANK_MARGIN w ↦ untold_leading _ c.loop-i.i here (sym e.leading_is ∙ w.if-f-eq-BLANK_MARGIN.true)
      | then-f-eq-BLANK_MARGIN-via-else-f-eq-BLANK_MARGIN+then-f-eq-BLANK_MARGIN-2 w ↦ untold_trailing _ c.loop-i.i here (sym e.trailing_is ∙ w.if-f-eq-BLANK_MARGIN-2.true)
    ]

pub loop-i-preserved : goal.loop-i-preserved
loop-i-preserved c =
    let v = c.loop-i.invariant in
    let e = c.subframe_at-f.ensures in
    record {
      counted = v.counted;
      within = omega (arith, v, c.loop-i-test.true);
      each =
          below_more _ c.loop-i.i v.each
          (record {
            leading = known_made _ (λ z. c.if-f-eq-BLANK_MARGIN.false (e.leading_is ∙ z));
            trailing = known_made _ (λ z. c.if-f-eq-BLANK_MARGIN-2.false (e.trailing_is ∙ z));
          });
    }

pub returns : goal.returns
returns c =
    let v = c.loop-i.invariant in
    known_told c.args.t.now.bytes.now (sym (ap (λ (l : Limits). l.blank) (bounds_are _ c.args.t.now.opened_of.form_is c.bounds_of.ensures)) ∙ not-false _ c.if-not-bounds_of.false)
    (λ i l. v.each i (omega (arith, v, c.loop-i-test.false)))
