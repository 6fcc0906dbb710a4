-- Each offset is where its part begins.
use mathlib.Core.Path.{◌≡◌, sym, ◌∙◌}
use native.Mathlib.Omega.{arith}
use borrow.Author.Tests.{eqb-true, eq-eqb, leb-true, le-leb}
use Prim.Native.Nat.{ℕ}
use lib.Dec.{eqb}
use Rattle.lay.proofs.Tests.{and_0, and_1, and_both, refuse, differ, same_tests}
use Rattle.lay.specs.Layout.{offset_by}
use Rattle.model.specs.Forms.{layout_in}
use Rattle.model.specs.Stored.{count_in, offset_in}
use Rattle.model.proofs.Rows.{each_part}
use Rattle.model.proofs.Laying.{offsets, offsets_made}
use Rattle.stored.proofs.Reading.{told_start}
use Rattle.stored.proofs.layout.offsets_ok.Goals as goal

pub returns-then-eq : goal.returns-then-eq
returns-then-eq c =
    let e = c.header_of-h.ensures in
    let s = c.requires.starts_of in
    let w = told_start c.args.b.now.formed in
    let h = c.header_of-h.result in
    let a = c.args.at in
    let q0 = sym c.eq.ensures ∙ c.if-eq.true in
    let q1 = and_1 (eqb h.subframes a.subframes) _ q0 in
    let q2 = and_1 (eqb h.parameters a.parameters) _ q1 in
    let q3 = and_1 (eqb h.samples a.samples) _ q2 in
    let each =
    each_part (λ (p : ℕ). offset_in _ p ≡ offset_by (layout_in _) (count_in _) p)
    (sym e.subframes_is ∙ eqb-true _ _ (and_0 _ _ q0) ∙ s.subframes_is ∙ sym (w 0 (omega arith)), (sym e.parameters_is ∙ eqb-true _ _ (and_0 _ _ q1) ∙ s.parameters_is ∙ sym (w 1 (omega arith)), (sym e.samples_is ∙ eqb-true _ _ (and_0 _ _ q2) ∙ s.samples_is ∙ sym (w 2 (omega arith)), (sym e.components_is ∙ eqb-true _ _ (and_0 _ _ q3) ∙ s.components_is ∙ sym (w 3 (omega arith)), tt)))) in
    same_tests _ _
    (λ l. offsets_made _ (record { each = each; text = sym e.text_is ∙ eqb-true _ _ (and_1 _ _ q3) ∙ s.text_is; fits = omega (arith, s.text_is, leb-true _ _ l) }))
    (λ h. let r = (offsets _ h).fits in le-leb _ _ (omega (arith, r, s.text_is)))

pub returns-else-eq : goal.returns-else-eq
returns-else-eq c =
    let e = c.header_of-h.ensures in
    let s = c.requires.starts_of in
    let w = told_start c.args.b.now.formed in
    c.if-eq.false
    ∙ refuse _
    (λ h.
    let r = offsets _ h in
    differ (sym c.eq.ensures ∙ c.if-eq.false)
    (and_both (eq-eqb _ _ (e.subframes_is ∙ r.each 0 (omega arith) ∙ w 0 (omega arith) ∙ sym s.subframes_is))
    (and_both (eq-eqb _ _ (e.parameters_is ∙ r.each 1 (omega arith) ∙ w 1 (omega arith) ∙ sym s.parameters_is))
    (and_both (eq-eqb _ _ (e.samples_is ∙ r.each 2 (omega arith) ∙ w 2 (omega arith) ∙ sym s.samples_is))
    (and_both (eq-eqb _ _ (e.components_is ∙ r.each 3 (omega arith) ∙ w 3 (omega arith) ∙ sym s.components_is)) (eq-eqb _ _ (e.text_is ∙ r.text ∙ sym s.text_is)))))))
