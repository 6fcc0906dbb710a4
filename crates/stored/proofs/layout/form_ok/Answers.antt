-- The length up to the form, the form, the length of its header.
use mathlib.Core.Path.{sym, ap, ◌∙◌}
use Prim.Native.Nat.{ℕ}
use native.Mathlib.Omega.{arith}
use Rattle.lay.specs.Slots.{span}
use Rattle.lay.proofs.Tests.{refuse, differ}
use Rattle.model.specs.Forms.{known, layout_of, layout_in}
use Rattle.model.proofs.Laying.{formed, formed_made}
use Rattle.stored.specs.declared.forms.HeaderShape.{HeaderShape}
use Rattle.stored.proofs.layout.form_ok.Goals as goal

pub returns-then-t-lt-FORM_ENDS : goal.returns-then-t-lt-FORM_ENDS
returns-then-t-lt-FORM_ENDS c = refuse _ (λ h. let r = formed _ h in omega (arith, r.long, c.if-t-lt-FORM_ENDS.true))

pub returns-then-not-known_form : goal.returns-then-not-known_form
returns-then-not-known_form c = refuse _ (λ h. differ (sym c.known_form.ensures ∙ c.if-not-known_form.true) (ap known c.form_of-f.ensures ∙ (formed _ h).known))

pub header_shape-h-requires : goal.header_shape-h-requires
header_shape-h-requires c = sym c.known_form.ensures ∙ c.if-not-known_form.false

pub returns-then-t-h : goal.returns-then-t-h
unfolding layout_in
returns-then-t-h c =
    let e = ap (λ (s : HeaderShape). s.size) c.header_shape-h.ensures ∙ ap (λ (f : ℕ). span (layout_of f).header) c.form_of-f.ensures in
    refuse _ (λ h. let r = (formed _ h).head in omega (arith, e, r, c.if-t-h.true))

pub returns : goal.returns
unfolding layout_in
returns c =
    let e = ap (λ (s : HeaderShape). s.size) c.header_shape-h.ensures ∙ ap (λ (f : ℕ). span (layout_of f).header) c.form_of-f.ensures in
    sym
    (formed_made _
    (record {
      long = omega (arith, c.if-t-lt-FORM_ENDS.false);
      known = ap known (sym c.form_of-f.ensures) ∙ sym c.known_form.ensures ∙ c.if-not-known_form.false;
      head = omega (arith, e, c.if-t-h.false);
    }))
