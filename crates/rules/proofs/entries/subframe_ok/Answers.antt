-- Each test is one of the subframe's.
use mathlib.Core.Path.{sym, ap, ap₂, ◌∙◌}
use native.Mathlib.Omega.{arith}
use Rattle.lay.proofs.Tests.{refuse, differ}
use Rattle.model.specs.Limits.{Limits}
use Rattle.model.specs.Forms.{limits_in}
use Rattle.model.proofs.Laying.{limits_within}
use Rattle.stored.proofs.Reading.{known_here, bounds_are}
use Rattle.model.specs.Margin.{margin_as}
use Rattle.model.specs.Rules.{seconds_ok, margin_ok}
use Rattle.model.specs.View.{subframe_at}
use Rattle.model.proofs.Margins.{margin_law, margin_made}
use Rattle.model.proofs.Meanings.{seconds_law, seconds_made, subframe_law, subframe_made}
use Rattle.rules.proofs.entries.subframe_ok.Goals as goal

pub bounds_of-most-requires : goal.bounds_of-most-requires
bounds_of-most-requires c = known_here c.args.t.now.opened_of.sized.formed c.args.t.now.opened_of.form_is

pub returns-then-f-lt1 : goal.returns-then-f-lt1
unfolding subframe_at
returns-then-f-lt1 c =
    let e = c.subframe_at-f.ensures in
    refuse _ (λ h. let r = subframe_law (limits_in _) _ h in omega (arith, r, e, c.if-f-lt1.true))

pub returns-then-most-f : goal.returns-then-most-f
unfolding subframe_at
returns-then-most-f c =
    let e = c.subframe_at-f.ensures in
    refuse _ (λ h. let r = subframe_law (limits_in _) _ h in omega (arith, r, e, ap (λ (l : Limits). l.bits) (bounds_are _ c.args.t.now.opened_of.form_is c.bounds_of-most.ensures), c.if-most-f.true))

pub returns-then-f-lt1-2 : goal.returns-then-f-lt1-2
unfolding subframe_at
returns-then-f-lt1-2 c =
    let e = c.subframe_at-f.ensures in
    refuse _ (λ h. let r = subframe_law (limits_in _) _ h in omega (arith, r, e, c.if-f-lt1-2.true))

pub returns-then-most-f-2 : goal.returns-then-most-f-2
unfolding subframe_at
returns-then-most-f-2 c =
    let e = c.subframe_at-f.ensures in
    refuse _ (λ h. let r = subframe_law (limits_in _) _ h in omega (arith, r, e, ap (λ (l : Limits). l.words) (bounds_are _ c.args.t.now.opened_of.form_is c.bounds_of-most.ensures), c.if-most-f-2.true))

pub returns-then-not-margin_ok : goal.returns-then-not-margin_ok
unfolding subframe_at
returns-then-not-margin_ok c =
    let e = c.subframe_at-f.ensures in
    let m = bounds_are _ c.args.t.now.opened_of.form_is c.bounds_of-most.ensures in
    let q = ap₂ margin_ok m (ap margin_as e.leading_is) in
    refuse _ (λ h. differ (sym q ∙ sym c.margin_ok.ensures ∙ c.if-not-margin_ok.true) (margin_made (limits_in _) _ (subframe_law (limits_in _) _ h).leading))

pub returns-then-not-margin_ok-2 : goal.returns-then-not-margin_ok-2
unfolding subframe_at
returns-then-not-margin_ok-2 c =
    let e = c.subframe_at-f.ensures in
    let m = bounds_are _ c.args.t.now.opened_of.form_is c.bounds_of-most.ensures in
    let q = ap₂ margin_ok m (ap margin_as e.trailing_is) in
    refuse _ (λ h. differ (sym q ∙ sym c.margin_ok-2.ensures ∙ c.if-not-margin_ok-2.true) (margin_made (limits_in _) _ (subframe_law (limits_in _) _ h).trailing))

pub seconds_ok-requires : goal.seconds_ok-requires
seconds_ok-requires c =
    let m = ap (λ (l : Limits). l.seconds) (bounds_are _ c.args.t.now.opened_of.form_is c.bounds_of-most.ensures) in
    let w = (limits_within _ c.args.t.now.opened_of.sized.formed).seconds in
    record { seconds_le_seconds = omega (arith, m, w); denominator_bound = omega (arith, c.subframe_at-f.ensures.denominator_below) }

pub returns-then-not-seconds_ok : goal.returns-then-not-seconds_ok
unfolding subframe_at
returns-then-not-seconds_ok c =
    let e = c.subframe_at-f.ensures in
    let m = bounds_are _ c.args.t.now.opened_of.form_is c.bounds_of-most.ensures in
    let q = ap (λ (l : Limits). seconds_ok l c.subframe_at-f.result.numerator c.subframe_at-f.result.denominator) m ∙ ap₂ (seconds_ok (limits_in _)) e.numerator_is e.denominator_is in
    refuse _ (λ h. differ (sym q ∙ sym c.seconds_ok.ensures ∙ c.if-not-seconds_ok.true) (seconds_made (limits_in _) _ _ (subframe_law (limits_in _) _ h).seconds))

pub returns : goal.returns
unfolding subframe_at
returns c =
    let e = c.subframe_at-f.ensures in
    let m = bounds_are _ c.args.t.now.opened_of.form_is c.bounds_of-most.ensures in
    let q = ap (λ (l : Limits). seconds_ok l c.subframe_at-f.result.numerator c.subframe_at-f.result.denominator) m ∙ ap₂ (seconds_ok (limits_in _)) e.numerator_is e.denominator_is in
    sym
    (subframe_made (limits_in _) _
    (record {
      some_bits = omega (arith, e, c.if-f-lt1.false);
      few_bits = omega (arith, e, ap (λ (l : Limits). l.bits) m, c.if-most-f.false);
      some_words = omega (arith, e, c.if-f-lt1-2.false);
      few_words = omega (arith, e, ap (λ (l : Limits). l.words) m, c.if-most-f-2.false);
      leading =
          margin_law (limits_in _) _
          (sym (ap₂ margin_ok m (ap margin_as e.leading_is)) ∙ sym c.margin_ok.ensures ∙ c.if-not-margin_ok.false);
      trailing =
          margin_law (limits_in _) _
          (sym (ap₂ margin_ok m (ap margin_as e.trailing_is)) ∙ sym c.margin_ok-2.ensures ∙ c.if-not-margin_ok-2.false);
      seconds = seconds_law (limits_in _) _ _ (sym q ∙ sym c.seconds_ok.ensures ∙ c.if-not-seconds_ok.false);
    }))
