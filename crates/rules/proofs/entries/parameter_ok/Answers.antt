-- Each test is one of the parameter's.
use mathlib.Core.Path.{sym, ap, ap₂, ◌∙◌}
use mathlib.Core.Bool.{◌||◌}
use Prim.Native.Nat.{ℕ, ◌/◌}
use native.Mathlib.Omega.{arith}
use borrow.Author.Tests.{eq-eqb}
use lib.Dec.{eqb}
use Rattle.lay.proofs.Tests.{refuse, differ, and_0, and_1, and_both}
use Rattle.model.specs.Limits.{Limits}
use Rattle.model.specs.Forms.{limits_in}
use Rattle.stored.proofs.Reading.{known_here, bounds_are}
use Rattle.model.specs.Stored.{value_in}
use Rattle.model.specs.View.{identifier_in, parameter_at}
use Rattle.model.proofs.Meanings.{or_made, parameter_law}
use Rattle.model.proofs.Views.{samples_at}
use Rattle.rules.specs.Ruled.{subframes_of, samples_ok, alike}
use Rattle.rules.proofs.Parameters.{texts_of, samples_of_lem, alike_of, parameter_of}
use Rattle.rules.proofs.entries.parameter_ok.Goals as goal

pub returns-then-not-texts_ok : goal.returns-then-not-texts_ok
returns-then-not-texts_ok c =
    let b = c.args.d.now.table.bytes.now in
    let i = c.args.i in
    refuse _ (λ h. differ (sym c.texts_ok.ensures ∙ c.if-not-texts_ok.true) (texts_of b i (parameter_law (limits_in b) (subframes_of b) (parameter_at b i) h)))

pub bounds_of-most-requires : goal.bounds_of-most-requires
bounds_of-most-requires c = known_here c.args.d.now.table.opened_of.sized.formed c.args.d.now.table.opened_of.form_is

pub returns-then-not-value_ok : goal.returns-then-not-value_ok
unfolding parameter_at
returns-then-not-value_ok c =
    let b = c.args.d.now.table.bytes.now in
    let i = c.args.i in
    let e = c.parameter_at-e.ensures in
    let q = ap₂ (λ (f v : ℕ). eqb (f / 2) 1 || eqb v 0) e.flags_is e.value_is in
    refuse _
    (λ h.
    differ (sym q ∙ sym c.value_ok.ensures ∙ c.if-not-value_ok.true)
    (or_made (identifier_in b i) (eqb (value_in b i) 0) (λ z. eq-eqb _ _ ((parameter_law (limits_in b) (subframes_of b) (parameter_at b i) h).plain z))))

pub returns-then-most-e : goal.returns-then-most-e
unfolding parameter_at
returns-then-most-e c =
    let b = c.args.d.now.table.bytes.now in
    let i = c.args.i in
    refuse _ (λ h. let r = (parameter_law (limits_in b) (subframes_of b) (parameter_at b i) h).value in omega (arith, r, c.parameter_at-e.ensures.value_is, ap (λ (l : Limits). l.value) (bounds_are _ c.args.d.now.table.opened_of.form_is c.bounds_of-most.ensures), c.if-most-e.true))

pub returns-then-e-lt1 : goal.returns-then-e-lt1
returns-then-e-lt1 c =
    let b = c.args.d.now.table.bytes.now in
    let i = c.args.i in
    let n = samples_at b i in
    refuse _ (λ h. let r = (parameter_law (limits_in b) (subframes_of b) (parameter_at b i) h).some in omega (arith, r, c.parameter_at-e.ensures.count_is, n, c.if-e-lt1.true))

pub returns-then-most-e-2 : goal.returns-then-most-e-2
returns-then-most-e-2 c =
    let b = c.args.d.now.table.bytes.now in
    let i = c.args.i in
    let n = samples_at b i in
    refuse _ (λ h. let r = (parameter_law (limits_in b) (subframes_of b) (parameter_at b i) h).few in omega (arith, r, c.parameter_at-e.ensures.count_is, n, ap (λ (l : Limits). l.samples_each) (bounds_are _ c.args.d.now.table.opened_of.form_is c.bounds_of-most.ensures), c.if-most-e-2.true))

pub samples_ok-requires : goal.samples_ok-requires
samples_ok-requires c = record { rows = c.requires.rows; parameter_here = c.requires.parameter_here }

pub returns-then-not-samples_ok : goal.returns-then-not-samples_ok
returns-then-not-samples_ok c =
    let b = c.args.d.now.table.bytes.now in
    let i = c.args.i in
    refuse _
    (λ h.
    let r = parameter_law (limits_in b) (subframes_of b) (parameter_at b i) h in
    differ (sym c.samples_ok.ensures ∙ c.if-not-samples_ok.true) (and_both (samples_of_lem b i r) (alike_of b i r)))

pub returns : goal.returns
returns c =
    let b = c.args.d.now.table.bytes.now in
    let i = c.args.i in
    let e = c.parameter_at-e.ensures in
    let q = ap₂ (λ (f v : ℕ). eqb (f / 2) 1 || eqb v 0) e.flags_is e.value_is in
    let s = sym c.samples_ok.ensures ∙ c.if-not-samples_ok.false in
    sym
    (parameter_of b i
    (record {
      texts = sym c.texts_ok.ensures ∙ c.if-not-texts_ok.false;
      plain = sym q ∙ sym c.value_ok.ensures ∙ c.if-not-value_ok.false;
      value = omega (arith, e.value_is, ap (λ (l : Limits). l.value) (bounds_are _ c.args.d.now.table.opened_of.form_is c.bounds_of-most.ensures), c.if-most-e.false);
      some = omega (arith, e.count_is, c.if-e-lt1.false);
      few = omega (arith, e.count_is, ap (λ (l : Limits). l.samples_each) (bounds_are _ c.args.d.now.table.opened_of.form_is c.bounds_of-most.ensures), c.if-most-e-2.false);
      samples = and_0 (samples_ok b i) (alike b i) s;
      widths = and_1 (samples_ok b i) (alike b i) s;
    }))
