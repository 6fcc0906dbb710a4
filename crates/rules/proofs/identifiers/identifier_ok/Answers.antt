-- The four tests are those of an identifier; the width is that of the first sample, at most 32.
use mathlib.Core.Path.{◌≡◌, sym, ap, ◌∙◌}
use Prim.Native.Nat.{ℕ, ◌^◌, ◌<◌}
use native.Mathlib.Omega.{arith}
use borrow.Author.Tests.{eq-eqb, lt-ltb}
use lib.ListN.{length}
use Rattle.lay.proofs.Tests.{rule, none, both, refuse, differ, holds_not}
use Rattle.model.specs.Content.{sample}
use Rattle.model.specs.Samples.{width_of}
use Rattle.model.specs.Identifiers.{identifier_ok}
use Rattle.model.specs.View.{parameter_at}
use Rattle.model.proofs.Meanings.{identifier_law}
use Rattle.model.proofs.Views.{samples_at}
use Rattle.stored.proofs.Flagged.{signed_flag}
use Rattle.rules.specs.Ruled.{subframes_of, in_one_subframe}
use Rattle.rules.proofs.Identifying.{first, first_width, signed_at, value_at}
use Rattle.rules.proofs.identifiers.identifier_ok.Goals as goal

pub returns-then-e-ne1 : goal.returns-then-e-ne1
returns-then-e-ne1 c =
    let n = samples_at c.args.r.now.declared.table.bytes.now c.args.i in
    refuse _ (λ h. let r = (identifier_law _ _ h).one in omega arith)

pub returns-then-not-in_one_subframe : goal.returns-then-not-in_one_subframe
unfolding identifier_ok in_one_subframe
returns-then-not-in_one_subframe c = refuse _ (λ h. differ (sym c.in_one_subframe.ensures ∙ c.if-not-in_one_subframe.true) (rule _ h 1))

pub returns-then-has_signed : goal.returns-then-has_signed
returns-then-has_signed c =
    let e = c.parameter_at-e.ensures.flags_is in
    let x = signed_at c.args.r.now.declared.table.bytes.now c.args.i ∙ sym (signed_flag _ _ e c.has_signed.ensures) ∙ c.if-has_signed.true in
    refuse _ (λ h. differ (identifier_law _ _ h).unsigned x)

pub width_at-width-requires : goal.width_at-width-requires
width_at-width-requires c =
    let r = c.requires in
    let f = first _ _ c.args.r.now.ruled c.requires.i_bound in
    let e = c.parameter_at-e.ensures.first_is in
    record { sample_here = rw e f.here; pieces_here = rw e f.pieces }

pub power_of_two-requires : goal.power_of_two-requires
power_of_two-requires c =
    let r = c.requires in
    let f = first _ _ c.args.r.now.ruled c.requires.i_bound in
    let w = c.width_at-width.ensures.0 ∙ first_width _ _ f _ c.parameter_at-e.ensures in
    omega arith

pub returns-then-power_of_two-e : goal.returns-then-power_of_two-e
returns-then-power_of_two-e c =
    let f = first _ _ c.args.r.now.ruled c.requires.i_bound in
    let w = c.width_at-width.ensures.0 ∙ first_width _ _ f _ c.parameter_at-e.ensures in
    let p = c.power_of_two.ensures ∙ ap (λ (n : ℕ). 2 ^ n) w in
    let v = value_at c.args.r.now.declared.table.bytes.now c.args.i in
    refuse _ (λ h. let x = (identifier_law _ _ h).fits in omega arith)

pub returns : goal.returns
unfolding identifier_ok in_one_subframe
returns c =
    let b = c.args.r.now.declared.table.bytes.now in
    let i = c.args.i in
    let f = first b i c.args.r.now.ruled c.requires.i_bound in
    let e = c.parameter_at-e.ensures in
    let w = c.width_at-width.ensures.0 ∙ first_width b i f _ e in
    let p = c.power_of_two.ensures ∙ ap (λ (n : ℕ). 2 ^ n) w in
    let v = value_at b i in
    let n = samples_at b i in
    let one : length (parameter_at b i).samples ≡ 1 = omega arith in
    let unsigned = signed_at b i ∙ sym (signed_flag b i e.flags_is c.has_signed.ensures) ∙ c.if-has_signed.false in
    let fits : (parameter_at b i).value < 2 ^ width_of (subframes_of b) (sample (parameter_at b i) 0) = omega arith in
    sym
    (both _ (eq-eqb _ _ one)
    (both _ (sym c.in_one_subframe.ensures ∙ c.if-not-in_one_subframe.false)
    (both _ (holds_not _ unsigned) (both _ (lt-ltb _ _ fits) none))))
