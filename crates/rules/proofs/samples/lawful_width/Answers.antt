-- Each test is one of the sample's.
use mathlib.Core.Path.{sym, ap, ◌∙◌}
use Rattle.std.specs.Prelude.{Some}
use Prim.Native.Nat.{◌≤◌}
use native.Mathlib.Omega.{arith}
use lib.ListN.{length}
use Rattle.lay.proofs.Tests.{differ}
use Rattle.model.specs.Limits.{Limits}
use Rattle.model.specs.View.{sample_at}
use Rattle.model.proofs.Laying.{limits_within}
use Rattle.model.proofs.Pieces.{width_some}
use Rattle.model.proofs.Views.{components_at}
use Rattle.stored.proofs.Reading.{known_here, bounds_are}
use Rattle.rules.specs.Ruled.{subframes_of}
use Rattle.rules.proofs.Samplings.{viewed, tested, overlaps_said}
use Rattle.rules.proofs.Widths.{measured, unlawful, lawful_is, some_width}
use Rattle.rules.proofs.samples.lawful_width.Goals as goal

pub bounds_of-most-requires : goal.bounds_of-most-requires
bounds_of-most-requires c = known_here c.args.d.now.table.opened_of.sized.formed c.args.d.now.table.opened_of.form_is

pub sample_at-s-requires : goal.sample_at-s-requires
sample_at-s-requires c = record { j_bound = c.requires.sample_here.here }

pub returns-then-most-s : goal.returns-then-most-s
unfolding sample_at
returns-then-most-s c = unlawful _ _ (λ r. omega (arith, r.time, c.sample_at-s.ensures.time_is, ap (λ (l : Limits). l.time) (bounds_are _ c.args.d.now.table.opened_of.form_is c.bounds_of-most.ensures), c.if-most-s.true))

pub returns-then-s-lt1 : goal.returns-then-s-lt1
returns-then-s-lt1 c = unlawful _ _ (λ r. omega (arith, r.some, c.sample_at-s.ensures.count_is, components_at c.args.d.now.table.bytes.now c.args.j, c.if-s-lt1.true))

pub returns-then-most-s-2 : goal.returns-then-most-s-2
returns-then-most-s-2 c = unlawful _ _ (λ r. omega (arith, r.few, c.sample_at-s.ensures.count_is, components_at c.args.d.now.table.bytes.now c.args.j, ap (λ (l : Limits). l.components_each) (bounds_are _ c.args.d.now.table.opened_of.form_is c.bounds_of-most.ensures), c.if-most-s-2.true))

pub components_width-requires : goal.components_width-requires
components_width-requires c =
    let w = (limits_within _ c.args.d.now.table.opened_of.sized.formed).components_each in
    record { sample_here = c.requires.sample_here; j_bound = omega (arith, w, c.sample_at-s.ensures.count_is, ap (λ (l : Limits). l.components_each) (bounds_are _ c.args.d.now.table.opened_of.form_is c.bounds_of-most.ensures), c.if-most-s-2.false) }

pub returns-in_err-width : goal.returns-in_err-width
returns-in_err-width c = rw c.from_residual.ensures (unlawful _ _ (λ r. some_width _ _ c.args.d.now.subframes_law.within r (sym c.in_err-width.ensures)))

pub returns-then-most-width : goal.returns-then-most-width
returns-then-most-width c =
    let m = measured _ _ _ (sym c.in_ok-width.ensures) in
    unlawful _ _ (λ r. omega (arith, r.narrow, m.1, ap (λ (l : Limits). l.width) (bounds_are _ c.args.d.now.table.opened_of.form_is c.bounds_of-most.ensures), c.if-most-width.true))

pub named_twice-requires : goal.named_twice-requires
named_twice-requires c =
    let w = (limits_within _ c.args.d.now.table.opened_of.sized.formed).components_each in
    let m = measured _ _ _ (sym c.in_ok-width.ensures) in
    record { sample_here = c.requires.sample_here; pieces_here = tested _ _ m.0 (omega (arith, w, c.sample_at-s.ensures.count_is, ap (λ (l : Limits). l.components_each) (bounds_are _ c.args.d.now.table.opened_of.form_is c.bounds_of-most.ensures), c.if-most-s-2.false)) }

pub returns-then-named_twice : goal.returns-then-named_twice
returns-then-named_twice c = unlawful _ _ (λ r. differ r.once (sym c.named_twice.ensures ∙ c.if-named_twice.true))

pub returns : goal.returns
unfolding sample_at
returns c =
    let b = c.args.d.now.table.bytes.now in
    let j = c.args.j in
    let w = (limits_within _ c.args.d.now.table.opened_of.sized.formed).components_each in
    let m = measured _ _ _ (sym c.in_ok-width.ensures) in
    let most = bounds_are _ c.args.d.now.table.opened_of.form_is c.bounds_of-most.ensures in
    let s = c.sample_at-s.ensures in
    let h = tested _ _ m.0 (omega (arith, w, s.count_is, ap (λ (l : Limits). l.components_each) most, c.if-most-s-2.false)) in
    let some : 1 ≤ length (sample_at b j).components = omega (arith, s.count_is, components_at b j, c.if-s-lt1.false) in
    ap Some m.1
    ∙ lawful_is b j
    (record {
      time = omega (arith, s.time_is, ap (λ (l : Limits). l.time) most, c.if-most-s.false);
      some = some;
      few = omega (arith, s.count_is, components_at b j, ap (λ (l : Limits). l.components_each) most, c.if-most-s-2.false);
      each = viewed b j h;
      overlaps = overlaps_said b j m.0;
      wide = width_some (subframes_of b) (sample_at b j) (viewed b j h) some;
      narrow = omega (arith, m.1, ap (λ (l : Limits). l.width) most, c.if-most-width.false);
      once = sym c.named_twice.ensures ∙ c.if-named_twice.false;
    })
