-- Each test is one of the component's, with the words and bits of its own subframe.
use mathlib.Core.Path.{sym}
use native.Mathlib.Omega.{arith}
use Rattle.lay.proofs.Tests.{refuse}
use Rattle.rules.proofs.Components.{declared_law, within_law, within_made}
use Rattle.rules.proofs.samples.component_ok.Goals as goal

pub returns-then-c-lt1 : goal.returns-then-c-lt1
returns-then-c-lt1 c = refuse _ (λ h. let r = declared_law c.args.t.now.opened_of.counts.subframes_is c.component_at-c.ensures h in omega (arith, r, c.if-c-lt1.true))

pub returns-then-t-c : goal.returns-then-t-c
returns-then-t-c c = refuse _ (λ h. let r = declared_law c.args.t.now.opened_of.counts.subframes_is c.component_at-c.ensures h in omega (arith, r, c.if-t-c.true))

pub returns-then-c-lt1-2 : goal.returns-then-c-lt1-2
returns-then-c-lt1-2 c =
    refuse _ (λ h. let r = within_law c.args.t.now.opened_of.counts.subframes_is c.component_at-c.ensures (record { some = c.if-c-lt1.false; few = c.if-t-c.false }) c.subframe_at-f.ensures h in omega (arith, r, c.if-c-lt1-2.true))

pub returns-then-f-c : goal.returns-then-f-c
returns-then-f-c c =
    refuse _ (λ h. let r = within_law c.args.t.now.opened_of.counts.subframes_is c.component_at-c.ensures (record { some = c.if-c-lt1.false; few = c.if-t-c.false }) c.subframe_at-f.ensures h in omega (arith, r, c.if-f-c.true))

pub returns-then-c-lt1-3 : goal.returns-then-c-lt1-3
returns-then-c-lt1-3 c =
    refuse _ (λ h. let r = within_law c.args.t.now.opened_of.counts.subframes_is c.component_at-c.ensures (record { some = c.if-c-lt1.false; few = c.if-t-c.false }) c.subframe_at-f.ensures h in omega (arith, r, c.if-c-lt1-3.true))

pub returns-then-c : goal.returns-then-c
returns-then-c c =
    refuse _ (λ h. let r = within_law c.args.t.now.opened_of.counts.subframes_is c.component_at-c.ensures (record { some = c.if-c-lt1.false; few = c.if-t-c.false }) c.subframe_at-f.ensures h in omega (arith, r, c.if-c.true))

pub returns-then-f-c-2 : goal.returns-then-f-c-2
returns-then-f-c-2 c =
    refuse _ (λ h. let r = within_law c.args.t.now.opened_of.counts.subframes_is c.component_at-c.ensures (record { some = c.if-c-lt1.false; few = c.if-t-c.false }) c.subframe_at-f.ensures h in omega (arith, r, c.if-f-c-2.true))

pub overflow_add-c : goal.overflow_add-c
overflow_add-c c = omega (arith, c.component_at-c.ensures.low_below, c.component_at-c.ensures.overlap_below)

pub returns-then-c-2 : goal.returns-then-c-2
returns-then-c-2 c =
    refuse _ (λ h. let r = within_law c.args.t.now.opened_of.counts.subframes_is c.component_at-c.ensures (record { some = c.if-c-lt1.false; few = c.if-t-c.false }) c.subframe_at-f.ensures h in omega (arith, r, c.if-c-2.true))

pub returns : goal.returns
returns c =
    sym
    (within_made c.args.t.now.opened_of.counts.subframes_is c.component_at-c.ensures (record { some = c.if-c-lt1.false; few = c.if-t-c.false }) c.subframe_at-f.ensures
    (record {
      some_word = c.if-c-lt1-2.false;
      word = c.if-f-c.false;
      some_bit = c.if-c-lt1-3.false;
      rising = c.if-c.false;
      in_word = c.if-f-c-2.false;
      lapped = omega (arith, c.if-c-2.false);
    }))
