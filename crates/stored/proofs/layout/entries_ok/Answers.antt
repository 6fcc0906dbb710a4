use mathlib.Core.Path.{◌≡◌, refl, sym, ap}
use Prim.Native.Nat.{ℕ, ◌<◌}
use native.Mathlib.Omega.{arith}
use Rattle.lay.specs.Below.{sum}
use Rattle.lay.proofs.Tests.{refuse}
use Rattle.lay.proofs.Below.{all_more, all_below, sum_more}
use Rattle.model.specs.Stored.{parameters_in, sample_count_in, text_length_in}
use Rattle.model.specs.Accepts.{entry_ok}
use Rattle.model.proofs.Laying.{entry, entry_made, entries, entries_made}
use Rattle.stored.proofs.layout.entries_ok.Goals as goal

pub loop-i-init : goal.loop-i-init
loop-i-init c = record { counted = c.args.t.now.opened_of.counts.parameters_is; within = omega arith; firsts = refl; starts = refl; few = omega arith; short = omega arith; done = refl }

pub returns-then-e-gt3 : goal.returns-then-e-gt3
returns-then-e-gt3 c =
    let b = c.args.t.now.bytes.now in
    let l : c.loop-i.i < parameters_in b = omega (arith, c.loop-i.invariant, c.loop-i-test.true) in
    let v = c.loop-i.invariant in
    let e = c.parameter_at-e.ensures in
    refuse _ (λ h. let x = (entries b h).each c.loop-i.i l in omega (arith, v, e, x, c.if-e-gt3.true))

pub returns-then-e-first : goal.returns-then-e-first
returns-then-e-first c =
    let b = c.args.t.now.bytes.now in
    let l : c.loop-i.i < parameters_in b = omega (arith, c.loop-i.invariant, c.loop-i-test.true) in
    let v = c.loop-i.invariant in
    let e = c.parameter_at-e.ensures in
    refuse _ (λ h. let x = (entries b h).each c.loop-i.i l in omega (arith, v, e, x, c.if-e-first.true))

pub returns-then-e-start : goal.returns-then-e-start
returns-then-e-start c =
    let b = c.args.t.now.bytes.now in
    let l : c.loop-i.i < parameters_in b = omega (arith, c.loop-i.invariant, c.loop-i-test.true) in
    let v = c.loop-i.invariant in
    let e = c.parameter_at-e.ensures in
    refuse _ (λ h. let x = (entries b h).each c.loop-i.i l in omega (arith, v, e, x, c.if-e-start.true))

pub overflow_add-first : goal.overflow_add-first
overflow_add-first c = omega (arith, c.loop-i.invariant, c.parameter_at-e.ensures, c.loop-i-test.true, c.args.t.now.opened_of.sized)

pub overflow_add-start : goal.overflow_add-start
overflow_add-start c = omega (arith, c.loop-i.invariant, c.parameter_at-e.ensures, c.loop-i-test.true, c.args.t.now.opened_of.sized)

pub overflow_add-start-in-loop-i : goal.overflow_add-start-in-loop-i
overflow_add-start-in-loop-i c = omega (arith, c.loop-i.invariant, c.parameter_at-e.ensures, c.loop-i-test.true, c.args.t.now.opened_of.sized)

pub overflow_add-start-in-loop-i-2 : goal.overflow_add-start-in-loop-i-2
overflow_add-start-in-loop-i-2 c = omega (arith, c.loop-i.invariant, c.parameter_at-e.ensures, c.loop-i-test.true, c.args.t.now.opened_of.sized)

pub loop-i-preserved : goal.loop-i-preserved
loop-i-preserved c =
    let b = c.args.t.now.bytes.now in
    let l : c.loop-i.i < parameters_in b = omega (arith, c.loop-i.invariant, c.loop-i-test.true) in
    let v = c.loop-i.invariant in
    let e = c.parameter_at-e.ensures in
    let i = c.loop-i.i in
    let m = sum_more i (sample_count_in b) in
    let k = sum_more i (text_length_in b) in
    record {
      counted = v.counted;
      within = omega (arith, v, l);
      firsts = omega (arith, v, e, m);
      starts = omega (arith, v, e, k);
      few = omega (arith, v, e);
      short = omega (arith, v, e);
      done =
          all_more i (entry_ok b) v.done
          (entry_made b i
          (record {
            flags = omega (arith, e, c.if-e-gt3.false);
            first = omega (arith, v, e, c.if-e-first.false);
            start = omega (arith, v, e, c.if-e-start.false);
          }));
    }

pub returns-then-t-first : goal.returns-then-t-first
returns-then-t-first c =
    let b = c.args.t.now.bytes.now in
    let v = c.loop-i.invariant in
    let full : c.loop-i.i ≡ parameters_in b = omega (arith, v, c.loop-i-test.false) in
    let m = ap (λ (k : ℕ). sum k (sample_count_in b)) full in
    let k = ap (λ (k : ℕ). sum k (text_length_in b)) full in
    refuse _ (λ h. let x = (entries b h).samples in omega (arith, v, m, x, c.args.t.now.opened_of.counts, c.if-t-first.true))

pub overflow_add-t : goal.overflow_add-t
overflow_add-t c = omega (arith, c.loop-i.invariant, c.args.t.now.opened_of.starts, c.args.t.now.opened_of.sized)

pub returns-then-t-start : goal.returns-then-t-start
returns-then-t-start c =
    let b = c.args.t.now.bytes.now in
    let v = c.loop-i.invariant in
    let full : c.loop-i.i ≡ parameters_in b = omega (arith, v, c.loop-i-test.false) in
    let m = ap (λ (k : ℕ). sum k (sample_count_in b)) full in
    let k = ap (λ (k : ℕ). sum k (text_length_in b)) full in
    refuse _ (λ h. let x = (entries b h).long in omega (arith, v, k, x, c.if-t-start.true, c.args.t.now.opened_of.starts.text_is))

pub returns : goal.returns
returns c =
    let b = c.args.t.now.bytes.now in
    let v = c.loop-i.invariant in
    let full : c.loop-i.i ≡ parameters_in b = omega (arith, v, c.loop-i-test.false) in
    let m = ap (λ (k : ℕ). sum k (sample_count_in b)) full in
    let k = ap (λ (k : ℕ). sum k (text_length_in b)) full in
    sym
    (entries_made b
    (record {
      each = λ i l. entry b i (all_below (parameters_in b) (entry_ok b) (rw full at v.done) i l);
      samples = omega (arith, v, m, c.args.t.now.opened_of.counts, c.if-t-first.false);
      long = omega (arith, v, k, c.args.t.now.opened_of.starts.text_is, c.if-t-start.false);
    }))
