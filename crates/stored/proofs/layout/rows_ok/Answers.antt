use mathlib.Core.Path.{◌≡◌, refl, sym, ap}
use Prim.Native.Nat.{ℕ, ◌<◌}
use native.Mathlib.Omega.{arith}
use borrow.Author.Tests.{eq-eqb, eqb-true}
use Rattle.lay.specs.Below.{sum}
use Rattle.lay.proofs.Tests.{refuse}
use Rattle.lay.proofs.Below.{all_more, all_below, sum_more}
use Rattle.model.specs.Stored.{samples_in, first_component_in, component_count_in}
use Rattle.model.proofs.Laying.{rows, rows_made}
use Rattle.stored.proofs.layout.rows_ok.Invariants.{in_row}
use Rattle.stored.proofs.layout.rows_ok.Goals as goal

pub loop-j-init : goal.loop-j-init
loop-j-init c = record { counted = c.args.t.now.opened_of.counts.samples_is; within = omega arith; firsts = refl; few = omega arith; done = refl }

pub returns-then-s-first : goal.returns-then-s-first
returns-then-s-first c =
    let b = c.args.t.now.bytes.now in
    let l : c.loop-j.j < samples_in b = omega (arith, c.loop-j.invariant, c.loop-j-test.true) in
    let v = c.loop-j.invariant in
    let e = c.sample_at-s.ensures in
    refuse _ (λ h. let x = (rows b h).each c.loop-j.j l in omega (arith, v, e, x, c.if-s-first.true))

pub overflow_add-first : goal.overflow_add-first
overflow_add-first c = omega (arith, c.loop-j.invariant, c.sample_at-s.ensures, c.loop-j-test.true, c.args.t.now.opened_of.sized)

pub loop-j-preserved : goal.loop-j-preserved
loop-j-preserved c =
    let b = c.args.t.now.bytes.now in
    let l : c.loop-j.j < samples_in b = omega (arith, c.loop-j.invariant, c.loop-j-test.true) in
    let v = c.loop-j.invariant in
    let e = c.sample_at-s.ensures in
    let j = c.loop-j.j in
    let m = sum_more j (component_count_in b) in
    record {
      counted = v.counted;
      within = omega (arith, v, l);
      firsts = omega (arith, v, e, m);
      few = omega (arith, v, e);
      done = all_more j (in_row b) v.done (let f : first_component_in b j ≡ sum j (component_count_in b) = omega (arith, v, e, c.if-s-first.false) in eq-eqb _ _ f);
    }

pub returns-then-t-first : goal.returns-then-t-first
returns-then-t-first c =
    let b = c.args.t.now.bytes.now in
    let v = c.loop-j.invariant in
    let full : c.loop-j.j ≡ samples_in b = omega (arith, v, c.loop-j-test.false) in
    let m = ap (λ (k : ℕ). sum k (component_count_in b)) full in
    refuse _ (λ h. let x = (rows b h).components in omega (arith, v, m, x, c.args.t.now.opened_of.counts, c.if-t-first.true))

pub returns : goal.returns
returns c =
    let b = c.args.t.now.bytes.now in
    let v = c.loop-j.invariant in
    let full : c.loop-j.j ≡ samples_in b = omega (arith, v, c.loop-j-test.false) in
    let m = ap (λ (k : ℕ). sum k (component_count_in b)) full in
    sym
    (rows_made b
    (record {
      each = λ j l. eqb-true _ _ (all_below (samples_in b) (in_row b) (rw full at v.done) j l);
      components = omega (arith, v, m, c.args.t.now.opened_of.counts, c.if-t-first.false);
    }))
