use mathlib.Core.Path.{◌≡◌, refl, sym, ap, subst, ◌∙◌}
use mathlib.Core.Bool.{Bool, true, false, not}
use mathlib.Core.List.{List}
use Rattle.std.specs.Prelude.{Some}
use Prim.Native.Nat.{ℕ, ◌+◌, ◌-◌, ◌≤◌, ◌<◌}
use native.Mathlib.Omega.{arith}
use borrow.Author.Tests.{not-false}
use Rattle.lay.proofs.Tests.{differ}
use Rattle.lay.proofs.Below.{all_more, all_below}
use Rattle.sample.specs.Joining.{width}
use Rattle.model.specs.Forms.{sheet_limits}
use Rattle.model.specs.Samples.{width_of}
use Rattle.model.specs.Rules.{component_ok}
use Rattle.model.specs.Stored.{first_component_in, component_count_in, low_in, high_in, overlap_in}
use Rattle.model.specs.View.{component_at, sample_at}
use Rattle.model.proofs.Meanings.{component_law}
use Rattle.stored.specs.Entry.{ComponentOf}
use Rattle.stored.specs.declared.items.ComponentEntry.{ComponentEntry}
use Rattle.rules.specs.Ruled.{subframes_of, SubframesLaw, in_order, components_ok}
use Rattle.rules.proofs.Samplings.{left, lies_there}
use Rattle.rules.proofs.Widths.{high_small, low_some, overlap_fewer, left_width, left_over, components_none, components_all_lem}
use Rattle.rules.proofs.samples.components_width.Invariants.{Passed}
use mathlib.Core.Bool.{not}
use Rattle.rules.proofs.samples.components_width.Goals as goal

-- what the component at hand adds
record Adds (b : List ℕ) (j k width' : ℕ) (e : ComponentEntry) : Type 0 where
  rising : e.low ≤ e.high
  some : 1 ≤ e.low
  small : e.high ≤ sheet_limits.bits
  lapped : e.overlap < e.high + 1 - e.low
  left_is : width (left b j k) ≡ e.high + 1 - e.low - e.overlap + width (left b j (k + 1))

adds : {b : List ℕ} {j first count width' k : ℕ} {t : Bool} {e : ComponentEntry} → SubframesLaw b → Passed b j first count width' k → k < count → t ≡ in_order b j k → not t ≡ false → ComponentOf b (first + k) e → Adds b j k width' e
adds {b} {j} {first} {count} {width'} {k} {t} {e} f v l q n r =
    let here = lies_there b j k (sym q ∙ not-false t n) in
    let law = component_law (subframes_of b) (component_at b (first + k)) (subst (λ (f : ℕ). component_ok (subframes_of b) (component_at b (f + k)) ≡ true) (sym v.firsts) here) in
    let s = low_some b f (first + k) law in
    let h = high_small b f (first + k) law in
    let w = left_width b j k (omega (arith, v.counted, l)) in
    let g = overlap_fewer b f (first + k) law in
    let hi : e.high ≡ high_in b (first_component_in b j + k) = r.high_is ∙ ap (λ (f : ℕ). high_in b (f + k)) v.firsts in
    let lo : e.low ≡ low_in b (first_component_in b j + k) = r.low_is ∙ ap (λ (f : ℕ). low_in b (f + k)) v.firsts in
    let ov : e.overlap ≡ overlap_in b (first_component_in b j + k) = r.overlap_is ∙ ap (λ (f : ℕ). overlap_in b (f + k)) v.firsts in
    let rises : e.low ≤ e.high = omega (arith, s.1, r.low_is, r.high_is) in
    let fewer : e.overlap < e.high + 1 - e.low = omega (arith, g, r.low_is, r.high_is, r.overlap_is) in
    record {
      rising = rises;
      some = omega (arith, s.0, r.low_is);
      small = omega (arith, h, r.high_is);
      lapped = fewer;
      left_is = omega (arith, w, hi, lo, ov, rises, fewer);
    }

pub sample_at-s-requires : goal.sample_at-s-requires
sample_at-s-requires c = record { j_bound = c.requires.sample_here.here }

pub loop-k-init : goal.loop-k-init
unfolding width_of
loop-k-init c =
    let e = c.sample_at-s.ensures in
    record {
      firsts = e.first_is;
      counted = e.count_is;
      few = omega (arith, e.count_is, c.requires.j_bound);
      within = omega arith;
      low = omega arith;
      done = refl;
      sums = omega arith;
    }

pub in_order-requires : goal.in_order-requires
in_order-requires c =
    let p = c.requires in
    record { sample_here = p.sample_here; k_bound = omega (arith, c.loop-k.invariant.counted, c.loop-k-test.true) }

pub returns-then-not-in_order : goal.returns-then-not-in_order
unfolding components_ok
returns-then-not-in_order c =
    let b = c.args.d.now.table.bytes.now in
    let j = c.args.j in
    let v = c.loop-k.invariant in
    components_none b j
    (λ h. differ (sym c.in_order.ensures ∙ c.if-not-in_order.true) (all_below (component_count_in b j) (in_order b j) h c.loop-k.k (omega (arith, v.counted, c.loop-k-test.true))))

pub overflow_add-first : goal.overflow_add-first
overflow_add-first c = omega (arith, c.loop-k.invariant.few, c.loop-k-test.true, c.sample_at-s.ensures.first_below)

pub component_at-c-requires : goal.component_at-c-requires
component_at-c-requires c =
    let v = c.loop-k.invariant in
    record { k_bound = omega (arith, v.firsts, v.counted, c.loop-k-test.true, c.requires.sample_here.components) }

pub overflow_add-width : goal.overflow_add-width
overflow_add-width c = omega (arith, c.component_at-c.ensures.high_below)

pub overflow_sub-width : goal.overflow_sub-width
overflow_sub-width c =
    let a = adds c.args.d.now.subframes_law c.loop-k.invariant c.loop-k-test.true c.in_order.ensures (ap not c.if-not-in_order.false) c.component_at-c.ensures in
    omega (arith, a.rising)

pub overflow_sub-width-in-loop-k : goal.overflow_sub-width-in-loop-k
overflow_sub-width-in-loop-k c =
    let a = adds c.args.d.now.subframes_law c.loop-k.invariant c.loop-k-test.true c.in_order.ensures (ap not c.if-not-in_order.false) c.component_at-c.ensures in
    omega (arith, a.lapped)

pub overflow_add-width-in-loop-k : goal.overflow_add-width-in-loop-k
overflow_add-width-in-loop-k c =
    let v = c.loop-k.invariant in
    let a = adds c.args.d.now.subframes_law v c.loop-k-test.true c.in_order.ensures (ap not c.if-not-in_order.false) c.component_at-c.ensures in
    omega (arith, v.low, v.few, v.within, a.small, a.rising, a.lapped)

pub loop-k-preserved : goal.loop-k-preserved
loop-k-preserved c =
    let b = c.args.d.now.table.bytes.now in
    let j = c.args.j in
    let v = c.loop-k.invariant in
    let l = c.loop-k-test.true in
    let a = adds c.args.d.now.subframes_law v l c.in_order.ensures (ap not c.if-not-in_order.false) c.component_at-c.ensures in
    record {
      firsts = v.firsts;
      counted = v.counted;
      few = v.few;
      within = omega (arith, l);
      low = omega (arith, v.low, a.small, a.rising, a.some, a.lapped);
      done = all_more c.loop-k.k (in_order b j) v.done (sym c.in_order.ensures ∙ c.if-not-in_order.false);
      sums = omega (arith, v.sums, a.left_is, a.rising, a.lapped);
    }

pub returns : goal.returns
unfolding components_ok
returns c =
    let b = c.args.d.now.table.bytes.now in
    let j = c.args.j in
    let v = c.loop-k.invariant in
    let full : c.loop-k.k ≡ component_count_in b j = omega (arith, v.counted, v.within, c.loop-k-test.false) in
    let z = left_over b j c.loop-k.k (omega (arith, full)) in
    let e : c.loop-k.width ≡ width_of (subframes_of b) (sample_at b j) = omega (arith, v.sums, z) in
    ap Some e ∙ sym (components_all_lem b j (rw full at v.done))
