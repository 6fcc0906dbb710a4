use mathlib.Core.Path.{◌≡◌, ap, ap₂, ◌∙◌, subst}
use mathlib.Core.List.{List, [], ◌∷◌}
use Prim.Native.Nat.{ℕ, ◌+◌, ◌-◌, ◌≤◌, ◌<◌}
use native.Mathlib.Omega.{arith}
use Rattle.sample.specs.declared.component.Component.{Component as Piece}
use Rattle.sample.proofs.Walks.{Measuring, measuring_starts, measuring_ends, measuring_shaped, measuring_step}
use Rattle.model.specs.Samples.{piece, pieces, width_of}
use Rattle.model.specs.Stored.{low_in, high_in, overlap_in}
use Rattle.model.specs.View.{component_at, sample_at}
use Rattle.stored.specs.declared.items.ComponentEntry.{ComponentEntry}
use Rattle.stored.specs.Entry.{ComponentOf}
use Rattle.rules.specs.Ruled.{subframes_of}
use Rattle.rules.proofs.Samplings.{stands, left, left_next, left_none, shaped}
use Rattle.rules.proofs.samples.width_at.Invariants.{Passed}
use Rattle.rules.proofs.samples.width_at.Goals as goal

module _ {b : List ℕ} {j first count width k : ℕ} (v : Passed b j first count width k) where
  -- what is left begins with the component that is read
  next : k < count → Measuring (pieces (subframes_of b) (sample_at b j)) (stands b j k ∷ left b j (k + 1)) width
  next l =
      subst (λ (r : List Piece). Measuring (pieces (subframes_of b) (sample_at b j)) r width)
      (left_next b j k (omega (arith, v))) v.done

  ended : count ≤ k → Measuring (pieces (subframes_of b) (sample_at b j)) [] width
  ended l =
      subst (λ (r : List Piece). Measuring (pieces (subframes_of b) (sample_at b j)) r width)
      (left_none b j k (omega (arith, v))) v.done

  module _ {e : ComponentEntry} (r : ComponentOf b (first + k) e) where
    low_read : e.low ≡ (stands b j k).low
    unfolding piece component_at
    low_read = r.low_is ∙ ap (λ (f : ℕ). low_in b (f + k)) v.firsts

    high_read : e.high - e.overlap ≡ (stands b j k).high
    unfolding piece component_at
    high_read =
        ap₂ ◌-◌ (r.high_is ∙ ap (λ (f : ℕ). high_in b (f + k)) v.firsts) (r.overlap_is ∙ ap (λ (f : ℕ). overlap_in b (f + k)) v.firsts)

pub loop-k-init : goal.loop-k-init
loop-k-init c =
    let b = c.args.d.now.table.bytes.now in
    let e = c.sample_at-s.ensures in
    record {
      firsts = e.first_is;
      counted = e.count_is;
      few = omega (arith, e.count_is, c.requires.pieces_here);
      within = omega arith;
      low = omega arith;
      done = measuring_starts _ (shaped b c.args.j c.args.d.now.subframes_law c.requires.pieces_here);
    }

pub overflow_sub-width : goal.overflow_sub-width
overflow_sub-width c =
    let v = c.loop-k.invariant in
    let e = c.component_at-c.ensures in
    let m = measuring_shaped _ _ _ (next v c.loop-k-test.true) in
    omega (arith, low_read v e, high_read v e, m)

pub overflow_sub-width-in-loop-k : goal.overflow_sub-width-in-loop-k
overflow_sub-width-in-loop-k c =
    let v = c.loop-k.invariant in
    let e = c.component_at-c.ensures in
    let m = measuring_shaped _ _ _ (next v c.loop-k-test.true) in
    omega (arith, low_read v e, high_read v e, m)

pub overflow_add-width-in-loop-k : goal.overflow_add-width-in-loop-k
overflow_add-width-in-loop-k c =
    let v = c.loop-k.invariant in
    let e = c.component_at-c.ensures in
    let m = measuring_shaped _ _ _ (next v c.loop-k-test.true) in
    omega (arith, v, low_read v e, high_read v e, m)

pub loop-k-preserved : goal.loop-k-preserved
loop-k-preserved c =
    let v = c.loop-k.invariant in
    let l = c.loop-k-test.true in
    let e = c.component_at-c.ensures in
    let m = measuring_shaped _ _ _ (next v l) in
    record {
      firsts = v.firsts;
      counted = v.counted;
      few = v.few;
      within = omega (arith, v, l);
      low = omega (arith, v, low_read v e, high_read v e, m);
      done = measuring_step _ _ _ (next v l) (omega (arith, high_read v e, low_read v e, m));
    }

pub overflow_cast-result : goal.overflow_cast-result
overflow_cast-result c = omega (arith, c.loop-k.invariant)

pub returns : goal.returns
unfolding width_of
returns c =
    let v = c.loop-k.invariant in
    (measuring_ends _ (ended v c.loop-k-test.false), omega (arith, v))
