use mathlib.Core.Path.{◌≡◌, refl, sym, ap, ap₂, ◌∙◌, subst}
use Prim.Native.Nat.{ℕ, ◌+◌, ◌≤◌, ◌<◌}
use native.Mathlib.Nat.{not-suc-le-zero}
use native.Mathlib.Omega.{arith}
use borrow.Author.Count.{below_more}
use lib.ListN.{length, length-set}
use lib.Seq.{get_or-set_same, get_or-set_other}
use Rattle.model.specs.Content.{subframes}
use Rattle.model.specs.Stored.{subframes_in}
use Rattle.model.specs.View.{view}
use Rattle.model.proofs.Views.{subframes_view}
use Rattle.carding.specs.Layout.{bits_before}
use Rattle.card.specs.Promise.{most_frame_bits}
use Rattle.card.proofs.MarginLaws.{told_known}
use Rattle.card.proofs.SpanLaws.{span_first, span_next, begins_there, narrow_there, margins_there}
use Rattle.card.proofs.spans.span_of.Goals as goal

pub loop-i-init : goal.loop-i-init
loop-i-init c =
    let b = c.args.d.now.table.bytes.now in
    record {
      counted = c.args.d.now.table.opened_of.counts.subframes_is;
      within = omega arith;
      long = refl;
      sums = sym (span_first b);
      small = omega arith;
      each = λ i l. absurd (not-suc-le-zero l);
      low = λ i l. absurd (not-suc-le-zero l);
    }

pub subframe_bits-sum-requires : goal.subframe_bits-sum-requires
subframe_bits-sum-requires c =
    let v = c.loop-i.invariant in
    let l : c.loop-i.i < subframes_in c.args.d.now.table.bytes.now = omega (arith, v, c.loop-i-test.true) in
    let n = narrow_there c.args.d.now.table.bytes.now c.loop-i.i l c.args.d.now.subframes_law in
    let k = told_known c.args.d.now.table.bytes.now c.requires.t_value c.loop-i.i l in
    let m = margins_there c.args.d.now.table.bytes.now c.loop-i.i l k c.args.d.now.subframes_law in
    let e = c.subframe_at-f.ensures in
    (omega (arith, m, e), omega (arith, n, e), omega (arith, n, e), omega (arith, m, e))

pub loop-i-preserved : goal.loop-i-preserved
loop-i-preserved c =
    let b = c.args.d.now.table.bytes.now in
    let v = c.loop-i.invariant in
    let i = c.loop-i.i in
    let list = c.loop-i.begins in
    let l : i < subframes_in b = omega (arith, v, c.loop-i-test.true) in
    let e = c.subframe_at-f.ensures in
    let known = told_known b c.requires.t_value i l in
    let n = margins_there b i l known c.args.d.now.subframes_law in
    let k : i < length list = omega (arith, v, l, c.args.d.now.table.opened_of.sized.few_subframes) in
    let x : ℕ = c.loop-i.sum + c.subframe_at-f.result.leading in
    record {
      counted = v.counted;
      within = omega (arith, v, l);
      long = length-set list i x ∙ v.long;
      sums = ap₂ ◌+◌ v.sums (c.subframe_bits-sum.ensures.0 ∙ rw (e.leading_is, e.words_is, e.bits_is, e.trailing_is)) ∙ sym (span_next b i l known);
      small = omega (arith, v, c.subframe_bits-sum.ensures);
      each = below_more _ i (λ m q. get_or-set_other list i m x 0 (λ z. let w : ⊥ = omega arith in w) ∙ v.each m q) (get_or-set_same list i x 0 k ∙ ap₂ ◌+◌ v.sums e.leading_is ∙ sym (begins_there b i l known));
      low = below_more _ i (λ m q. subst (λ (x : ℕ). x ≤ most_frame_bits) (sym (get_or-set_other list i m x 0 (λ z. let w : ⊥ = omega arith in w))) (v.low m q)) (subst (λ (x : ℕ). x ≤ most_frame_bits) (sym (get_or-set_same list i x 0 k)) (omega (arith, v, l, e, n, c.args.d.now.table.opened_of.sized.few_subframes)));
    }

pub returns : goal.returns
returns c =
    let b = c.args.d.now.table.bytes.now in
    let v = c.loop-i.invariant in
    let full : c.loop-i.i ≡ subframes (view b) = omega (arith, v, c.loop-i-test.false, subframes_view b) in
    record {
      begins_are = record { each = λ i l. v.each i (omega (arith, v, c.loop-i-test.false)); small = λ i l. v.low i (omega (arith, v, c.loop-i-test.false)) };
      bits_are = v.sums ∙ ap (bits_before (view b)) full;
      small = omega (arith, v, c.args.d.now.table.opened_of.sized.few_subframes);
    }
