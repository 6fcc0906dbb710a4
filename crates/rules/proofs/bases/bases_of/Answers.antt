use mathlib.Core.Path.{◌≡◌, refl, sym, ap, ap₂, ◌∙◌, subst}
use Prim.Native.Nat.{ℕ, ◌+◌, ◌*◌, ◌≤◌, ◌<◌}
use native.Mathlib.Nat.{not-suc-le-zero}
use native.Mathlib.Omega.{arith}
use borrow.Author.Count.{below_more}
use lib.ListN.{length, length-set}
use lib.Seq.{get_or-set_same, get_or-set_other}
use Rattle.sample.specs.Flat.{before}
use Rattle.model.specs.Samples.{word_counts}
use Rattle.model.specs.Forms.{sheet_limits}
use Rattle.model.specs.Stored.{subframes_in}
use Rattle.model.specs.View.{subframe_at}
use Rattle.rules.specs.Ruled.{subframes_of}
use Rattle.rules.proofs.Homes.{base_first, base_next}
use Rattle.rules.proofs.bases.bases_of.Goals as goal

pub loop-i-init : goal.loop-i-init
loop-i-init c =
    let b = c.args.t.now in
    record {
      counted = c.requires.opened_of.counts.subframes_is;
      within = omega arith;
      long = refl;
      sums = sym (base_first b);
      small = omega arith;
      each = λ i l. absurd (not-suc-le-zero l);
      low = λ i l. absurd (not-suc-le-zero l);
    }

pub overflow_add-sum : goal.overflow_add-sum
unfolding subframe_at
overflow_add-sum c =
    let v = c.loop-i.invariant in
    let l : c.loop-i.i < subframes_in c.args.t.now = omega (arith, v, c.loop-i-test.true) in
    let f = (c.requires.subframes_law.each c.loop-i.i l).few_words in
    let w = c.requires.subframes_law.within.words in
    omega (arith, v, f, w, c.requires.opened_of.sized, c.subframe_at-f.ensures)

pub loop-i-preserved : goal.loop-i-preserved
unfolding subframe_at
loop-i-preserved c =
    let b = c.args.t.now in
    let v = c.loop-i.invariant in
    let i = c.loop-i.i in
    let l : i < subframes_in b = omega (arith, v, c.loop-i-test.true) in
    let e = c.subframe_at-f.ensures in
    let f = (c.requires.subframes_law.each i l).few_words in
    let w = c.requires.subframes_law.within.words in
    let k : i < length c.loop-i.before = omega (arith, v, l, c.requires.opened_of.sized) in
    let two : i + 1 + 1 ≡ i + 2 = omega arith in
    record {
      counted = v.counted;
      within = omega (arith, v, l);
      long = length-set c.loop-i.before i c.loop-i.sum ∙ v.long;
      sums = ap₂ ◌+◌ v.sums e.words_is ∙ sym (base_next b i l) ∙ ap (λ (x : ℕ). before (word_counts (subframes_of b)) x) (sym two);
      small = omega (arith, v, f, w, e);
      each = below_more _ i (λ m q. get_or-set_other c.loop-i.before i m c.loop-i.sum 0 (λ z. let w : ⊥ = omega arith in w) ∙ v.each m q) (get_or-set_same c.loop-i.before i c.loop-i.sum 0 k ∙ v.sums);
      low = below_more _ i (λ m q. subst (λ (x : ℕ). x ≤ sheet_limits.words * sheet_limits.subframes) (sym (get_or-set_other c.loop-i.before i m c.loop-i.sum 0 (λ z. let w : ⊥ = omega arith in w))) (v.low m q)) (subst (λ (x : ℕ). x ≤ sheet_limits.words * sheet_limits.subframes) (sym (get_or-set_same c.loop-i.before i c.loop-i.sum 0 k)) (omega (arith, v, l, c.requires.opened_of.sized)));
    }

pub returns : goal.returns
returns c =
    let v = c.loop-i.invariant in
    record { each = λ i l. v.each i (omega (arith, v, c.loop-i-test.false)); small = λ i l. v.low i (omega (arith, v, c.loop-i-test.false)) }
