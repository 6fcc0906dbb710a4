use mathlib.Core.Path.{refl, sym, ap₂, ◌∙◌, subst}
use Prim.Native.Nat.{ℕ, ◌+◌}
use native.Mathlib.Omega.{arith}
use borrow.Author.Tests.{eq-eqb, ne_eqb}
use Rattle.lay.proofs.Below.{sum_more}
use Rattle.lay.proofs.Passing.{passed_none, passed_more, failed, passed_all}
use Rattle.model.specs.Samples.{place_in}
use Rattle.model.specs.View.{component_at}
use Rattle.model.specs.Meaning.{ComponentLaw}
use Rattle.rules.specs.Ruled.{subframes_of}
use Rattle.rules.proofs.Samplings.{stored}
use Rattle.framing.proofs.Held.{place_small, whole_in, piece_in, piece_bits, holds_read, holds_all}
use Rattle.frame.proofs.read.holds_at.Goals as goal

pub sample_at-s-requires : goal.sample_at-s-requires
sample_at-s-requires c = record { j_bound = c.requires.sample_here.here }

pub loop-k-init : goal.loop-k-init
unfolding place_in
loop-k-init c =
    record {
      passed = passed_none _ _ _ c.sample_at-s.ensures.count_is;
      place = refl;
      narrow = omega (arith, c.args.f.now.based.now.ruled.ruled.subframes.within.width);
    }

pub whole_at-c-requires : goal.whole_at-c-requires
whole_at-c-requires c =
    let b = c.args.f.now.based.now.ruled.declared.table.bytes.now in
    let v = c.loop-k.invariant.passed in
    let l = c.loop-k-test.true in
    let k = c.loop-k.k in
    let s = c.sample_at-s.ensures in
    let r = stored b c.args.j c.args.f.now.based.now.ruled.ruled.subframes.within c.requires.sample_law in
    let law = subst (λ (n : ℕ). ComponentLaw (subframes_of b) (component_at b (n + k))) (sym s.first_is) (r.each k (omega (arith, v.counted, l))) in
    record { k_bound = omega (arith, v.counted, l, s.first_is, c.requires.sample_here); bases_of = c.args.f.now.based.now.bases_of; component_law = law }

pub bits_of-n-requires : goal.bits_of-n-requires
bits_of-n-requires c = (whole_in c.args.f.now.based.now.ruled.declared.table.bytes.now c.args.j c.requires.sample_law c.args.f.now.words.now c.args.f.now.based.now.ruled.ruled c.args.f.now.words_len c.loop-k.k (omega (arith, c.loop-k.invariant.passed.counted, c.loop-k-test.true)) c.sample_at-s.ensures.first_is c.whole_at-c.ensures).shaped

pub part-requires : goal.part-requires
part-requires c = whole_in c.args.f.now.based.now.ruled.declared.table.bytes.now c.args.j c.requires.sample_law c.args.f.now.words.now c.args.f.now.based.now.ruled.ruled c.args.f.now.words_len c.loop-k.k (omega (arith, c.loop-k.invariant.passed.counted, c.loop-k-test.true)) c.sample_at-s.ensures.first_is c.whole_at-c.ensures

pub field_of-requires : goal.field_of-requires
field_of-requires c =
    let h = place_small c.args.f.now.based.now.ruled.declared.table.bytes.now c.args.j c.requires.sample_law c.loop-k.k (omega (arith, c.loop-k.invariant.passed.counted, c.loop-k-test.true)) in
    (omega (arith, h, c.loop-k.invariant.place, c.loop-k.invariant.narrow), omega (arith, c.bits_of-n.ensures.1))

pub returns-then-part-field_of : goal.returns-then-part-field_of
returns-then-part-field_of c =
    failed c.loop-k.invariant.passed c.loop-k-test.true (holds_read c.args.f.now.based.now.ruled.declared.table.bytes.now c.args.j c.requires.sample_law c.args.f.now.words.now c.args.f.now.based.now.ruled.ruled c.args.f.now.words_len c.loop-k.k (omega (arith, c.loop-k.invariant.passed.counted, c.loop-k-test.true)) c.sample_at-s.ensures.first_is c.args.v c.whole_at-c.ensures c.part.ensures c.bits_of-n.ensures.0 c.field_of.ensures c.loop-k.invariant.place) (ne_eqb _ _ c.if-part-field_of.true)
    ∙ holds_all c.args.f.now.based.now.ruled.declared.table.bytes.now c.args.j c.args.f.now.words.now c.args.v

pub piece_at-requires : goal.piece_at-requires
piece_at-requires c =
    let b = c.args.f.now.based.now.ruled.declared.table.bytes.now in
    let v = c.loop-k.invariant.passed in
    let l = c.loop-k-test.true in
    let k = c.loop-k.k in
    let s = c.sample_at-s.ensures in
    let r = stored b c.args.j c.args.f.now.based.now.ruled.ruled.subframes.within c.requires.sample_law in
    let law = subst (λ (n : ℕ). ComponentLaw (subframes_of b) (component_at b (n + k))) (sym s.first_is) (r.each k (omega (arith, v.counted, l))) in
    record { k_bound = omega (arith, v.counted, l, s.first_is, c.requires.sample_here); bases_of = c.args.f.now.based.now.bases_of; component_law = law }

pub bits_of-at-requires : goal.bits_of-at-requires
bits_of-at-requires c = (piece_in c.args.f.now.based.now.ruled.declared.table.bytes.now c.args.j c.requires.sample_law c.args.f.now.words.now c.args.f.now.based.now.ruled.ruled c.args.f.now.words_len c.loop-k.k (omega (arith, c.loop-k.invariant.passed.counted, c.loop-k-test.true)) c.sample_at-s.ensures.first_is c.piece_at.ensures).shaped

pub overflow_add-at : goal.overflow_add-at
overflow_add-at c =
    let h = place_small c.args.f.now.based.now.ruled.declared.table.bytes.now c.args.j c.requires.sample_law c.loop-k.k (omega (arith, c.loop-k.invariant.passed.counted, c.loop-k-test.true)) in
    let n = piece_bits c.args.f.now.based.now.ruled.declared.table.bytes.now c.args.j c.requires.sample_law c.args.f.now.words.now c.args.f.now.based.now.ruled.ruled c.args.f.now.words_len c.loop-k.k (omega (arith, c.loop-k.invariant.passed.counted, c.loop-k-test.true)) c.sample_at-s.ensures.first_is c.piece_at.ensures c.bits_of-at.ensures.0 in
    omega (arith, h, n, c.loop-k.invariant.place, c.loop-k.invariant.narrow)

pub loop-k-preserved : goal.loop-k-preserved
unfolding place_in
loop-k-preserved c =
    let n = piece_bits c.args.f.now.based.now.ruled.declared.table.bytes.now c.args.j c.requires.sample_law c.args.f.now.words.now c.args.f.now.based.now.ruled.ruled c.args.f.now.words_len c.loop-k.k (omega (arith, c.loop-k.invariant.passed.counted, c.loop-k-test.true)) c.sample_at-s.ensures.first_is c.piece_at.ensures c.bits_of-at.ensures.0 in
    record {
      passed =
          passed_more c.loop-k.invariant.passed c.loop-k-test.true (holds_read c.args.f.now.based.now.ruled.declared.table.bytes.now c.args.j c.requires.sample_law c.args.f.now.words.now c.args.f.now.based.now.ruled.ruled c.args.f.now.words_len c.loop-k.k (omega (arith, c.loop-k.invariant.passed.counted, c.loop-k-test.true)) c.sample_at-s.ensures.first_is c.args.v c.whole_at-c.ensures c.part.ensures c.bits_of-n.ensures.0 c.field_of.ensures c.loop-k.invariant.place) (eq-eqb _ _ c.if-part-field_of.false);
      place = ap₂ ◌+◌ c.loop-k.invariant.place n ∙ sym (sum_more c.loop-k.k _);
      narrow = c.loop-k.invariant.narrow;
    }

pub returns : goal.returns
returns c =
    passed_all c.loop-k.invariant.passed c.loop-k-test.false
    ∙ holds_all c.args.f.now.based.now.ruled.declared.table.bytes.now c.args.j c.args.f.now.words.now c.args.v
