use mathlib.Core.Path.{◌≡◌, refl, sym, ap, subst, ◌∙◌}
use mathlib.Core.Bool.{Bool, false}
use mathlib.Core.List.{List, [], ◌∷◌}
use Prim.Native.Nat.{ℕ, ◌+◌, ◌≤◌, ◌<◌}
use native.Mathlib.Omega.{arith}
use lib.ListN.{length}
use Rattle.sample.specs.declared.component.Component.{Component as Piece}
use Rattle.sample.specs.Clash.{clash, clash_any, twice}
use Rattle.sample.proofs.Walks.{twice_row, row_done, row_apart, row_found}
use Rattle.model.specs.Samples.{whole}
use Rattle.model.specs.Stored.{first_component_in, component_count_in}
use Rattle.model.specs.View.{component_at}
use Rattle.model.specs.Meaning.{ComponentLaw}
use Rattle.rules.specs.Ruled.{subframes_of}
use Rattle.rules.proofs.Samplings.{stands_whole, whole_next, whole_none, wholes_left}
use Rattle.rules.proofs.samples.named_twice.Goals as goal

-- the test is of the components that stand there
clashed : (b : List ℕ) (j first k i : ℕ) {t : Bool} → first ≡ first_component_in b j → t ≡ clash (whole (subframes_of b) (component_at b (first + k))) (whole (subframes_of b) (component_at b (first + i))) → t ≡ clash (stands_whole b j k) (stands_whole b j i)
clashed b j first k i e h = h ∙ ap (λ (f : ℕ). clash (whole (subframes_of b) (component_at b (f + k))) (whole (subframes_of b) (component_at b (f + i)))) e

-- the last component has none after it
last : {t : Bool} (l : List Piece) → length l ≤ 1 → twice l ≡ t → false ≡ t
unfolding twice clash_any
last [] n h = h
last (c ∷ []) n h = h
last (c ∷ d ∷ ds) n h = absurd (omega (arith, n))

pub sample_at-s-requires : goal.sample_at-s-requires
sample_at-s-requires c = record { j_bound = c.requires.sample_here.here }

pub loop-k-init : goal.loop-k-init
loop-k-init c =
    record { firsts = c.sample_at-s.ensures.first_is; counted = c.sample_at-s.ensures.count_is; within = omega arith; rest = refl }

pub loop-i-init : goal.loop-i-init
loop-i-init c =
    let w = c.loop-k.invariant in
    let l = c.loop-k-test.true in
    let e = c.saturating_sub-last.ensures in
    record {
      firsts = w.firsts;
      counted = w.counted;
      inside = omega (arith, l, e);
      within = omega (arith, l, e);
      rest = twice_row _ _ _ (whole_next c.args.t.now.bytes.now c.args.j c.loop-k.k (omega (arith, w, l, e))) w.rest;
    }

pub overflow_add-first : goal.overflow_add-first
overflow_add-first c = omega (arith, c.loop-i.invariant, c.sample_at-s.ensures)

pub overflow_add-first-in-loop-i : goal.overflow_add-first-in-loop-i
overflow_add-first-in-loop-i c = omega (arith, c.loop-i.invariant, c.loop-i-test.true, c.sample_at-s.ensures)

pub clashes-requires : goal.clashes-requires
clashes-requires c =
    let v = c.loop-i.invariant in
    let b = c.args.t.now.bytes.now in
    let h = c.requires.pieces_here in
    let s = c.requires.sample_here.components in
    let law : (k : ℕ) → k < component_count_in b c.args.j → ComponentLaw (subframes_of b) (component_at b (c.sample_at-s.result.first + k)) =
    λ k l. subst (λ (f : ℕ). ComponentLaw (subframes_of b) (component_at b (f + k))) (sym v.firsts) (h.each k l) in
    record { k_bound = omega (arith, v.firsts, v.counted, v.inside, s); i_bound = omega (arith, v.firsts, v.counted, c.loop-i-test.true, s); component_law = law c.loop-k.k (omega (arith, v.counted, v.inside)); component_law_2 = law c.loop-i.i (omega (arith, v.counted, c.loop-i-test.true)) }

pub loop-i-preserved : goal.loop-i-preserved
loop-i-preserved c =
    let v = c.loop-i.invariant in
    let l = c.loop-i-test.true in
    record {
      firsts = v.firsts;
      counted = v.counted;
      inside = v.inside;
      within = omega (arith, l);
      rest = row_apart _ _ _ _ _ (whole_next c.args.t.now.bytes.now c.args.j c.loop-i.i (omega (arith, v.counted, l))) (clashed c.args.t.now.bytes.now c.args.j c.sample_at-s.result.first c.loop-k.k c.loop-i.i v.firsts c.clashes.ensures) v.rest c.if-clashes.false;
    }

pub loop-k-preserved : goal.loop-k-preserved
loop-k-preserved c =
    let v = c.loop-i.invariant in
    record {
      firsts = v.firsts;
      counted = v.counted;
      within = omega (arith, v.inside);
      rest = row_done _ _ _ (whole_none c.args.t.now.bytes.now c.args.j c.loop-i.i (omega (arith, v.counted, c.loop-i-test.false))) v.rest;
    }

pub returns : goal.returns
returns c =
    let w = c.loop-k.invariant in
    last _ (omega (arith, wholes_left c.args.t.now.bytes.now c.args.j c.loop-k.k, w.counted, c.saturating_sub-last.ensures, c.loop-k-test.false)) w.rest

pub returns-then-clashes : goal.returns-then-clashes
returns-then-clashes c =
    let v = c.loop-i.invariant in
    row_found _ _ _ _ _ (whole_next c.args.t.now.bytes.now c.args.j c.loop-i.i (omega (arith, v.counted, c.loop-i-test.true))) (clashed c.args.t.now.bytes.now c.args.j c.sample_at-s.result.first c.loop-k.k c.loop-i.i v.firsts c.clashes.ensures) v.rest c.if-clashes.true
