use mathlib.Core.Path.{◌≡◌, sym, ap, ap₂, ◌∙◌, subst}
use mathlib.Core.List.{List, [], ◌∷◌, ◌++◌}
use Prim.Native.Nat.{ℕ, suc, ◌+◌}
use native.Mathlib.Omega.{arith}
use lib.ListN.{length, take}
use Rattle.lay.specs.Below.{tab}
use Rattle.lay.proofs.Below.{tab_same}
use Rattle.sample.specs.declared.component.Component.{Component}
use Rattle.model.specs.Samples.{piece, pieces}
use Rattle.model.specs.Stored.{first_component_in, component_count_in}
use Rattle.model.specs.View.{component_at, sample_at}
use Rattle.model.specs.Meaning.{ComponentLaw}
use Rattle.model.proofs.Views.{components_at, component_at_lem}
use Rattle.rules.specs.Ruled.{subframes_of}
use Rattle.rules.proofs.samples.pieces_at.Invariants.{stands}
use Rattle.rules.proofs.samples.pieces_at.Goals as goal

pub loop-k-init : goal.loop-k-init
loop-k-init c =
    let e = c.sample_at-s.ensures in
    record {
      firsts = e.first_is;
      counted = e.count_is;
      within = omega arith;
      many = c.none-cs.ensures;
      held = ap (λ (n : ℕ). take n c.none-cs.result.list) c.none-cs.ensures;
    }

pub piece_at-c-requires : goal.piece_at-c-requires
piece_at-c-requires c =
    let b = c.args.d.now.table.bytes.now in
    let v = c.loop-k.invariant in
    let l = c.loop-k-test.true in
    let h = c.requires.pieces_here in
    record { k_bound = omega (arith, v, l, c.requires.sample_here); bases_of = c.requires.bases_of; component_law = subst (λ (f : ℕ). ComponentLaw (subframes_of b) (component_at b (f + c.loop-k.k))) (sym v.firsts) (h.each c.loop-k.k (omega (arith, v, l))) }

pub add-requires : goal.add-requires
add-requires c = omega (arith, c.loop-k.invariant, c.loop-k-test.true, c.requires.pieces_here)

pub loop-k-preserved : goal.loop-k-preserved
loop-k-preserved c =
    let b = c.args.d.now.table.bytes.now in
    let v = c.loop-k.invariant in
    let k = c.loop-k.k in
    let one : k + 1 ≡ suc k = omega arith in
    let q = ap (λ (f : ℕ). stands b (f + k)) v.firsts in
    record {
      firsts = v.firsts;
      counted = v.counted;
      within = omega (arith, v, c.loop-k-test.true);
      many = omega (arith, v, c.add.ensures.0);
      held =
          c.add.ensures.1
          ∙ ap₂ (λ (l : List Component) (x : Component). l ++ (x ∷ [])) v.held (c.piece_at-c.ensures ∙ q)
          ∙ sym (ap (λ (n : ℕ). tab n (λ k. stands b (first_component_in b c.args.j + k))) one);
    }

pub returns : goal.returns
unfolding pieces
returns c =
    let b = c.args.d.now.table.bytes.now in
    let j = c.args.j in
    let v = c.loop-k.invariant in
    let full : c.loop-k.k ≡ component_count_in b j = omega (arith, v, c.loop-k-test.false) in
    record {
      few = omega (arith, v, full, c.requires.pieces_here);
      is =
          v.held
          ∙ ap (λ (n : ℕ). tab n (λ k. stands b (first_component_in b j + k))) (full ∙ sym (components_at b j))
          ∙ tab_same (length (sample_at b j).components) _ _ (λ k l. ap (piece (subframes_of b)) (sym (component_at_lem b j k (omega (arith, components_at b j)))));
    }
