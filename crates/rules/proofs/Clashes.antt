-- Two components of a table in one word: by subframe and word as by the word's position in a frame. Assumes nothing.
use mathlib.Core.Path.{◌≡◌, ap₂}
use mathlib.Core.Bool.{true, ◌&&◌}
use mathlib.Core.List.{List}
use Prim.Native.Nat.{ℕ, ◌≤◌}
use borrow.Author.Tests.{eqb-true, eq-eqb, leb-true, le-leb}
use lib.Dec.{eqb, leb}
use Rattle.lay.proofs.Tests.{and_0, and_1, and_both}
use Rattle.sample.specs.Clash.{clash}
use Rattle.sample.specs.Flat.{position}
use Rattle.model.specs.Content.{Component, Subframe}
use Rattle.model.specs.Samples.{word_counts, whole}
use Rattle.model.specs.Meaning.{ComponentLaw}
use Rattle.model.proofs.Pieces.{component_at_bit}

-- they name a bit in common
pub record Meet (c d : Component) : Type 0 where
  pub subframe : c.subframe ≡ d.subframe
  pub word : c.word ≡ d.word
  pub below : c.low ≤ d.high
  pub above : d.low ≤ c.high

module _ (subs : List Subframe) (c d : Component) (r : ComponentLaw subs c) (q : ComponentLaw subs d) where
  pub clash_law : clash (whole subs c) (whole subs d) ≡ true → Meet c d
  unfolding clash whole
  clash_law h =
      let w = eqb (whole subs c).word (whole subs d).word in
      let m = and_1 w (leb c.low d.high && leb d.low c.high) h in
      let e = component_at_bit subs c d r q (eqb-true _ _ (and_0 w (leb c.low d.high && leb d.low c.high) h)) in
      record {
        subframe = e.0;
        word = e.1;
        below = leb-true _ _ (and_0 (leb c.low d.high) (leb d.low c.high) m);
        above = leb-true _ _ (and_1 (leb c.low d.high) (leb d.low c.high) m);
      }

  pub clash_made : Meet c d → clash (whole subs c) (whole subs d) ≡ true
  unfolding clash whole
  clash_made m =
      let e : (whole subs c).word ≡ (whole subs d).word = ap₂ (λ (x y : ℕ). position (word_counts subs) x y) m.subframe m.word in
      and_both (eq-eqb _ _ e) (and_both (le-leb _ _ m.below) (le-leb _ _ m.above))
