-- Components side by side, as the judge has them, and where they stand in a frame, as the table's rules have them: they give
-- the same widths and name a bit twice in the same samples. Assumes nothing.
use mathlib.Core.Path.{◌≡◌, refl, ap, ap₂, ◌∙◌}
use mathlib.Core.Bool.{Bool, ◌&&◌, ◌||◌}
use mathlib.Core.List.{List, [], ◌∷◌}
use Prim.Native.Nat.{ℕ, suc, ◌+◌, ◌*◌, ◌-◌, ◌≤◌}
use native.Mathlib.Omega.{arith}
use borrow.Author.Tests.{eqb-true, eq-eqb}
use lib.Dec.{eqb, leb}
use lib.ListN.{length, get_or}
use Rattle.lay.specs.Below.{tab}
use Rattle.lay.proofs.Tests.{same_tests}
use Rattle.sample.specs.declared.component.Component.{Component as Piece}
use Rattle.sample.specs.Clash.{clash, clash_any, twice}
use Rattle.sample.specs.Joining.{width}
use Rattle.sample.specs.Flat.{position}
use Rattle.model.specs.Content.{Component, Sample, Subframe, no_component, no_subframe}
use Rattle.model.specs.Forms.{sheet_limits}
use Rattle.model.specs.Samples.{word_counts, whole, piece, wholes, pieces, width_of}
use Rattle.model.specs.Meaning.{ComponentLaw}
use Rattle.model.proofs.Pieces.{component_at_bit}
use Rattle.gather.specs.Tests.{word_span, spot, spots, given}
use Rattle.gather.proofs.Rows.{Each, tab_front}

-- components where they stand, one after the other
unfoldable row : (Component → Piece) → List Component → List Piece
row F [] = []
row F (c ∷ cs) = F c ∷ row F cs

tab_row : (F : Component → Piece) (cs : List Component) → tab (length cs) (λ k. F (get_or cs k no_component)) ≡ row F cs
unfolding row
tab_row F [] = refl
tab_row F (c ∷ cs) =
    tab_front (length cs) (λ k. F (get_or (c ∷ cs) k no_component)) ∙ ap (λ (ps : List Piece). F c ∷ ps) (tab_row F cs)

module _ (subs : List Subframe) where
  -- ---- widths

  row_width : (cs : List Component) → Each (ComponentLaw subs) no_component cs → width (row (piece subs) cs) ≡ given cs
  unfolding row given width piece
  row_width [] h = refl
  row_width (c ∷ cs) h = omega (arith, (h 0 (omega arith)).some_bit, row_width cs (λ k l. h (suc k) (omega arith)))

  pub given_width : (s : Sample) → Each (ComponentLaw subs) no_component s.components → width_of subs s ≡ given s.components
  unfolding width_of pieces
  given_width s h = ap width (tab_row (piece subs) s.components) ∙ row_width s.components h

  -- ---- a bit twice

  -- every word is within its limit
  module _ (small : Each (λ f. f.words ≤ sheet_limits.words) no_subframe subs) where
    word_small : (c : Component) → ComponentLaw subs c → c.word ≤ sheet_limits.words
    word_small c r = let h = small (c.subframe - 1) (omega arith) in omega arith

    whole_same : (c d : Component) → c.subframe ≡ d.subframe → c.word ≡ d.word → (whole subs c).word ≡ (whole subs d).word
    unfolding whole
    whole_same c d a b = ap₂ (λ (x y : ℕ). position (word_counts subs) x y) a b

    same_word : (c d : Component) → ComponentLaw subs c → ComponentLaw subs d → eqb (whole subs c).word (whole subs d).word ≡ eqb (spot c).word (spot d).word
    same_word c d r q =
        same_tests _ _
        (λ e.
        let w = component_at_bit subs c d r q (eqb-true _ _ e) in
        eq-eqb (spot c).word (spot d).word (ap₂ (λ (a b : ℕ). a * word_span + b) w.0 w.1))
        (λ e.
        let w = eqb-true (spot c).word (spot d).word e in
        let m = word_small c r in
        let n = word_small d q in
        let a : c.subframe ≡ d.subframe = omega arith in
        let b : c.word ≡ d.word = omega arith in
        eq-eqb (whole subs c).word (whole subs d).word (whole_same c d a b))

    row_clash : (c d : Component) → ComponentLaw subs c → ComponentLaw subs d → clash (whole subs c) (whole subs d) ≡ clash (spot c) (spot d)
    unfolding clash whole
    row_clash c d r q = ap (λ (t : Bool). t && (leb c.low d.high && leb d.low c.high)) (same_word c d r q)

    row_any : (c : Component) (cs : List Component) → ComponentLaw subs c → Each (ComponentLaw subs) no_component cs → clash_any (whole subs c) (row (whole subs) cs) ≡ clash_any (spot c) (spots cs)
    unfolding clash_any row spots
    row_any c [] r h = refl
    row_any c (d ∷ cs) r h = ap₂ ◌||◌ (row_clash c d r (h 0 (omega arith))) (row_any c cs r (λ k l. h (suc k) (omega arith)))

    row_twice : (cs : List Component) → Each (ComponentLaw subs) no_component cs → twice (row (whole subs) cs) ≡ twice (spots cs)
    unfolding twice row spots
    row_twice [] h = refl
    row_twice (c ∷ cs) h =
        ap₂ ◌||◌ (row_any c cs (h 0 (omega arith)) (λ k l. h (suc k) (omega arith))) (row_twice cs (λ k l. h (suc k) (omega arith)))

    pub spots_twice : (s : Sample) → Each (ComponentLaw subs) no_component s.components → twice (wholes subs s) ≡ twice (spots s.components)
    unfolding wholes
    spots_twice s h = ap twice (tab_row (whole subs) s.components) ∙ row_twice s.components h
