-- A table's margins, by its bytes. Assumes nothing.
use mathlib.Core.Path.{◌≡◌, sym, ap, ◌∙◌}
use mathlib.Core.Bool.{Bool, true, false, ◌&&◌}
use mathlib.Core.List.{List}
use Prim.Native.Nat.{ℕ, ◌<◌}
use native.Mathlib.Omega.{arith}
use Rattle.lay.proofs.Below.{all_below, all_made}
use Rattle.lay.proofs.Tests.{and_0, and_1, and_both, refuse, differ}
use Rattle.model.specs.Margin.{is_known, blank_margin, margin_as}
use Rattle.model.specs.Content.{Subframe, subframe, subframes}
use Rattle.model.specs.Forms.{limits_in}
use Rattle.model.specs.Stored.{subframes_in, leading_in, trailing_in}
use Rattle.model.specs.View.{subframe_at, view}
use Rattle.model.proofs.Margins.{unknown_not, margin_unknown, margin_known}
use Rattle.model.proofs.Views.{subframes_view, subframe_view}
use Rattle.carding.specs.Answer.{margins_known, margins_told}

-- both margins of subframe i are numbers of bits
pub record KnownAt (b : List ℕ) (i : ℕ) : Type 0 where
  pub leading : is_known (margin_as (leading_in b i)) ≡ true
  pub trailing : is_known (margin_as (trailing_in b i)) ≡ true

module _ (b : List ℕ) where
  abbrev both : Subframe → Bool
  both f = is_known f.leading && is_known f.trailing

  pub told_known : margins_told b ≡ true → (i : ℕ) → i < subframes_in b → KnownAt b i
  unfolding margins_told margins_known subframe_at
  told_known h i l =
      let n = subframes_view b in
      let a = all_below (subframes (view b)) (λ i. both (subframe (view b) i)) (and_1 (limits_in b).blank _ h) i (omega (arith, n)) in
      let k = sym (ap both (subframe_view b i l)) ∙ a in
      record { leading = and_0 _ _ k; trailing = and_1 (is_known (margin_as (leading_in b i))) _ k }

  pub known_told : (limits_in b).blank ≡ true → ((i : ℕ) → i < subframes_in b → KnownAt b i) → true ≡ margins_told b
  unfolding margins_told margins_known subframe_at
  known_told h k =
      let n = subframes_view b in
      sym
      (and_both h
      (all_made (subframes (view b)) (λ i. both (subframe (view b) i))
      (λ i l.
      let o : i < subframes_in b = omega (arith, n) in
      ap both (subframe_view b i o) ∙ and_both (k i o).leading (k i o).trailing)))

  -- "for form 1"
  pub untold_form : (limits_in b).blank ≡ false → false ≡ margins_told b
  unfolding margins_told
  untold_form h = refuse _ (λ t. differ h (and_0 _ _ t))

  -- "or for an unknown margin"
  pub untold_leading : (i : ℕ) → i < subframes_in b → leading_in b i ≡ blank_margin → false ≡ margins_told b
  untold_leading i l e = refuse _ (λ t. unknown_not _ (margin_unknown _ e) (told_known t i l).leading)

  pub untold_trailing : (i : ℕ) → i < subframes_in b → trailing_in b i ≡ blank_margin → false ≡ margins_told b
  untold_trailing i l e = refuse _ (λ t. unknown_not _ (margin_unknown _ e) (told_known t i l).trailing)

pub known_made : (n : ℕ) → (n ≡ blank_margin → ⊥) → is_known (margin_as n) ≡ true
known_made n h = ap is_known (margin_known n h)
