-- Margins and their numbers: there and back, within a form's limits. Assumes nothing.
use mathlib.Core.Path.{◌≡◌, refl, sym, ap, ◌∙◌}
use mathlib.Core.Bool.{Bool, true, false, cond, true≢false}
use Prim.Native.Nat.{ℕ, ◌≤◌, ◌<◌}
use native.Mathlib.Omega.{arith}
use borrow.Author.Tests.{leb-true, le-leb, eqb-true, ne_eqb}
use lib.Dec.{eqb}
use Rattle.model.specs.Margin.{Margin, Known, Unknown, is_known, margin_bits, blank_margin, margin_number, margin_as}
use Rattle.model.specs.Limits.{Limits}
use Rattle.model.specs.Rules.{margin_ok}
use Rattle.model.specs.Meaning.{MarginLaw}
use Rattle.model.specs.Sound.{margin_most}

pub not_known : (m : Margin) → is_known m ≡ false → m ≡ Unknown
not_known (Known n) h = absurd (true≢false h)
not_known Unknown h = refl

pub unknown_not : (m : Margin) → m ≡ Unknown → is_known m ≡ true → ⊥
unknown_not m e k = true≢false (sym k ∙ ap is_known e)

module _ (n : ℕ) where
  pub margin_unknown : n ≡ blank_margin → margin_as n ≡ Unknown
  unfolding margin_as
  margin_unknown e = rw e refl

  pub margin_known : (n ≡ blank_margin → ⊥) → margin_as n ≡ Known n
  unfolding margin_as
  margin_known h = rw (ne_eqb n blank_margin h) refl

  -- every number is some margin's
  pub number_back : margin_number (margin_as n) ≡ n
  unfolding margin_as
  number_back = go (eqb n blank_margin) refl
    where
      go : (t : Bool) → eqb n blank_margin ≡ t → margin_number (cond t Unknown (Known n)) ≡ n
      go true e = let h : n ≡ blank_margin = eqb-true n blank_margin e in omega arith
      go false e = refl

  -- a number that says how many
  pub known_number : is_known (margin_as n) ≡ true → margin_bits (margin_as n) ≡ n
  unfolding margin_as
  known_number h = go (eqb n blank_margin) h
    where
      go : (t : Bool) → is_known (cond t Unknown (Known n)) ≡ true → margin_bits (cond t Unknown (Known n)) ≡ n
      go true e = absurd (true≢false (sym e))
      go false e = refl

module _ (lim : Limits) where
  pub margin_law : (m : Margin) → margin_ok lim m ≡ true → MarginLaw lim m
  unfolding margin_ok
  margin_law (Known n) h = leb-true _ _ h
  margin_law Unknown h = h

  pub margin_made : (m : Margin) → MarginLaw lim m → margin_ok lim m ≡ true
  unfolding margin_ok
  margin_made (Known n) h = le-leb _ _ h
  margin_made Unknown h = h

  pub known_most : (m : Margin) → MarginLaw lim m → is_known m ≡ true → margin_bits m ≤ lim.margin
  known_most (Known n) h k = h
  known_most Unknown h k = absurd (true≢false (sym k))

  module _ (apart : lim.margin < blank_margin) where
    -- a margin within the limits is its number's
    pub margin_back : (m : Margin) → MarginLaw lim m → margin_as (margin_number m) ≡ m
    margin_back (Known n) h = margin_known n (λ e. let w : ⊥ = omega (arith, h, apart) in w)
    margin_back Unknown h = margin_unknown blank_margin refl

    pub margin_small : (m : Margin) → MarginLaw lim m → margin_number m ≤ margin_most lim
    margin_small (Known n) h = go lim.blank
      where
        go : (t : Bool) → n ≤ cond t blank_margin lim.margin
        go true = omega (arith, h, apart)
        go false = h
    margin_small Unknown h = rw h (omega arith)
