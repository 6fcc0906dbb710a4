-- What is read of seconds, by the three ways of writing them: which side of which mark is top and which bottom.
-- Assumes nothing.
use native.Mathlib.Nat.{zero-mul, zero-add}
use mathlib.Core.Path.{◌≡◌, refl}
use mathlib.Core.Bool.{Bool, true, false, ◌||◌}
use mathlib.Core.List.{List, ◌∷◌, ◌++◌, append_assoc}
use Prim.Native.Nat.{ℕ, ◌+◌, ◌*◌}
use lib.Dec.{leb, eqb}
use Rattle.text.specs.Blanks.{space}
use Rattle.text.specs.Parts.{up_to, past, holds}
use Rattle.spell.specs.Digits.{number}
use Rattle.spell.specs.Decimals.{million, is_decimal, millionths}
use Rattle.spell.specs.Durations.{slash, is_fraction, is_seconds, fraction_of, bad_fraction, top_of, bottom_of}

module _ (f : List ℕ) where
  -- ---- no slash: a decimal

  module _ (s : holds slash f ≡ false) where
    pub decimal_is : is_seconds f ≡ is_decimal 6 f
    unfolding is_seconds
    decimal_is = rw s

    pub decimal_top : top_of f ≡ millionths f
    unfolding top_of
    decimal_top = rw s

    pub decimal_bottom : bottom_of f ≡ million
    unfolding bottom_of
    decimal_bottom = rw s

  -- ---- a slash

  module _ (s : holds slash f ≡ true) where
    pub fraction_is : is_seconds f ≡ is_fraction f
    unfolding is_seconds
    fraction_is = rw s

    -- no space before it: `N/D`
    module _ (p : holds space (up_to slash f) ≡ false) where
      pub plain_top : top_of f ≡ number 10 (up_to slash f)
      unfolding top_of fraction_of
      plain_top = rw (s, p, zero-mul) (zero-add _)

      pub plain_bottom : bottom_of f ≡ number 10 (past slash f)
      unfolding bottom_of fraction_of
      plain_bottom = rw (s, p)

      pub plain_bad : bad_fraction (fraction_of f) ≡ eqb (number 10 (past slash f)) 0
      unfolding bad_fraction fraction_of
      plain_bad = rw p (alone (eqb (number 10 (past slash f)) 0))
        where
          alone : (t : Bool) → (t || false) ≡ t
          alone true = refl
          alone false = refl

    -- a space before it: `W N/D`
    module _ (p : holds space (up_to slash f) ≡ true) where
      pub mixed_top : top_of f ≡ number 10 (up_to space (up_to slash f)) * number 10 (past slash f) + number 10 (past space (up_to slash f))
      unfolding top_of fraction_of
      mixed_top = rw (s, p)

      pub mixed_bottom : bottom_of f ≡ number 10 (past slash f)
      unfolding bottom_of fraction_of
      mixed_bottom = rw (s, p)

      pub mixed_bad : bad_fraction (fraction_of f)
          ≡ (eqb (number 10 (past slash f)) 0
          || (eqb (number 10 (past space (up_to slash f))) 0 || leb (number 10 (past slash f)) (number 10 (past space (up_to slash f)))))
      unfolding bad_fraction fraction_of
      mixed_bad = rw p

-- `W N/D` is also cut at the slash first
pub mixed_written : (w x y : List ℕ) → (w ++ (space ∷ x)) ++ (slash ∷ y) ≡ w ++ (space ∷ (x ++ (slash ∷ y)))
mixed_written w x y = append_assoc w (space ∷ x) (slash ∷ y)
