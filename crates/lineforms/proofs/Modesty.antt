-- What a component line says is modest. Assumes nothing.
use mathlib.Core.Path.{◌≡◌, refl, sym, subst}
use mathlib.Core.Bool.{Bool, true, false, not, ◌&&◌, ◌||◌}
use mathlib.Core.List.{List, [], ◌∷◌}
use Prim.Native.Nat.{ℕ, ◌≤◌}
use native.Mathlib.Omega.{arith}
use lib.Dec.{leb, ltb, eqb}
use borrow.Author.Tests.{leb-true, ltb-false}
use Rattle.text.specs.Blanks.{is_empty}
use Rattle.text.specs.Fields.{field_of}
use Rattle.text.specs.Refusals.{when, first}
use Rattle.text.specs.Refusals.{Judged}
use Rattle.text.specs.declared.refusal.Refusal.TheVariants.{FieldEmpty, Misspelt, OutsideLimit, BeyondDeclared}
use Rattle.text.specs.Refusals.{says}
use Rattle.spell.specs.Answers.{amount_of}
use Rattle.spell.specs.Digits.{digits_up_to, number}
use Rattle.spell.specs.Integers.{most_of_six, integer_judged, integer_of}
use Rattle.spell.specs.BitRanges.{is_bits, low_bit, high_bit, bits_judged, component_bits_judged, component_bits_of}
use Rattle.lineforms.specs.Said.{low_of, high_of, part_in, Modest}
use Rattle.lineforms.specs.declared.said.Part.{Part}

-- a number within limits is at most the highest
amount_most : (n least most : ℕ) (f : List ℕ) → amount_of (integer_of n least most f) ≤ most
unfolding integer_of integer_judged first
amount_most n least most f = go (is_empty f) (not (digits_up_to 10 n f)) (leb least (number 10 f)) (leb (number 10 f) most) refl
  where
    go : (a b c d : Bool) → leb (number 10 f) most ≡ d → amount_of (says (first (when a FieldEmpty ∷ when b Misspelt ∷ when (not (c && d)) OutsideLimit ∷ [])) (number 10 f)) ≤ most
    go true b c d e = omega arith
    go false true c d e = omega arith
    go false false false d e = omega arith
    go false false true false e = omega arith
    go false false true true e = leb-true (number 10 f) most e

-- bits within a word rise and end there
bits_modest : (count : ℕ) (f : List ℕ) → (low_of (component_bits_of count f) ≤ high_of (component_bits_of count f)) × (high_of (component_bits_of count f) ≤ count)
unfolding component_bits_of component_bits_judged bits_judged first
bits_modest count f = go (is_empty f) (not (is_bits f)) (eqb (low_bit f) 0) (ltb (high_bit f) (low_bit f)) (ltb count (high_bit f)) refl refl
  where
    tests : Bool → Bool → Bool → Bool → Bool → Judged
    tests a b c d e = first (first (when a FieldEmpty ∷ when b Misspelt ∷ when (c || d) OutsideLimit ∷ []) ∷ when e BeyondDeclared ∷ [])

    go : (a b c d e : Bool) → ltb (high_bit f) (low_bit f) ≡ d → ltb count (high_bit f) ≡ e
        → (low_of (says (tests a b c d e) (record { low = low_bit f; high = high_bit f })) ≤ high_of (says (tests a b c d e) (record { low = low_bit f; high = high_bit f }))) × (high_of (says (tests a b c d e) (record { low = low_bit f; high = high_bit f })) ≤ count)
    go true b c d e p q = (omega arith, omega arith)
    go false true c d e p q = (omega arith, omega arith)
    go false false true d e p q = (omega arith, omega arith)
    go false false false true e p q = (omega arith, omega arith)
    go false false false false true p q = (omega arith, omega arith)
    go false false false false false p q = (ltb-false (high_bit f) (low_bit f) p, ltb-false count (high_bit f) q)

modest : (l : List ℕ) → Modest (part_in l)
modest l =
    record {
      subframe = amount_most 6 0 most_of_six (field_of 0 l);
      word = amount_most 6 0 most_of_six (field_of 1 l);
      rising = (bits_modest most_of_six (field_of 3 l)).0;
      high = (bits_modest most_of_six (field_of 3 l)).1;
      overlap = amount_most 6 0 most_of_six (field_of 2 l);
    }

pub part_modest : (l : List ℕ) (p : Part) → p ≡ part_in l → (p ≡ part_in l) × Modest p
part_modest l p e = (e, subst (λ (q : Part). Modest q) (sym e) (modest l))
