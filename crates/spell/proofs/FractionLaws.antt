-- What the code asks of a fraction's parts. Assumes nothing.
use native.Mathlib.Omega.{arith}
use native.Mathlib.Nat.{mul-le-mul}
use mathlib.Core.Path.{◌≡◌, refl, ap, subst, ◌∙◌}
use mathlib.Core.Bool.{Bool, true, false, cond, ◌&&◌, ◌||◌}
use mathlib.Core.List.{List}
use Prim.Native.Nat.{ℕ, ◌*◌, ◌≤◌, ◌<◌}
use lib.ListN.{length}
use lib.Seq.{take_all}
use lib.Dec.{eqb, leb}
use borrow.Author.Tests.{ltb-false, eqb-false}
use Rattle.std.specs.Option.{is_some, unwrap_or}
use Rattle.lay.proofs.Tests.{and_0, and_1}
use Rattle.text.specs.Blanks.{space}
use Rattle.text.specs.Parts.{index_of, up_to, past, holds}
use Rattle.spell.specs.Digits.{digits_up_to, is_marked}
use Rattle.spell.specs.Durations.{slash, is_fraction, is_seconds, bad_fraction, Small}
use Rattle.spell.specs.Decimals.{is_decimal}
use Rattle.spell.specs.declared.seconds.Fraction.{Fraction}
use Rattle.spell.proofs.MarkLaws.{mark_left}

module _ (f : List ℕ) (h : is_fraction f ≡ true) where
  fraction_left : is_marked space 6 6 (up_to slash f) ≡ true
  unfolding is_fraction
  fraction_left = and_0 (is_marked space 6 6 (up_to slash f)) (digits_up_to 10 6 (past slash f)) h

  pub fraction_below : digits_up_to 10 6 (past slash f) ≡ true
  unfolding is_fraction
  fraction_below = and_1 (is_marked space 6 6 (up_to slash f)) (digits_up_to 10 6 (past slash f)) h

-- where a mark is not there, all stands before it
up_to_none : (b : ℕ) (l : List ℕ) → holds b l ≡ false → up_to b l ≡ l
unfolding holds up_to
up_to_none b l e = take_all (index_of b l) l (ltb-false (index_of b l) (length l) e)

pub alone : (mark : ℕ) (l : List ℕ) → is_marked mark 6 6 l ≡ true → holds mark l ≡ false → digits_up_to 10 6 l ≡ true
alone mark l h e = subst (λ (k : List ℕ). digits_up_to 10 6 k ≡ true) (up_to_none mark l e) (mark_left mark 6 6 l h)

-- the two kinds of seconds
pub seconds_decimal : (f : List ℕ) → is_seconds f ≡ true → holds slash f ≡ false → is_decimal 6 f ≡ true
unfolding is_seconds
seconds_decimal f h e = subst (λ (t : Bool). cond t (is_fraction f) (is_decimal 6 f) ≡ true) e h

pub seconds_fraction : (f : List ℕ) → is_seconds f ≡ true → holds slash f ≡ true → is_fraction f ≡ true
unfolding is_seconds
seconds_fraction f h e = subst (λ (t : Bool). cond t (is_fraction f) (is_decimal 6 f) ≡ true) e h

-- a fraction that is not bad has a D
pub not_bad : (x : Fraction) → bad_fraction x ≡ false → 0 < x.below
unfolding bad_fraction
not_bad x e = go (eqb x.below 0) refl e
  where
    go : (t : Bool) → eqb x.below 0 ≡ t → t || (is_some x.whole && (eqb x.above 0 || leb x.below x.above)) ≡ false → 0 < x.below
    go true p q = absurd (cc)
    go false p q = let k = eqb-false x.below 0 p in omega arith

-- the products that the code makes
pub whole_small : (x : Fraction) → Small x → unwrap_or x.whole 0 * x.below ≤ 1000000000000
whole_small x s = mul-le-mul {n₁ = unwrap_or x.whole 0} {m₁ = x.below} {n₂ = 1000000} {m₂ = 1000000} (omega (arith, s.whole)) (omega (arith, s.below))

-- the left side, as the code holds it
pub left_marked : (f left : List ℕ) → left ≡ up_to slash f → is_fraction f ≡ true → is_marked space 6 6 left ≡ true
left_marked f left e h = ap (is_marked space 6 6) e ∙ fraction_left f h
