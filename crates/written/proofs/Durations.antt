-- What the seconds take, exactly. Assumes nothing.
use native.Mathlib.Omega.{arith}
use mathlib.Core.Path.{◌≡◌, refl, sym, ap, subst, ◌∙◌}
use mathlib.Core.Logic.{◌↔◌, inl, inr}
use mathlib.Core.Bool.{Bool, true, false, not, ◌&&◌, ◌||◌}
use mathlib.Core.List.{List, ◌∷◌, ◌++◌}
use Prim.Native.Nat.{ℕ, ◌≤◌}
use lib.Dec.{leb, eqb}
use borrow.Author.Tests.{not-false, leb-false, lt-leb}
use Rattle.lay.proofs.Tests.{and_0, and_1, and_both}
use Rattle.text.specs.Blanks.{space, is_empty}
use Rattle.text.specs.Parts.{up_to, past, holds}
use Rattle.std.specs.Prelude.{Ok}
use Rattle.spell.specs.Digits.{digits_up_to, number, is_marked}
use Rattle.spell.specs.Decimals.{point}
use Rattle.spell.specs.Durations.{slash, is_fraction, is_seconds, fraction_of, bad_fraction, top_of, bottom_of, seconds_judged, seconds_of}
use Rattle.written.specs.Words.{Numeral, Marked, Without, IsDecimal, IsDecimalSeconds, IsFraction, IsMixed, IsSeconds, SaysSeconds}
use Rattle.written.proofs.Tests.{neither, not_zero, zero_not}
use Rattle.written.proofs.Passing.{first_all, all_first, when_false, false_when, seconds_says, says_seconds_lem}
use Rattle.written.proofs.Numerals.{test_numeral, numeral_test, numeral_without}
use Rattle.written.proofs.Marks.{without_holds, without_join, without_more, mark_holds, mark_up_to, mark_past, cut_again}
use Rattle.written.proofs.MarkedNumerals.{Cases, test_cases, alone_holds, alone_test, marked_holds, marked_left, marked_right, marked_test}
use Rattle.written.proofs.Empty.{marked_some, joined_some}
use Rattle.written.proofs.Decimals.{test_decimal, decimal_test}
use Rattle.written.proofs.LowestTerms.{lowest_exactly}
use Rattle.written.proofs.Fractions.{decimal_is, decimal_top, decimal_bottom, fraction_is, plain_top, plain_bottom, plain_bad, mixed_top, mixed_bottom, mixed_bad, mixed_written}

-- ---- what passes is written in one of the three ways

-- what is read, as it is written
abbrev Read : List ℕ → Type 0
Read f = IsSeconds f (top_of f) (bottom_of f) × (1 ≤ bottom_of f)

module _ (f : List ℕ) where
  read_decimal : holds slash f ≡ false → is_seconds f ≡ true → Read f
  read_decimal s t =
      let d = test_decimal 6 f (sym (decimal_is f s) ∙ t) in (
        inl (record { digits = subst (λ (k : ℕ). IsDecimal 6 f k) (sym (decimal_top f s)) d; denominator = decimal_bottom f s }),
        omega (arith, decimal_bottom f s),
      )

  read_slash : (s : holds slash f ≡ true) → is_seconds f ≡ true → bad_fraction (fraction_of f) ≡ false → Read f
  unfolding is_fraction
  read_slash s t b = go (test_cases space 6 6 (up_to slash f) (and_0 _ (digits_up_to 10 6 (past slash f)) both))
    where
      both : (is_marked space 6 6 (up_to slash f) && digits_up_to 10 6 (past slash f)) ≡ true
      both = sym (fraction_is f s) ∙ t

      under : Numeral 10 6 (past slash f)
      under = test_numeral 10 6 (past slash f) (and_1 (is_marked space 6 6 (up_to slash f)) (digits_up_to 10 6 (past slash f)) both)

      go : Cases space 6 6 (up_to slash f) → Read f
      go (inl c) = (
        inr (inl (record {
          above = up_to slash f;
          under = past slash f;
          digits = record { written = cut_again slash f s; left = c.1; right = under };
          numerator = plain_top f s c.0;
          denominator = plain_bottom f s c.0;
        })),
        omega (arith, plain_bottom f s c.0, not_zero (number 10 (past slash f)) (sym (plain_bad f s c.0) ∙ b)),
      )
      go (inr c) =
          let w = up_to space (up_to slash f) in
          let x = past space (up_to slash f) in
          let y = past slash f in
          let n = neither (eqb (number 10 y) 0) (eqb (number 10 x) 0 || leb (number 10 y) (number 10 x)) (sym (mixed_bad f s c.0) ∙ b) in
          let m = neither (eqb (number 10 x) 0) (leb (number 10 y) (number 10 x)) n.1 in (
            inr (inr (record {
              whole = w;
              above = x;
              under = y;
              written = cut_again slash f s ∙ ap (λ (l : List ℕ). l ++ (slash ∷ y)) c.1.written ∙ mixed_written w x y;
              whole_digits = c.1.left;
              above_digits = c.1.right;
              under_digits = under;
              not_none = not_zero (number 10 x) m.0;
              not_all = leb-false (number 10 y) (number 10 x) m.1;
              numerator = mixed_top f s c.0;
              denominator = mixed_bottom f s c.0;
            })),
            omega (arith, mixed_bottom f s c.0, not_zero (number 10 y) n.0),
          )

  pub seconds_passed : seconds_judged f ≡ Ok tt → IsSeconds f (top_of f) (bottom_of f) × (1 ≤ top_of f) × (1 ≤ bottom_of f)
  unfolding seconds_judged
  seconds_passed e =
      let p = first_all _ e in
      let r = go (holds slash f) refl (not-false _ (when_false _ _ p.1.0)) (when_false _ _ p.1.1.0) in
      (r.0, not_zero (top_of f) (when_false _ _ p.1.1.1.0), r.1)
    where
      go : (t : Bool) → holds slash f ≡ t → is_seconds f ≡ true → (t && bad_fraction (fraction_of f)) ≡ false → Read f
      go true s t b = read_slash s t b
      go false s t b = read_decimal s t

-- ---- what is written in one of the three ways passes

-- what is written, as it is read
record Seen (f : List ℕ) (top bottom : ℕ) : Type 0 where
  some : is_empty f ≡ false
  spelt : is_seconds f ≡ true
  good : (holds slash f && bad_fraction (fraction_of f)) ≡ false
  numerator : top ≡ top_of f
  denominator : bottom ≡ bottom_of f

decimal_slash : (f : List ℕ) (v : ℕ) → IsDecimal 6 f v → Without slash f
decimal_slash f v (inl w) = numeral_without slash (omega arith) w.digits
decimal_slash f v (inr p) =
    subst (λ (l : List ℕ). Without slash l) (sym p.digits.written)
    (without_join slash p.before (point ∷ p.after)
    (numeral_without slash (omega arith) p.digits.left)
    (without_more slash point p.after (λ e. let z : ⊥ = omega arith in z) (numeral_without slash (omega arith) p.digits.right)))

module _ (f : List ℕ) (top bottom : ℕ) (positive : 1 ≤ bottom) where
  see_decimal : IsDecimalSeconds f top bottom → Seen f top bottom
  see_decimal d =
      let s = without_holds slash f (decimal_slash f top d.digits) in
      let t = decimal_test 6 f top d.digits in
      record {
        some = marked_some point 6 6 f t.0;
        spelt = decimal_is f s ∙ t.0;
        good = rw s;
        numerator = t.1 ∙ sym (decimal_top f s);
        denominator = d.denominator ∙ sym (decimal_bottom f s);
      }

  see_fraction : IsFraction f top bottom → Seen f top bottom
  unfolding is_fraction
  see_fraction r =
      let w = r.digits in
      let s = marked_holds slash 6 6 (omega arith) w in
      let l = marked_left slash 6 6 (omega arith) w in
      let y = marked_right slash 6 6 (omega arith) w in
      let p : holds space (up_to slash f) ≡ false = rw l (alone_holds space 6 (omega arith) w.left) in
      let i : (is_marked space 6 6 (up_to slash f) && digits_up_to 10 6 (past slash f)) ≡ true =
      rw (l, y) (and_both (alone_test space 6 (omega arith) w.left 6) (numeral_test 10 6 r.under w.right)) in
      let b : eqb (number 10 (past slash f)) 0 ≡ false = rw y (zero_not (number 10 r.under) (omega (arith, r.denominator))) in
      record {
        some = joined_some slash f r.above r.under w.written;
        spelt = fraction_is f s ∙ i;
        good = rw s (plain_bad f s p ∙ b);
        numerator = r.numerator ∙ sym (plain_top f s p ∙ ap (number 10) l);
        denominator = r.denominator ∙ sym (plain_bottom f s p ∙ ap (number 10) y);
      }

  see_mixed : IsMixed f top bottom → Seen f top bottom
  unfolding is_fraction
  see_mixed r =
      let e : f ≡ (r.whole ++ (space ∷ r.above)) ++ (slash ∷ r.under) = r.written ∙ sym (mixed_written r.whole r.above r.under) in
      let n : Without slash (r.whole ++ (space ∷ r.above)) =
      without_join slash r.whole (space ∷ r.above)
      (numeral_without slash (omega arith) r.whole_digits)
      (without_more slash space r.above (λ e. let z : ⊥ = omega arith in z) (numeral_without slash (omega arith) r.above_digits)) in
      let s : holds slash f ≡ true = rw e (mark_holds slash (r.whole ++ (space ∷ r.above)) r.under n) in
      let l : up_to slash f ≡ r.whole ++ (space ∷ r.above) = rw e (mark_up_to slash (r.whole ++ (space ∷ r.above)) r.under n) in
      let y : past slash f ≡ r.under = rw e (mark_past slash (r.whole ++ (space ∷ r.above)) r.under n) in
      let m : Marked space 6 6 (up_to slash f) r.whole r.above = record { written = l; left = r.whole_digits; right = r.above_digits } in
      let p = marked_holds space 6 6 (omega arith) m in
      let a = marked_left space 6 6 (omega arith) m in
      let x = marked_right space 6 6 (omega arith) m in
      let i : (is_marked space 6 6 (up_to slash f) && digits_up_to 10 6 (past slash f)) ≡ true =
      and_both (marked_test space 6 6 (omega arith) m) (rw y (numeral_test 10 6 r.under r.under_digits)) in
      let b : (eqb (number 10 (past slash f)) 0 || (eqb (number 10 (past space (up_to slash f))) 0 || leb (number 10 (past slash f)) (number 10 (past space (up_to slash f))))) ≡ false =
      rw (y, x, zero_not (number 10 r.under) (omega (arith, r.denominator)), zero_not (number 10 r.above) r.not_none) (lt-leb (number 10 r.under) (number 10 r.above) r.not_all) in
      record {
        some = joined_some slash f (r.whole ++ (space ∷ r.above)) r.under e;
        spelt = fraction_is f s ∙ i;
        good = rw s (mixed_bad f s p ∙ b);
        numerator = r.numerator ∙ sym (rw (mixed_top f s p, a, x, y));
        denominator = r.denominator ∙ sym (mixed_bottom f s p ∙ ap (number 10) y);
      }

  see : IsSeconds f top bottom → Seen f top bottom
  see (inl d) = see_decimal d
  see (inr (inl r)) = see_fraction r
  see (inr (inr r)) = see_mixed r

  seconds_passes : IsSeconds f top bottom → 1 ≤ top → (seconds_judged f ≡ Ok tt) × (top ≡ top_of f) × (bottom ≡ bottom_of f)
  unfolding seconds_judged
  seconds_passes w h =
      let v = see w in
      let z = zero_not (top_of f) (omega (arith, v.numerator)) in (
        all_first _ (false_when _ _ v.some, (false_when _ _ (ap not v.spelt), (false_when _ _ v.good, (false_when _ _ z, tt)))),
        v.numerator,
        v.denominator,
      )

pub seconds_exactly : (f : List ℕ) (n d : ℕ) → (seconds_of f ≡ Ok (record { numerator = n; denominator = d })) ↔ SaysSeconds f n d
unfolding seconds_of
seconds_exactly f n d = (
  λ e.
      let s = seconds_says (seconds_judged f) _ n d e in
      let p = seconds_passed f s.0 in
      record {
        top = top_of f;
        bottom = bottom_of f;
        written = p.0;
        positive = p.1;
        divided = p.2;
        lowest = (lowest_exactly (top_of f) (bottom_of f) n d p.2).0 (s.1, s.2);
      },
  λ r.
      let p = seconds_passes f r.top r.bottom r.divided r.written r.positive in
      let l = (lowest_exactly r.top r.bottom n d r.divided).1 r.lowest in
      says_seconds_lem (seconds_judged f) _ n d
      p.0
      (rw (← p.1, ← p.2) l.0)
      (rw (← p.1, ← p.2) l.1),
)
