-- What the ranges of bits take, exactly. Assumes nothing.
use native.Mathlib.Omega.{arith}
use mathlib.Core.Path.{◌≡◌, refl, sym, ap, ◌∙◌}
use mathlib.Core.Logic.{◌↔◌, ◌⊎◌, inl, inr}
use mathlib.Core.Bool.{Bool, true, false, cond}
use mathlib.Core.List.{List, [], ◌∷◌}
use Prim.Native.Nat.{ℕ, ◌≤◌}
use lib.Dec.{ltb, eqb}
use borrow.Author.Tests.{not-false, ltb-false, le-ltb}
use Rattle.text.specs.Blanks.{is_empty}
use Rattle.text.specs.Parts.{up_to, past}
use Rattle.text.specs.Refusals.{when, first}
use Rattle.text.specs.declared.refusal.Refusal.TheVariants.{OutsideLimit}
use Rattle.text.specs.Refusals.{Judged}
use Rattle.std.specs.Prelude.{Ok}
use Rattle.spell.specs.Digits.{number}
use Rattle.spell.specs.BitRanges.{hyphen, is_bits, low_bit, high_bit, bits_judged, bits_of, component_bits_judged, component_bits_of, highest_source_bit, source_bits_judged}
use Rattle.written.specs.Words.{Numeral, Marked, IsRange, IsRangeWithin}
use Rattle.written.proofs.Tests.{neither, not_zero, zero_not}
use Rattle.written.proofs.Passing.{first_all, all_first, when_false, false_when, bits_says, says_bits_lem}
use Rattle.written.proofs.MarkedNumerals.{Cases, test_cases, alone_holds, alone_left, alone_test, marked_holds, marked_left, marked_right, marked_test}
use Rattle.written.proofs.Empty.{empty_nil, nil_empty, marked_some}

module _ {f : List ℕ} where
  alone_low : Numeral 10 6 f → low_bit f ≡ number 10 f
  unfolding low_bit
  alone_low d = ap (number 10) (alone_left hyphen 6 (omega arith) d)

  alone_high : Numeral 10 6 f → high_bit f ≡ number 10 f
  unfolding high_bit
  alone_high d = rw (alone_holds hyphen 6 (omega arith) d) (alone_low d)

module _ {f x y : List ℕ} (w : Marked hyphen 6 6 f x y) where
  span_low : low_bit f ≡ number 10 x
  unfolding low_bit
  span_low = ap (number 10) (marked_left hyphen 6 6 (omega arith) w)

  span_high : high_bit f ≡ number 10 y
  unfolding high_bit
  span_high = rw (marked_holds hyphen 6 6 (omega arith) w) (ap (number 10) (marked_right hyphen 6 6 (omega arith) w))

-- the test of a range, and its bits
pub test_range : (f : List ℕ) → is_bits f ≡ true → IsRange f (low_bit f) (high_bit f)
test_range f e = go (test_cases hyphen 6 6 f e)
  where
    go : Cases hyphen 6 6 f → IsRange f (low_bit f) (high_bit f)
    go (inl c) = inl (record { digits = c.1; low = alone_low c.1; high = alone_high c.1 })
    go (inr c) = inr (record { from = up_to hyphen f; to = past hyphen f; digits = c.1; low = span_low c.1; high = span_high c.1 })

pub range_test : (f : List ℕ) (a b : ℕ) → IsRange f a b → (is_bits f ≡ true) × (a ≡ low_bit f) × (b ≡ high_bit f)
range_test f a b (inl r) =
    (alone_test hyphen 6 (omega arith) r.digits 6, r.low ∙ sym (alone_low r.digits), r.high ∙ sym (alone_high r.digits))
range_test f a b (inr r) =
    (marked_test hyphen 6 6 (omega arith) r.digits, r.low ∙ sym (span_low r.digits), r.high ∙ sym (span_high r.digits))

-- ---- from 1 on, and rising

module _ (f : List ℕ) where
  bits_passed : bits_judged f ≡ Ok tt → IsRange f (low_bit f) (high_bit f) × (1 ≤ low_bit f) × (low_bit f ≤ high_bit f)
  unfolding bits_judged
  bits_passed e =
      let p = first_all _ e in
      let t = not-false (is_bits f) (when_false _ _ p.1.0) in
      let w = neither (eqb (low_bit f) 0) (ltb (high_bit f) (low_bit f)) (when_false _ _ p.1.1.0) in
      (test_range f t, not_zero (low_bit f) w.0, ltb-false (high_bit f) (low_bit f) w.1)

  bits_passes : is_bits f ≡ true → 1 ≤ low_bit f → low_bit f ≤ high_bit f → bits_judged f ≡ Ok tt
  unfolding bits_judged
  bits_passes t a b =
      rw (marked_some hyphen 6 6 f t, t, zero_not (low_bit f) a, le-ltb (high_bit f) (low_bit f) b)
      (all_first _ (refl, (refl, (refl, tt))))

  -- and up to a limit
  within_passed : (most : ℕ) → bits_judged f ≡ Ok tt → ltb most (high_bit f) ≡ false → IsRangeWithin most f (low_bit f) (high_bit f)
  within_passed most e k =
      let p = bits_passed e in
      record { range = p.0; first = p.1; rising = p.2; last = ltb-false most (high_bit f) k }

  within_passes : (most a b : ℕ) → IsRangeWithin most f a b → (bits_judged f ≡ Ok tt) × (ltb most (high_bit f) ≡ false) × (a ≡ low_bit f) × (b ≡ high_bit f)
  within_passes most a b r =
      let t = range_test f a b r.range in
      (bits_passes t.0 (omega (arith, r.first)) (omega (arith, r.rising)), le-ltb most (high_bit f) (omega (arith, r.last)), t.1, t.2)

  pub bits_exactly : (a b : ℕ) → (bits_of f ≡ Ok (record { low = a; high = b })) ↔ (IsRange f a b × (1 ≤ a) × (a ≤ b))
  unfolding bits_of
  bits_exactly a b = (
    λ e.
        let s = bits_says (bits_judged f) _ a b e in
        rw (s.1, s.2) (bits_passed s.0),
    λ r.
        let t = range_test f a b r.0 in
        says_bits_lem (bits_judged f) _ a b (bits_passes t.0 (omega arith) (omega arith)) t.1 t.2,
  )

  pub component_bits_exactly : (count a b : ℕ) → (component_bits_of count f ≡ Ok (record { low = a; high = b })) ↔ IsRangeWithin count f a b
  unfolding component_bits_of component_bits_judged
  component_bits_exactly count a b = (
    λ e.
        let s = bits_says (component_bits_judged count f) _ a b e in
        let p = first_all _ s.0 in
        rw (s.1, s.2) (within_passed count p.0 (when_false _ _ p.1.0)),
    λ r.
        let t = within_passes count a b r in
        says_bits_lem (component_bits_judged count f) _ a b (all_first _ (t.0, (false_when _ _ t.1, tt))) t.2 t.3,
  )

  -- empty, or bits up to 32
  pub source_bits_exactly : (source_bits_judged f ≡ Ok tt) ↔ ((f ≡ []) ⊎ ((a : ℕ) × (b : ℕ) × IsRangeWithin highest_source_bit f a b))
  unfolding source_bits_judged
  source_bits_exactly = (forth (is_empty f) refl, back)
    where
      rest : Judged
      rest = first (bits_judged f ∷ when (ltb highest_source_bit (high_bit f)) OutsideLimit ∷ [])

      forth : (t : Bool) → is_empty f ≡ t → cond t (Ok tt) rest ≡ Ok tt → (f ≡ []) ⊎ ((a : ℕ) × (b : ℕ) × IsRangeWithin highest_source_bit f a b)
      forth true h e = inl (empty_nil f h)
      forth false h e = let p = first_all _ e in inr (low_bit f, high_bit f, within_passed highest_source_bit p.0 (when_false _ _ p.1.0))

      back : (f ≡ []) ⊎ ((a : ℕ) × (b : ℕ) × IsRangeWithin highest_source_bit f a b) → cond (is_empty f) (Ok tt) rest ≡ Ok tt
      back (inl e) = rw (nil_empty f e)
      back (inr r) =
          let t = within_passes highest_source_bit r.0 r.1 r.2 in
          let k = all_first (bits_judged f ∷ when (ltb highest_source_bit (high_bit f)) OutsideLimit ∷ []) (t.0, (false_when _ _ t.1, tt)) in
          either (is_empty f) k
        where
          either : (t : Bool) → rest ≡ Ok tt → cond t (Ok tt) rest ≡ Ok tt
          either true k = refl
          either false k = k
