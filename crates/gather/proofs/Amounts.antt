-- What a field that passes says: its number lies within the limits that its test names. Assumes nothing.
use mathlib.Core.Path.{◌≡◌, refl, sym, ◌∙◌, subst}
use mathlib.Core.Bool.{Bool, true, false, cond}
use mathlib.Core.Logic.{inl, inr}
use mathlib.Core.List.{List}
use Prim.Native.Nat.{ℕ, ◌≤◌, ◌<◌}
use native.Mathlib.Omega.{arith}
use Rattle.std.specs.Prelude.{Ok}
use Rattle.ratio.specs.Ratio.{lowest_terms}
use Rattle.text.specs.Blanks.{is_empty}
use Rattle.text.specs.Refusals.{judged_of}
use Rattle.text.proofs.Order.{ok_says}
use Rattle.spell.specs.Answers.{amount_of}
use Rattle.spell.specs.Digits.{number}
use Rattle.spell.specs.Integers.{most_of_six, integer_judged, integer_of, declared_judged, margin_of}
use Rattle.spell.specs.Decimals.{decimal_judged, decimal_of}
use Rattle.spell.specs.BitRanges.{component_bits_judged, component_bits_of}
use Rattle.spell.specs.Durations.{top_of, bottom_of, seconds_judged, seconds_of}
use Rattle.spell.proofs.AnswerLaws.{integer_same}
use Rattle.written.specs.Words.{IsDecimal, IsRange}
use Rattle.written.proofs.Places.{six_below, number_below, millionths_below}
use Rattle.written.proofs.Integers.{integer_exactly}
use Rattle.written.proofs.Decimals.{decimal_exactly}
use Rattle.written.proofs.BitRanges.{component_bits_exactly}
use Rattle.written.proofs.Judges.{integer_judged_lem, declared_judged_lem, decimal_judged_lem, component_bits_judged_lem}
use Rattle.written.proofs.SecondsValue.{seconds_value}
use Rattle.lineforms.specs.LineFields.{range_judged}
use Rattle.lineforms.specs.Said.{numerator_of, denominator_of, low_of, high_of}
use Rattle.model.specs.Margin.{blank_margin, margin_as}
use Rattle.model.specs.Forms.{sheet_limits}
use Rattle.model.specs.Meaning.{SecondsLaw, MarginLaw}
use Rattle.model.proofs.Margins.{margin_unknown, margin_known}

-- ---- integers

module _ (f : List ℕ) where
  pub integer_amount : (n least most : ℕ) → integer_judged n least most f ≡ Ok tt → (least ≤ amount_of (integer_of n least most f)) × (amount_of (integer_of n least most f) ≤ most)
  integer_amount n least most e =
      let r = (integer_judged_lem f n least most).0 e in
      let s : integer_of n least most f ≡ Ok r.0 = (integer_exactly n least most f r.0).1 r.1 in
      rw s (r.1.1, r.1.2)

  -- an empty field says unknown, another so many
  pub margin_amount : judged_of (margin_of sheet_limits.margin blank_margin f) ≡ Ok tt → MarginLaw sheet_limits (margin_as (amount_of (margin_of sheet_limits.margin blank_margin f)))
  unfolding margin_of
  margin_amount e = go (is_empty f) e
    where
      go : (t : Bool) → judged_of (cond t (Ok blank_margin) (integer_of 6 0 sheet_limits.margin f)) ≡ Ok tt → MarginLaw sheet_limits (margin_as (amount_of (cond t (Ok blank_margin) (integer_of 6 0 sheet_limits.margin f))))
      go true q = subst (MarginLaw sheet_limits) (sym (margin_unknown blank_margin refl)) refl
      go false q =
          let a = (integer_amount 6 0 sheet_limits.margin (integer_same 6 0 sheet_limits.margin f ∙ q)).1 in
          subst (MarginLaw sheet_limits) (sym (margin_known (amount_of (integer_of 6 0 sheet_limits.margin f)) (λ z. omega (arith, a, z)))) a

  -- a number that counts from 1 up to those declared
  pub declared_amount : (count : ℕ) → declared_judged count f ≡ Ok tt → (1 ≤ amount_of (integer_of 6 0 most_of_six f)) × (amount_of (integer_of 6 0 most_of_six f) ≤ count)
  declared_amount count e =
      let r = (declared_judged_lem f count).0 e in
      let i = r.1.0 in
      let b : r.0 ≤ most_of_six = omega (arith, six_below f i.digits, i.value) in
      let s : integer_of 6 0 most_of_six f ≡ Ok r.0 = (integer_exactly 6 0 most_of_six f r.0).1 (i, omega arith, b) in
      rw s (r.1.1, r.1.2)

-- ---- times

time_small : (f : List ℕ) (v : ℕ) → IsDecimal 3 f v → v ≤ sheet_limits.time
time_small f v (inl w) =
    let b : number 10 f < 1000 = number_below 10 3 f (omega arith) w.digits in
    omega (arith, w.value)
time_small f v (inr p) =
    let b : number 10 p.before < 1000 = number_below 10 3 p.before (omega arith) p.digits.left in
    omega (arith, p.value, millionths_below p.after p.digits.right)

pub time_amount : (f : List ℕ) → decimal_judged 3 f ≡ Ok tt → amount_of (decimal_of 3 f) ≤ sheet_limits.time
time_amount f e =
    let r = (decimal_judged_lem f 3).0 e in
    let s : decimal_of 3 f ≡ Ok r.0 = (decimal_exactly 3 f r.0).1 r.1 in
    rw s (time_small f r.0 r.1)

-- ---- bits

range_small : (f : List ℕ) (a b : ℕ) → IsRange f a b → b ≤ most_of_six
range_small f a b (inl r) = omega (arith, r.high, six_below f r.digits)
range_small f a b (inr r) = omega (arith, r.high, six_below r.to r.digits.right)

pub bits_amount : (f : List ℕ) (count : ℕ) → component_bits_judged count f ≡ Ok tt → (1 ≤ low_of (component_bits_of most_of_six f)) × (low_of (component_bits_of most_of_six f) ≤ high_of (component_bits_of most_of_six f)) × (high_of (component_bits_of most_of_six f) ≤ count)
bits_amount f count e =
    let r = (component_bits_judged_lem f count).0 e in
    let w = r.2 in
    let s : component_bits_of most_of_six f ≡ Ok (record { low = r.0; high = r.1 }) =
    (component_bits_exactly f most_of_six r.0 r.1).1
    (record { range = w.range; first = w.first; rising = w.rising; last = range_small f r.0 r.1 w.range }) in
    rw s (w.first, w.rising, w.last)

-- ---- seconds

pub seconds_amount : (f : List ℕ) → seconds_judged f ≡ Ok tt → SecondsLaw sheet_limits (numerator_of (seconds_of f)) (denominator_of (seconds_of f))
seconds_amount f e =
    let x = lowest_terms (top_of f) (bottom_of f) in
    let s : seconds_of f ≡ Ok x = unfold seconds_of in ok_says (seconds_judged f) x x e refl in
    let r = seconds_value f x.numerator x.denominator s in
    rw s (record { some = r.some; some_below = r.some_below; small = r.small; less = r.less; terms = r.terms })

-- ---- an identifier's value, else 0

abbrev valued : Bool → List ℕ → ℕ
valued identifier f = cond identifier (amount_of (integer_of 10 0 sheet_limits.value f)) 0

pub value_amount : (identifier : Bool) (f : List ℕ) → range_judged identifier f ≡ Ok tt
    → (identifier ≡ false → valued identifier f ≡ 0) × (valued identifier f ≤ sheet_limits.value)
unfolding range_judged
value_amount true f e = (λ q. absurd (cc), (integer_amount f 10 0 sheet_limits.value e).1)
value_amount false f e = (λ q. refl, omega arith)
