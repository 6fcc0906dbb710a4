-- The plain spelling of seconds says them: whole, in millionths, or `W N/D`. Assumes nothing.
use mathlib.Core.Path.{◌≡◌, refl, sym, ap, ◌∙◌}
use mathlib.Core.Logic.{inl, inr}
use mathlib.Core.Bool.{Bool, true, false, cond}
use mathlib.Core.List.{◌∷◌, ◌++◌}
use Prim.Native.Nat.{ℕ, ◌*◌, ◌/◌, ◌%◌, ◌≤◌, ◌<◌}
use native.Mathlib.Omega.{arith}
use native.Mathlib.Nat.{mod-lt, mod_self, mul-one, div-add-mod', div-lt_iff_lt-mul}
use borrow.Author.Tests.{eqb-true, eqb-false}
use lib.Dec.{eqb}
use lib.ListN.{length, length-append}
use Rattle.text.specs.Blanks.{space}
use Rattle.spell.specs.Decimals.{million}
use Rattle.spell.specs.Durations.{slash}
use Rattle.ratio.proofs.Divisors.{lowest_one}
use Rattle.written.specs.Words.{IsInteger, SaysSeconds}
use Rattle.model.specs.Forms.{sheet_limits}
use Rattle.model.specs.Meaning.{SecondsLaw}
use Rattle.grammar.specs.Plain.{decimal, pointed, plain_seconds}
use Rattle.grammar.proofs.Digits.{decimal_six, pointed_is, pointed_short}

module _ (n d : ℕ) (h : SecondsLaw sheet_limits n d) where
  terms : (k : ℕ) → n % k ≡ 0 → d % k ≡ 0 → k ≡ 1
  terms = lowest_one n d h.terms

  whole_small : n / d < sheet_limits.seconds
  whole_small = (div-lt_iff_lt-mul {k = d} {x = n} {y = sheet_limits.seconds} h.some_below).1 h.less

  rest_small : n % d < d
  rest_small = mod-lt n h.some_below

  -- the third way is for what is neither whole nor in millionths
  module _ (e : eqb d 1 ≡ false) (f : eqb d million ≡ false) where
    under_small : d < million
    under_small = let z : d ≡ million → ⊥ = eqb-false d million f in omega (arith, h.small)

    rest_some : 1 ≤ n % d
    rest_some = let z : n % d ≡ 0 → ⊥ = λ r. eqb-false d 1 e (terms d r (mod_self d)) in omega arith

    whole_is : IsInteger 6 (decimal (n / d)) (n / d)
    whole_is = decimal_six (n / d) (omega (arith, whole_small))

    above_is : IsInteger 6 (decimal (n % d)) (n % d)
    above_is = decimal_six (n % d) (omega (arith, rest_small, under_small))

    under_is : IsInteger 6 (decimal d) d
    under_is = decimal_six d under_small

    mixed_spelled : SaysSeconds (decimal (n / d) ++ (space ∷ (decimal (n % d) ++ (slash ∷ decimal d)))) n d
    mixed_spelled =
        record {
          top = n;
          bottom = d;
          written =
              inr (inr (record {
                whole = decimal (n / d);
                above = decimal (n % d);
                under = decimal d;
                written = refl;
                whole_digits = whole_is.digits;
                above_digits = above_is.digits;
                under_digits = under_is.digits;
                not_none = omega (arith, above_is.value, rest_some);
                not_all = omega (arith, above_is.value, under_is.value, rest_small);
                numerator = rw (← whole_is.value, ← above_is.value, ← under_is.value) (sym (div-add-mod' n d));
                denominator = under_is.value;
              }));
          positive = h.some;
          divided = h.some_below;
          lowest = record { value = refl; terms = terms };
        }

    mixed_short : length (decimal (n / d) ++ (space ∷ (decimal (n % d) ++ (slash ∷ decimal d)))) ≤ 20
    mixed_short =
        omega (
          arith,
          length-append (decimal (n / d)) (space ∷ (decimal (n % d) ++ (slash ∷ decimal d))),
          length-append (decimal (n % d)) (slash ∷ decimal d),
          whole_is.digits.few,
          above_is.digits.few,
          under_is.digits.few,
        )

  -- in millionths
  module _ (f : d ≡ million) where
    below_all : n < 1000000000000
    below_all = omega (arith, h.less, f)

    million_spelled : SaysSeconds (pointed n) n d
    million_spelled =
        record {
          top = n;
          bottom = million;
          written = inl (record { digits = pointed_is 5 n below_all (omega (arith, below_all)); denominator = refl });
          positive = h.some;
          divided = omega arith;
          lowest = record { value = ap (λ (k : ℕ). n * k) (sym f); terms = terms };
        }

    million_short : length (pointed n) ≤ 13
    million_short = pointed_short 5 n below_all (omega (arith, below_all))

  -- whole
  module _ (e : d ≡ 1) where
    whole_number : IsInteger 6 (decimal n) n
    whole_number = decimal_six n (omega (arith, h.less, e))

    whole_spelled : SaysSeconds (decimal n) n d
    whole_spelled =
        record {
          top = n * million;
          bottom = million;
          written = inl (record { digits = inl (record { digits = whole_number.digits; value = ap (λ (k : ℕ). k * million) whole_number.value }); denominator = refl });
          positive = omega (arith, h.some);
          divided = omega arith;
          lowest = record { value = sym (ap (λ (k : ℕ). n * million * k) e ∙ mul-one (n * million)); terms = terms };
        }

  pub seconds_spelled : SaysSeconds (plain_seconds n d) n d
  unfolding plain_seconds
  seconds_spelled = go (eqb d 1) (eqb d million) refl refl
    where
      go : (t u : Bool) → eqb d 1 ≡ t → eqb d million ≡ u → SaysSeconds (cond t (decimal n) (cond u (pointed n) (decimal (n / d) ++ (space ∷ (decimal (n % d) ++ (slash ∷ decimal d)))))) n d
      go true u e f = whole_spelled (eqb-true d 1 e)
      go false true e f = million_spelled (eqb-true d million f)
      go false false e f = mixed_spelled e f

  pub seconds_short : length (plain_seconds n d) ≤ 20
  unfolding plain_seconds
  seconds_short = go (eqb d 1) (eqb d million) refl refl
    where
      go : (t u : Bool) → eqb d 1 ≡ t → eqb d million ≡ u → length (cond t (decimal n) (cond u (pointed n) (decimal (n / d) ++ (space ∷ (decimal (n % d) ++ (slash ∷ decimal d)))))) ≤ 20
      go true u e f = omega (arith, (whole_number (eqb-true d 1 e)).digits.few)
      go false true e f = omega (arith, million_short (eqb-true d million f))
      go false false e f = omega (arith, mixed_short e f)
