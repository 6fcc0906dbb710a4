-- Lowest terms of what decimals of seconds spell, a number of millionths, by steps of Euclid's division: to compute them takes as
-- many steps as the bottom, 1000000, has units. Assumes nothing.
use mathlib.Core.Path.{◌≡◌, refl, ◌∙◌}
use Prim.Native.Nat.{ℕ}
use native.Mathlib.Bridge.{le_by_compare, IsLe}
use Rattle.ratio.specs.Ratio.{gcd, lowest_terms}
use Rattle.ratio.specs.declared.Ratio.{Ratio}
use Rattle.ratio.proofs.Divisors.{gcd_done, gcd_step}

abbrev pub over : ℕ → ℕ → Ratio
over n d = record { numerator = n; denominator = d }

gcd_whole : gcd 1000000 1000000 ≡ 1000000
unfolding IsLe
gcd_whole = gcd_step 1000000 1000000 (le_by_compare 1 1000000 tt) ∙ gcd_done 1000000 0 refl

gcd_quarter : gcd 250000 1000000 ≡ 250000
unfolding IsLe
gcd_quarter =
    gcd_step 250000 1000000 (le_by_compare 1 1000000 tt)
    ∙ gcd_step 1000000 250000 (le_by_compare 1 250000 tt)
    ∙ gcd_done 250000 0 refl

pub whole_terms : lowest_terms 1000000 1000000 ≡ over 1 1
unfolding lowest_terms
whole_terms = rw gcd_whole

pub quarter_terms : lowest_terms 250000 1000000 ≡ over 1 4
unfolding lowest_terms
quarter_terms = rw gcd_quarter
