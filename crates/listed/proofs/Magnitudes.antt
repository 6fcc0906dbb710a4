-- The text of a value by its magnitude. Assumes nothing.
use mathlib.Core.Path.{◌≡◌, refl, sym, ap, ◌∙◌}
use mathlib.Core.List.{List, [], ◌∷◌, ◌++◌}
use Prim.Native.Nat.{ℕ, ◌+◌, ◌≤◌}
use native.Mathlib.Nat.{not-suc-le-zero}
use native.Mathlib.Omega.{arith}
use lib.Dec.{ltb→lt}
use lib.IntN.{ℤ, pos, negsuc, nat_abs}
use lib.Signed.{◌≤ℤ◌, ◌<ℤ◌}
use lib.ListN.{length, set}
use Rattle.lay.specs.Bytes.{put}
use Rattle.lay.proofs.Puts.{put_cell, put_then}
use Rattle.listed.specs.Decimals.{decimal_text, minus, value_text}
use Rattle.listed.proofs.DecimalLaws.{decimal_short}

negative_text : (v : ℤ) → v <ℤ pos 0 → value_text v ≡ minus ∷ decimal_text (nat_abs v)
unfolding value_text
negative_text (pos n) l = absurd (not-suc-le-zero (ltb→lt n 0 l.lt))
negative_text (negsuc n) l = refl

natural_text : (v : ℤ) → pos 0 ≤ℤ v → value_text v ≡ decimal_text (nat_abs v)
unfolding value_text
natural_text (pos n) l = refl
natural_text (negsuc n) l = absurd l.le

-- ---- as it is put

pub negative_put : (out after : List ℕ) (o r n : ℕ) (v : ℤ) → o + 21 ≤ length out → v <ℤ pos 0 → n ≡ nat_abs v
    → (r ≡ o + 1 + length (decimal_text n)) × (after ≡ put (set out o minus) (o + 1) (decimal_text n))
    → (r ≡ o + length (value_text v)) × (after ≡ put out o (value_text v))
negative_put out after o r n v h l e q =
    let w = negative_text v l ∙ ap (λ (k : ℕ). minus ∷ decimal_text k) (sym e) in
    let both : after ≡ put out o ((minus ∷ []) ++ decimal_text n) = put_then out (set out o minus) after o (minus ∷ []) (decimal_text n) (o + 1) (put_cell out o minus (omega arith)) q.1 refl (omega (arith, decimal_short n, h)) in
    (omega (arith, q.0, ap length w), both ∙ ap (put out o) (sym w))

pub natural_put : (out after : List ℕ) (o r n : ℕ) (v : ℤ) → pos 0 ≤ℤ v → n ≡ nat_abs v → (r ≡ o + length (decimal_text n)) × (after ≡ put out o (decimal_text n)) → (r ≡ o + length (value_text v)) × (after ≡ put out o (value_text v))
natural_put out after o r n v l e h = let w = natural_text v l ∙ ap decimal_text (sym e) in (rw w h.0, rw w h.1)
