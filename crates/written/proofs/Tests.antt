-- Laws of tests that do not hold. Assumes nothing.
use native.Mathlib.Omega.{arith}
use mathlib.Core.Path.{◌≡◌, refl}
use mathlib.Core.Bool.{Bool, true, false, ◌||◌}
use Prim.Native.Nat.{ℕ, ◌≤◌}
use lib.Dec.{eqb}
use borrow.Author.Tests.{eqb-false, ne_eqb}

pub neither : (a b : Bool) → (a || b) ≡ false → (a ≡ false) × (b ≡ false)
neither true b e = absurd (cc)
neither false b e = (refl, e)

pub not_zero : (n : ℕ) → eqb n 0 ≡ false → 1 ≤ n
not_zero n e = let z : n ≡ 0 → ⊥ = eqb-false n 0 e in omega arith

pub zero_not : (n : ℕ) → 1 ≤ n → eqb n 0 ≡ false
zero_not n h = ne_eqb n 0 (λ e. let z : ⊥ = omega arith in z)
