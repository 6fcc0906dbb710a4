-- A list of tests passes exactly where each test passes, and a field says its value exactly there. Assumes nothing.
use Prim.Native.Nat.{ℕ}
use mathlib.Core.Path.{◌≡◌, refl, ap}
use mathlib.Core.Logic.{◌↔◌}
use mathlib.Core.Bool.{Bool, true, false}
use mathlib.Core.List.{List, [], ◌∷◌}
use Rattle.std.specs.Prelude.{Ok, Err}
use Rattle.ratio.specs.declared.Ratio.{Ratio}
use Rattle.text.specs.Refusals.{Judged, when, first, says}
use Rattle.text.specs.declared.refusal.Refusal.{Refusal}
use Rattle.text.proofs.Order.{says_ok, ok_says}
use Rattle.spell.specs.declared.answers.Bits.{Bits}

-- ---- tests

-- each of a list passes
abbrev pub AllPass : List Judged → Type 0
AllPass [] = Unit {0}
AllPass (j ∷ js) = (j ≡ Ok tt) × AllPass js

pub first_all : (js : List Judged) → first js ≡ Ok tt → AllPass js
unfolding first
first_all [] e = tt
first_all (Ok _ ∷ js) e = (refl, first_all js e)
first_all (Err r ∷ js) e = absurd (cc)

pub all_first : (js : List Judged) → AllPass js → first js ≡ Ok tt
unfolding first
all_first [] p = refl
all_first (Ok _ ∷ js) p = all_first js p.1
all_first (Err r ∷ js) p = p.0

pub first_exactly : (js : List Judged) → (first js ≡ Ok tt) ↔ AllPass js
first_exactly js = (first_all js, all_first js)

-- a test passes exactly where it does not hold
pub when_false : (t : Bool) (r : Refusal) → when t r ≡ Ok tt → t ≡ false
when_false true r e = absurd (cc)
when_false false r e = refl

pub false_when : (t : Bool) (r : Refusal) → t ≡ false → when t r ≡ Ok tt
false_when t r e = rw e

pub when_exactly : (t : Bool) (r : Refusal) → (when t r ≡ Ok tt) ↔ (t ≡ false)
when_exactly t r = (when_false t r, false_when t r)

-- ---- what a field says

-- bits and fractions by their two numbers
pub bits_says : (j : Judged) (x : Bits) (a b : ℕ) → says j x ≡ Ok (record { low = a; high = b }) → (j ≡ Ok tt) × (a ≡ x.low) × (b ≡ x.high)
bits_says j x a b e =
    let p = says_ok j x (record { low = a; high = b }) e in
    (p.0, ap (λ (y : Bits). y.low) p.1, ap (λ (y : Bits). y.high) p.1)

pub says_bits_lem : (j : Judged) (x : Bits) (a b : ℕ) → j ≡ Ok tt → a ≡ x.low → b ≡ x.high → says j x ≡ Ok (record { low = a; high = b })
says_bits_lem j x a b p q r = rw (p, q, r)

pub seconds_says : (j : Judged) (x : Ratio) (n d : ℕ) → says j x ≡ Ok (record { numerator = n; denominator = d }) → (j ≡ Ok tt) × (n ≡ x.numerator) × (d ≡ x.denominator)
seconds_says j x n d e =
    let p = says_ok j x (record { numerator = n; denominator = d }) e in
    (p.0, ap (λ (y : Ratio). y.numerator) p.1, ap (λ (y : Ratio). y.denominator) p.1)

pub says_seconds_lem : (j : Judged) (x : Ratio) (n d : ℕ) → j ≡ Ok tt → n ≡ x.numerator → d ≡ x.denominator → says j x ≡ Ok (record { numerator = n; denominator = d })
says_seconds_lem j x n d p q r = rw (p, q, r)

-- a test passes exactly where the field says something
pub some_said : {A : Type 0} {P : A → Type 0} (j : Judged) (v : A) → ((w : A) → (says j v ≡ Ok w) ↔ P w) → (j ≡ Ok tt) ↔ ((w : A) × P w)
some_said j v h = (λ e. (v, (h v).0 (ok_says j v v e refl)), λ r. (says_ok j v r.0 ((h r.0).1 r.1)).0)
