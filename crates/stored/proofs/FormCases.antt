-- Which forms there are, for the functions of forms.rt. Assumes nothing.
use Prim.Native.Nat.{ℕ, ◌≤◌, ◌<◌}
use mathlib.Core.Path.{◌≡◌, sym}
use mathlib.Core.Bool.{true, false}
use native.Mathlib.Omega.{arith}
use borrow.Author.Tests.{leb-true, le-leb}
use Rattle.lay.proofs.Tests.{rule, none, both, refuse}
use Rattle.model.specs.Forms.{known, newest}

pub record Among (f : ℕ) : Type 0 where
  pub least : 1 ≤ f
  pub most : f ≤ newest

pub among : (f : ℕ) → known f ≡ true → Among f
unfolding known newest
among f h = record { least = leb-true _ _ (rule _ h 0); most = leb-true _ _ (rule _ h 1) }

pub known_made : (f : ℕ) → 1 ≤ f → f ≤ newest → true ≡ known f
unfolding known newest
known_made f a b = sym (both _ (le-leb _ _ a) (both _ (le-leb _ _ b) none))

pub too_low : (f : ℕ) → f < 1 → false ≡ known f
too_low f l = refuse _ (λ h. let w = among f h in omega arith)

pub too_high : (f : ℕ) → newest < f → false ≡ known f
too_high f l = refuse _ (λ h. let w = among f h in omega arith)
