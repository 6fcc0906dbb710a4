-- A test of each byte of a text, by its index; and of the first or last byte, where there is one. Assumes nothing.
use mathlib.Core.Path.{◌≡◌, refl, ap, ◌∙◌}
use mathlib.Core.Bool.{true}
use mathlib.Core.List.{List, [], ◌∷◌}
use denote.Ref.{Bor}
use Prim.Native.Nat.{ℕ, suc, ◌<◌}
use native.Mathlib.Omega.{arith}
use lib.Dec.{eqb}
use lib.ListN.{length, get_or}
use Rattle.std.specs.List.{list_all, slice_get}
use Rattle.std.specs.Option.{option_copied, option_eq, unwrap_or}
use Rattle.std.specs.declared.option.Option.{Option}
use Rattle.std.specs.declared.option.Option.TheVariants.{Some, None}
use Rattle.std.proofs.lemmas.Bool.{true_from_ne_false}
use Rattle.std.proofs.lemmas.List.Folds.{list_all_at}
use Rattle.std.proofs.lemmas.Option.{unwrap_or-slice_get}
use Rattle.lay.proofs.Tests.{and_both, differ}
use Rattle.model.specs.Rules.{byte_ok}

pub each_byte : (t : List ℕ) → list_all byte_ok t ≡ true → (i : ℕ) → i < length t → byte_ok (get_or t i 0) ≡ true
each_byte t h i l = true_from_ne_false _ (λ f. differ (list_all_at byte_ok t i 0 l f) h)

pub all_bytes : (t : List ℕ) → ((i : ℕ) → i < length t → byte_ok (get_or t i 0) ≡ true) → list_all byte_ok t ≡ true
all_bytes [] h = refl
all_bytes (x ∷ xs) h = and_both (h 0 (omega arith)) (all_bytes xs (λ i l. h (suc i) (omega arith)))

-- the byte at i, compared with a space
pub space_at : (o : Option (Bor ℕ)) (q : Bor ℕ) (t : List ℕ) (i : ℕ) → option_copied o ≡ slice_get t i → q.now ≡ 32 → option_eq (λ (x y : Bor ℕ). eqb x.now y.now) o (Some q) ≡ eqb (get_or t i 0) 32
space_at None q t i e k = ap (λ (p : Option ℕ). eqb (unwrap_or p 0) 32) e ∙ ap (λ (n : ℕ). eqb n 32) (unwrap_or-slice_get t i 0)
space_at (Some x) q t i e k =
    ap (eqb x.now) k ∙ (ap (λ (p : Option ℕ). eqb (unwrap_or p 0) 32) e ∙ ap (λ (n : ℕ). eqb n 32) (unwrap_or-slice_get t i 0))
