-- An outcome tells its reading. Assumes nothing.
use mathlib.Core.Path.{◌≡◌, refl, sym, ap, ◌∙◌}
use Prim.Native.Nat.{ℕ}
use native.Mathlib.Omega.{arith}
use Rattle.std.specs.Prelude.{Ok, Err}
use Rattle.table.proofs.Reasoning.{one_reason}
use Rattle.framing.specs.Reading.{Read, read_number}
use Rattle.framing.specs.Outcomes.{outcome_of}
use Rattle.framing.specs.declared.read.Reading.TheVariants.{Sample, OverlapDiffers}
use Rattle.framing.specs.declared.page.Outcome.{Outcome}

-- every case has its kind
abbrev kind_of : Read → ℕ
kind_of (Ok (Sample raw width value)) = 1
kind_of (Ok (OverlapDiffers raw width value)) = 2
kind_of (Err r) = 0

kind_is : (a : Read) → (outcome_of a).kind ≡ kind_of a
unfolding outcome_of
kind_is (Ok (Sample raw width value)) = refl
kind_is (Ok (OverlapDiffers raw width value)) = refl
kind_is (Err r) = refl

same_kind : (a b : Read) → outcome_of a ≡ outcome_of b → kind_of a ≡ kind_of b
same_kind a b e = sym (kind_is a) ∙ ap (λ (o : Outcome). o.kind) e ∙ kind_is b

-- "its refusal included": nothing of a reading is lost
pub outcome_tells : (a b : Read) → outcome_of a ≡ outcome_of b → a ≡ b
unfolding outcome_of read_number
outcome_tells (Ok (Sample raw width value)) (Ok (Sample raw' width' value')) e =
    rw (ap (λ (o : Outcome). o.raw) e, ap (λ (o : Outcome). o.width) e, ap (λ (o : Outcome). o.value) e)
outcome_tells (Ok (OverlapDiffers raw width value)) (Ok (OverlapDiffers raw' width' value')) e =
    rw (ap (λ (o : Outcome). o.raw) e, ap (λ (o : Outcome). o.width) e, ap (λ (o : Outcome). o.value) e)
outcome_tells (Err r) (Err s) e = ap Err (one_reason r s (ap (λ (o : Outcome). o.number) e))
outcome_tells (Ok (Sample raw width value)) (Ok (OverlapDiffers raw' width' value')) e = absurd (omega (arith, same_kind (Ok (Sample raw width value)) (Ok (OverlapDiffers raw' width' value')) e))
outcome_tells (Ok (Sample raw width value)) (Err s) e = absurd (omega (arith, same_kind (Ok (Sample raw width value)) (Err s) e))
outcome_tells (Ok (OverlapDiffers raw width value)) (Ok (Sample raw' width' value')) e = absurd (omega (arith, same_kind (Ok (OverlapDiffers raw width value)) (Ok (Sample raw' width' value')) e))
outcome_tells (Ok (OverlapDiffers raw width value)) (Err s) e = absurd (omega (arith, same_kind (Ok (OverlapDiffers raw width value)) (Err s) e))
outcome_tells (Err r) (Ok (Sample raw' width' value')) e = absurd (omega (arith, same_kind (Err r) (Ok (Sample raw' width' value')) e))
outcome_tells (Err r) (Ok (OverlapDiffers raw' width' value')) e = absurd (omega (arith, same_kind (Err r) (Ok (OverlapDiffers raw' width' value')) e))
