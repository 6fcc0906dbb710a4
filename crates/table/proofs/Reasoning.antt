-- No two reasons have one number, and none has 0 or 24. Assumes nothing.
use Prim.Native.Nat.{ℕ}
use mathlib.Core.Path.{◌≡◌, refl, sym, ap, ◌∙◌}
use mathlib.Core.Bool.{cond}
use lib.Dec.{eqb}
use native.Mathlib.Omega.{arith}
use Rattle.table.specs.declared.reason.Reason.{Reason}
use Rattle.table.specs.declared.reason.Reason.TheVariants.{Overlapped, NoTable, OtherCount, HighWord, NoParameter, NoSample, TooLarge, NoFrame, UnknownMargin, NoParameters, FewWords, LongStream}
use Rattle.table.specs.Reasons.{reason_number}

-- the reason that a number tells
unfoldable reason_of : ℕ → Reason
reason_of n = cond (eqb n 10) Overlapped (cond (eqb n 18) NoTable (cond (eqb n 19) OtherCount (cond (eqb n 20) HighWord (cond (eqb n 21) NoParameter (cond (eqb n 22) NoSample (cond (eqb n 23) TooLarge (cond (eqb n 25) NoFrame (cond (eqb n 26) UnknownMargin (cond (eqb n 27) NoParameters (cond (eqb n 28) FewWords LongStream))))))))))

told : (r : Reason) → reason_of (reason_number r) ≡ r
unfolding reason_of reason_number
told Overlapped = refl
told NoTable = refl
told OtherCount = refl
told HighWord = refl
told NoParameter = refl
told NoSample = refl
told TooLarge = refl
told NoFrame = refl
told UnknownMargin = refl
told NoParameters = refl
told FewWords = refl
told LongStream = refl

pub one_reason : (r s : Reason) → reason_number r ≡ reason_number s → r ≡ s
one_reason r s e = sym (told r) ∙ ap reason_of e ∙ told s

-- a number that tells a reason of another number is no reason's
no_reason : (n : ℕ) → (reason_number (reason_of n) ≡ n → ⊥) → (r : Reason) → reason_number r ≡ n → ⊥
no_reason n h r e = h (ap (λ (m : ℕ). reason_number (reason_of m)) (sym e) ∙ (ap reason_number (told r) ∙ e))

pub reason_some : (r : Reason) → reason_number r ≡ 0 → ⊥
unfolding reason_of reason_number
reason_some r e = no_reason 0 (λ h. omega (arith, h)) r e

-- 24, "an identifier differs", is told beside a subframe
pub reason_not_differing : (r : Reason) → reason_number r ≡ 24 → ⊥
unfolding reason_of reason_number
reason_not_differing r e = no_reason 24 (λ h. omega (arith, h)) r e
