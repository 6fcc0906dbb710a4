-- A number says which refusal it is: two answers of one number are equal. Assumes nothing.
use Prim.Native.Nat.{ℕ, ◌<◌}
use native.Mathlib.Omega.{arith}
use native.Mathlib.Decide.{dec_lt}
use mathlib.Core.Bool.{Bool, true, false, cond}
use mathlib.Core.Path.{◌≡◌, refl, sym, ap}
use mathlib.Core.List.{List}
use lib.IntN.{ℤ, pos}
use Rattle.sample.specs.Joining.{join}
use Rattle.model.specs.Content.{Content}
use Rattle.table.specs.Answers.{check_number}
use Rattle.table.specs.Reasons.{reason_number}
use Rattle.table.proofs.Reasoning.{reason_some, reason_not_differing, one_reason}
use Rattle.framing.specs.Reading.{Read, read_number}
use Rattle.framing.specs.Placing.{place_number}
use Rattle.framing.specs.Comparing.{Compared, compared_number}
use Rattle.framing.specs.declared.read.Reading.TheVariants as reading
use Rattle.demands.specs.Refusing.{components_of}
use Rattle.demands.specs.Demands.{answer_for, differs_for, agree_in, answer_in, FirstDiffering}
use Rattle.table.specs.declared.reason.Reason.TheVariants.{NoTable}
use Rattle.std.specs.Prelude.{Ok, Err, Some, None}
use Rattle.framing.specs.Placing.{Placed}
use Rattle.table.specs.Answers.{Checked}

-- the raw value and the value that are answered, whether the copies agree or not
abbrev pub raw_in : Read → ℕ
raw_in (Ok (reading.Sample r w v)) = r
raw_in (Ok (reading.OverlapDiffers r w v)) = r
raw_in (Err q) = 0

abbrev pub value_in : Read → ℤ
value_in (Ok (reading.Sample r w v)) = v
value_in (Ok (reading.OverlapDiffers r w v)) = v
value_in (Err q) = pos 0

pub answer_raw : (c : Content) (f : List ℕ) (p s : ℕ) → raw_in (answer_in c f p s) ≡ join f (components_of c p s)
answer_raw c f p s = go (agree_in c f p s)
  where
    go : (t : Bool) → raw_in (Ok (cond t (answer_for c p s (join f (components_of c p s))) (differs_for c p s (join f (components_of c p s))))) ≡ join f (components_of c p s)
    go true = refl
    go false = refl

-- two answers of one number that is not 0 are equal
pub same_reading : (x y : Read) → read_number x ≡ read_number y → 0 < read_number y → x ≡ y
unfolding read_number
same_reading (Ok _) y e h = absurd (omega arith)
same_reading (Err q) (Ok _) e h = absurd (omega arith)
same_reading (Err q) (Err r) e h = ap Err (one_reason q r e)

pub same_placing : (x y : Placed) → place_number x ≡ place_number y → 0 < place_number y → x ≡ y
unfolding place_number
same_placing (Ok _) y e h = absurd (omega arith)
same_placing (Err q) (Ok _) e h = absurd (omega arith)
same_placing (Err q) (Err r) e h = ap Err (one_reason q r e)

pub same_checked : (x : Checked) (a : Bool) → check_number x ≡ cond a 0 18 → x ≡ cond a (Ok tt) (Err NoTable)
unfolding check_number reason_number
same_checked (Ok _) true e = refl
same_checked (Ok _) false e = absurd (omega arith)
same_checked (Err r) true e = absurd (reason_some r e)
same_checked (Err r) false e = ap Err (one_reason r NoTable e)

-- ---- there is one first differing subframe

pub one_first : (c : Content) (f : List ℕ) (s k : ℕ) → FirstDiffering c f s → FirstDiffering c f k → s ≡ k
one_first c f s k x y = go (dec_lt s k) (dec_lt k s)
  where
    clash : {a : Bool} → a ≡ true → a ≡ false → ⊥
    clash p q = let z : ◌≡◌ {A = ℕ} 0 1 = cc in omega arith

    go : Dec (s < k) → Dec (k < s) → s ≡ k
    go (yes l) d = absurd (clash x.differs (y.lower s x.least l))
    go (no a) (yes l) = absurd (clash y.differs (x.lower k y.least l))
    go (no a) (no b) = omega arith

-- and comparisons, where 24 tells the first differing subframe
pub same_compared : (c : Content) (f : List ℕ) (x y : Compared) → compared_number x ≡ compared_number y
    → ((s : ℕ) → x ≡ Ok (Some s) → FirstDiffering c f s) → ((s : ℕ) → y ≡ Ok (Some s) → FirstDiffering c f s) → x ≡ y
unfolding compared_number
same_compared c f (Ok None) (Ok None) e h k = refl
same_compared c f (Ok None) (Ok (Some t)) e h k = absurd (omega arith)
same_compared c f (Ok None) (Err r) e h k = absurd (reason_some r (sym e))
same_compared c f (Ok (Some s)) (Ok None) e h k = absurd (omega arith)
same_compared c f (Ok (Some s)) (Ok (Some t)) e h k = ap (λ (n : ℕ). Ok (Some n)) (one_first c f s t (h s refl) (k t refl))
same_compared c f (Ok (Some s)) (Err r) e h k = absurd (reason_not_differing r (sym e))
same_compared c f (Err q) (Ok None) e h k = absurd (reason_some q e)
same_compared c f (Err q) (Ok (Some t)) e h k = absurd (reason_not_differing q e)
same_compared c f (Err q) (Err r) e h k = ap Err (one_reason q r e)
