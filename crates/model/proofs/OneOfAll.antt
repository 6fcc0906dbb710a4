-- What stands for one parameter or sample is what stands for it among all; three texts in a row, a list as a row, flags as bits.
-- Assumes nothing.
use mathlib.Core.Path.{◌≡◌, refl, sym, ap, ◌∙◌}
use mathlib.Core.Bool.{Bool, true, false}
use mathlib.Core.List.{List, ◌++◌, append_assoc}
use Prim.Native.Nat.{ℕ, ◌+◌, ◌*◌, ◌/◌, ◌%◌, ◌<◌}
use native.Mathlib.Omega.{arith}
use lib.Dec.{eqb}
use lib.ListN.{length, get_or, take, drop}
use lib.Seq.{take_at, ext_get_or}
use Rattle.lay.specs.Below.{tab}
use Rattle.lay.specs.Bytes.{part}
use Rattle.lay.proofs.Below.{sum_up, length_tab, get_or_tab, get_or_flat}
use Rattle.lay.proofs.Parts.{From, past}
use Rattle.model.specs.Content.{Content, no_component, no_sample, parameter, sample, component, parameters, all_samples, all_components, first_sample, first_component}
use Rattle.model.specs.Write.{samples, components, bit}
use Rattle.model.proofs.Fits.{sample_of_all, component_of_all, length_samples}

-- three texts that stand at o are the parts there
module _ (b : List ℕ) (o n m d : ℕ) (x y z : List ℕ) (t : From (drop o b) (x ++ (y ++ z))) where
  pub texts_read : n ≡ length x → m ≡ length y → d ≡ length z → (part b o n ≡ x) × ((part b (o + n) m ≡ y) × (part b (o + n + m) d ≡ z))
  texts_read p q r =
      let e0 = t.is ∙ append_assoc x (y ++ z) t.rest ∙ ap (λ (l : List ℕ). x ++ l) (append_assoc y z t.rest) in
      let e1 = past b o n x _ e0 (sym p) in
      let e2 = past b (o + n) m y _ e1 (sym q) in (
        ap (take n) e0 ∙ take_at x _ n (sym p),
        (ap (take m) e1 ∙ take_at y _ m (sym q), ap (take d) e2 ∙ take_at z _ d (sym r)),
      )

-- a list is the row of its items
pub tab_list : {A : Type 0} (n : ℕ) (f : ℕ → A) (d : A) (l : List A) → n ≡ length l → ((k : ℕ) → k < length l → f k ≡ get_or l k d) → tab n f ≡ l
tab_list n f d l e h =
    let t = length_tab n f in
    ext_get_or d (tab n f) l (t ∙ e) (λ k m. get_or_tab n f d k (omega arith) ∙ h k (omega arith))

-- flags say the bits that they are made of
pub flag_bit : (t : Bool) → eqb (bit t) 1 ≡ t
flag_bit true = refl
flag_bit false = refl

pub flag_signed : (s t : Bool) → eqb ((bit s + 2 * bit t) % 2) 1 ≡ s
flag_signed true true = refl
flag_signed true false = refl
flag_signed false true = refl
flag_signed false false = refl

pub flag_identifier : (s t : Bool) → eqb ((bit s + 2 * bit t) / 2) 1 ≡ t
flag_identifier true true = refl
flag_identifier true false = refl
flag_identifier false true = refl
flag_identifier false false = refl

-- ---- samples and components, of one and of all

module _ (c : Content) where
  pub sample_within : (i j : ℕ) → i < parameters c → j < length (parameter c i).samples → first_sample c i + j < samples c
  unfolding first_sample
  sample_within i j l m = let u = sum_up (parameters c) (λ k. length (parameter c k).samples) i l in omega arith

  pub sample_all : (i j : ℕ) → i < parameters c → j < length (parameter c i).samples → sample_of_all c (first_sample c i + j) ≡ sample (parameter c i) j
  unfolding first_sample all_samples
  sample_all i j l m = get_or_flat (parameters c) (λ i. (parameter c i).samples) no_sample i j l m

  pub component_within : (j k : ℕ) → j < samples c → k < length (sample_of_all c j).components → first_component c j + k < components c
  unfolding first_component
  component_within j k l m =
      let u = sum_up (samples c) (λ k. length (sample_of_all c k).components) j l in omega arith

  pub component_all : (j k : ℕ) → j < samples c → k < length (sample_of_all c j).components → component_of_all c (first_component c j + k) ≡ component (sample_of_all c j) k
  unfolding first_component all_components
  component_all j k l m =
      let e = length_samples c in
      get_or_flat (length (all_samples c)) (λ j. (sample_of_all c j).components) no_component j k (omega arith) m
