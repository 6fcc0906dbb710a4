-- Lines only add: no part grows shorter, so what fits at the end fits before. Assumes nothing.
use mathlib.Core.Path.{◌≡◌, refl, ap}
use mathlib.Core.List.{List, [], ◌∷◌, ◌++◌}
use Prim.Native.Nat.{ℕ, ◌≤◌}
use native.Mathlib.Nat.{mul-le-mul_left}
use native.Mathlib.Omega.{arith}
use lib.ListN.{length, length-append}
use Rattle.lineforms.specs.declared.due.Form.{Form}
use Rattle.lineforms.specs.declared.due.Form.TheVariants as form
use Rattle.model.specs.Items.{parameter_part, sample_part, component_part}
use Rattle.gather.specs.Book.{Book, grow, subframe_of}
use Rattle.laying.specs.Parts.{size, copied, copies_bytes, samples_all, components_all, text_all, Places, Fits}
use Rattle.laying.proofs.Grown.{copies_more}
use Rattle.laying.proofs.Lengths.{parameters_long, samples_long, components_long}
use Rattle.laying.proofs.Clear.{ClearAt}
use Rattle.laying.proofs.Added.{added_samples, added_components, added_text, samples_added, components_added, text_added}

pub record Rises (n : ℕ) (K G : Book) : Type 0 where
  pub pairs : length K.pairs ≤ length G.pairs
  pub subframes : length (copies_bytes n K.pairs) ≤ length (copies_bytes n G.pairs)
  pub parameters : length K.parameters ≤ length G.parameters
  pub samples : length (samples_all K) ≤ length (samples_all G)
  pub components : length (components_all K) ≤ length (components_all G)
  pub text : length (text_all K) ≤ length (text_all G)

pub rises_same : (n : ℕ) (K : Book) → Rises n K K
rises_same n K =
    record { pairs = omega arith; subframes = omega arith; parameters = omega arith; samples = omega arith; components = omega arith; text = omega arith }

pub rises_on : (n : ℕ) (K G H : Book) → Rises n K G → Rises n G H → Rises n K H
rises_on n K G H p q =
    record {
      pairs = omega (arith, p.pairs, q.pairs);
      subframes = omega (arith, p.subframes, q.subframes);
      parameters = omega (arith, p.parameters, q.parameters);
      samples = omega (arith, p.samples, q.samples);
      components = omega (arith, p.components, q.components);
      text = omega (arith, p.text, q.text);
    }

longer : {A : Type 0} (x y z : List A) → z ≡ x ++ y → length x ≤ length z
longer x y z e = omega (arith, ap length e, length-append x y)

pairs_rise : (n : ℕ) (f : Form) (l : List ℕ) (K : Book) → length (copies_bytes n K.pairs) ≤ length (copies_bytes n (grow f l K).pairs)
pairs_rise n form.Stray l K = omega arith
pairs_rise n form.Superframe l K = omega arith
pairs_rise n form.HeaderWord l K = omega arith
pairs_rise n form.HeaderLine l K = omega arith
pairs_rise n form.RecordWord l K = omega arith
pairs_rise n form.RecordLine l K = longer (copies_bytes n K.pairs) (copied n (subframe_of l)) (copies_bytes n (K.pairs ++ (subframe_of l ∷ []))) (copies_more n K.pairs (subframe_of l))
pairs_rise n form.NoneWord l K = omega arith
pairs_rise n form.ParameterWord l K = omega arith
pairs_rise n form.NameLine l K = omega arith
pairs_rise n form.OpeningComponent l K = omega arith
pairs_rise n form.ComponentLine l K = omega arith
pairs_rise n form.TimeLine l K = omega arith
pairs_rise n form.SamplesEnd l K = omega arith
pairs_rise n form.SignedLine l K = omega arith
pairs_rise n form.RangeLine l K = omega arith
pairs_rise n form.SourceLine l K = omega arith
pairs_rise n form.LabelLine l K = omega arith
pairs_rise n form.SourceEnd l K = omega arith
pairs_rise n form.ParameterEnd l K = omega arith

count_rises : (f : Form) (l : List ℕ) (K : Book) → length K.pairs ≤ length (grow f l K).pairs
count_rises form.Stray l K = omega arith
count_rises form.Superframe l K = omega arith
count_rises form.HeaderWord l K = omega arith
count_rises form.HeaderLine l K = omega arith
count_rises form.RecordWord l K = omega arith
count_rises form.RecordLine l K = longer K.pairs (subframe_of l ∷ []) (K.pairs ++ (subframe_of l ∷ [])) refl
count_rises form.NoneWord l K = omega arith
count_rises form.ParameterWord l K = omega arith
count_rises form.NameLine l K = omega arith
count_rises form.OpeningComponent l K = omega arith
count_rises form.ComponentLine l K = omega arith
count_rises form.TimeLine l K = omega arith
count_rises form.SamplesEnd l K = omega arith
count_rises form.SignedLine l K = omega arith
count_rises form.RangeLine l K = omega arith
count_rises form.SourceLine l K = omega arith
count_rises form.LabelLine l K = omega arith
count_rises form.SourceEnd l K = omega arith
count_rises form.ParameterEnd l K = omega arith

parameters_rise : (f : Form) (l : List ℕ) (K : Book) → length K.parameters ≤ length (grow f l K).parameters
parameters_rise form.Stray l K = omega arith
parameters_rise form.Superframe l K = omega arith
parameters_rise form.HeaderWord l K = omega arith
parameters_rise form.HeaderLine l K = omega arith
parameters_rise form.RecordWord l K = omega arith
parameters_rise form.RecordLine l K = omega arith
parameters_rise form.NoneWord l K = omega arith
parameters_rise form.ParameterWord l K = omega arith
parameters_rise form.NameLine l K = omega arith
parameters_rise form.OpeningComponent l K = omega arith
parameters_rise form.ComponentLine l K = omega arith
parameters_rise form.TimeLine l K = omega arith
parameters_rise form.SamplesEnd l K = omega arith
parameters_rise form.SignedLine l K = omega arith
parameters_rise form.RangeLine l K = omega arith
parameters_rise form.SourceLine l K = omega arith
parameters_rise form.LabelLine l K = omega arith
parameters_rise form.SourceEnd l K = omega arith
parameters_rise form.ParameterEnd l K = longer K.parameters (K.opened ∷ []) (K.parameters ++ (K.opened ∷ [])) refl

pub rises_grow : (n : ℕ) (f : Form) (l : List ℕ) (K : Book) → ClearAt f K → Rises n K (grow f l K)
rises_grow n f l K c =
    record {
      pairs = count_rises f l K;
      subframes = pairs_rise n f l K;
      parameters = parameters_rise f l K;
      samples = longer (samples_all K) (added_samples f l K) (samples_all (grow f l K)) (samples_added f l K c);
      components = longer (components_all K) (added_components f l) (components_all (grow f l K)) (components_added f l K c);
      text = longer (text_all K) (added_text f l) (text_all (grow f l K)) (text_added f l K c);
    }

-- what fits later fits now
pub fits_before : (a : Places) (n : ℕ) (K G : Book) (long : ℕ) → Rises n K G → Fits a n G long → Fits a n K long
fits_before a n K G long r h =
    record {
      subframes = omega (arith, r.subframes, h.subframes);
      parameters = omega (arith, parameters_long 0 0 K.parameters, parameters_long 0 0 G.parameters, mul-le-mul_left (size parameter_part) r.parameters, h.parameters);
      samples = omega (arith, samples_long 0 (samples_all K), samples_long 0 (samples_all G), mul-le-mul_left (size sample_part) r.samples, h.samples);
      components = omega (arith, components_long (components_all K), components_long (components_all G), mul-le-mul_left (size component_part) r.components, h.components);
      text = omega (arith, r.text, h.text);
    }
