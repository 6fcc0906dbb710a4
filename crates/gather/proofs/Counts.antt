-- How many samples and components there are: counted along the lists and by index. Assumes nothing.
use mathlib.Core.Path.{◌≡◌, refl, ap, ◌∙◌}
use mathlib.Core.List.{List, [], ◌∷◌, ◌++◌}
use Prim.Native.Nat.{ℕ, zero, suc, ◌+◌}
use native.Mathlib.Omega.{arith}
use lib.ListN.{length, get_or}
use Rattle.lay.specs.Below.{sum, flat}
use Rattle.model.specs.Content.{Content, Parameter, Sample, no_parameter, no_sample, parameters, parameter, all_samples, first_sample, first_component}
use Rattle.gather.specs.Book.{samples_of, components_of, all_components_of}
use Rattle.gather.proofs.Rows.{sum_front}

-- ---- one more at the end

pub samples_more : (ps : List Parameter) (p : Parameter) → samples_of (ps ++ (p ∷ [])) ≡ samples_of ps + length p.samples
unfolding samples_of
samples_more [] p = omega arith
samples_more (q ∷ ps) p = omega (arith, samples_more ps p)

components_join : (ss ts : List Sample) → components_of (ss ++ ts) ≡ components_of ss + components_of ts
unfolding components_of
components_join [] ts = omega arith
components_join (s ∷ ss) ts = omega (arith, components_join ss ts)

pub components_more : (ss : List Sample) (s : Sample) → components_of (ss ++ (s ∷ [])) ≡ components_of ss + length s.components
unfolding components_of
components_more ss s = omega (arith, components_join ss (s ∷ []))

pub all_components_more : (ps : List Parameter) (p : Parameter) → all_components_of (ps ++ (p ∷ [])) ≡ all_components_of ps + components_of p.samples
unfolding all_components_of
all_components_more [] p = omega arith
all_components_more (q ∷ ps) p = omega (arith, all_components_more ps p)

-- ---- by index

samples_sum : (ps : List Parameter) → sum (length ps) (λ k. length (get_or ps k no_parameter).samples) ≡ samples_of ps
unfolding samples_of
samples_sum [] = refl
samples_sum (p ∷ ps) =
    sum_front (length ps) (λ k. length (get_or (p ∷ ps) k no_parameter).samples) ∙ ap (λ (n : ℕ). length p.samples + n) (samples_sum ps)

components_sum : (ss : List Sample) → sum (length ss) (λ k. length (get_or ss k no_sample).components) ≡ components_of ss
unfolding components_of
components_sum [] = refl
components_sum (s ∷ ss) =
    sum_front (length ss) (λ k. length (get_or (s ∷ ss) k no_sample).components) ∙ ap (λ (n : ℕ). length s.components + n) (components_sum ss)

all_sum : (ps : List Parameter) → sum (length ps) (λ k. components_of (get_or ps k no_parameter).samples) ≡ all_components_of ps
unfolding all_components_of
all_sum [] = refl
all_sum (p ∷ ps) =
    sum_front (length ps) (λ k. components_of (get_or (p ∷ ps) k no_parameter).samples) ∙ ap (λ (n : ℕ). components_of p.samples + n) (all_sum ps)

flat_components : (n : ℕ) (f : ℕ → List Sample) → components_of (flat n f) ≡ sum n (λ k. components_of (f k))
flat_components zero f = unfold components_of in refl
flat_components (suc n) f = components_join (flat n f) (f n) ∙ ap (λ (m : ℕ). m + components_of (f n)) (flat_components n f)

module _ (c : Content) where
  pub samples_counted : first_sample c (parameters c) ≡ samples_of c.parameters
  unfolding first_sample
  samples_counted = samples_sum c.parameters

  pub components_counted : first_component c (length (all_samples c)) ≡ all_components_of c.parameters
  unfolding first_component all_samples
  components_counted =
      components_sum (all_samples c) ∙ flat_components (parameters c) (λ i. (parameter c i).samples) ∙ all_sum c.parameters
