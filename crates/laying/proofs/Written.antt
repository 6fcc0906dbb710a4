-- The parts along the lists are the parts of the table's writing. Assumes nothing.
use mathlib.Core.Path.{◌≡◌, refl, sym, ap, ap₂, ◌∙◌}
use mathlib.Core.List.{List, [], ◌∷◌, ◌++◌, append_assoc}
use Prim.Native.Nat.{ℕ, suc, ◌+◌}
use native.Mathlib.Omega.{arith}
use lib.ListN.{length, get_or}
use Rattle.lay.specs.Below.{sum, flat}
use Rattle.lay.specs.Layout.{row_bytes, laid}
use Rattle.lay.proofs.Below.{flat_same, length_flat}
use Rattle.model.specs.Content.{Content, Subframe, Parameter, Sample, Component, no_subframe, no_parameter, no_sample, no_component, parameters, parameter, all_samples, all_components, first_sample, first_component}
use Rattle.model.specs.Write.{samples, components, texts, text_start, head_values, subframe_values, parameter_values, sample_values, component_values, numbers_of, write, parameter_from, sample_from}
use Rattle.model.specs.Items.{subframe_part, parameter_part, sample_part, component_part, parts}
use Rattle.model.specs.Forms.{newest}
use Rattle.model.proofs.Rows.{known_sound, known_newest}
use Rattle.gather.proofs.Rows.{sum_front}
use Rattle.laying.specs.Parts.{new_layout, entry, header_of, subframe_bytes, parameter_bytes, sample_bytes, component_bytes, text_bytes, samples_in, components_in}
use Rattle.laying.proofs.Fronts.{flat_front}

subframes_index : (fs : List Subframe) → flat (length fs) (λ i. entry subframe_part (subframe_values (get_or fs i no_subframe))) ≡ subframe_bytes fs
unfolding subframe_bytes
subframes_index [] = refl
subframes_index (f ∷ fs) =
    flat_front (length fs) (λ i. entry subframe_part (subframe_values (get_or (f ∷ fs) i no_subframe)))
    ∙ ap (λ (l : List ℕ). entry subframe_part (subframe_values f) ++ l) (subframes_index fs)

components_index : (cs : List Component) → flat (length cs) (λ i. entry component_part (component_values (get_or cs i no_component))) ≡ component_bytes cs
unfolding component_bytes
components_index [] = refl
components_index (c ∷ cs) =
    flat_front (length cs) (λ i. entry component_part (component_values (get_or (c ∷ cs) i no_component)))
    ∙ ap (λ (l : List ℕ). entry component_part (component_values c) ++ l) (components_index cs)

texts_index : (ps : List Parameter) → flat (length ps) (λ i. texts (get_or ps i no_parameter)) ≡ text_bytes ps
unfolding text_bytes
texts_index [] = refl
texts_index (p ∷ ps) = flat_front (length ps) (λ i. texts (get_or (p ∷ ps) i no_parameter)) ∙ ap (λ (l : List ℕ). texts p ++ l) (texts_index ps)

samples_flat : (ps : List Parameter) → flat (length ps) (λ i. (get_or ps i no_parameter).samples) ≡ samples_in ps
unfolding samples_in
samples_flat [] = refl
samples_flat (p ∷ ps) = flat_front (length ps) (λ i. (get_or (p ∷ ps) i no_parameter).samples) ∙ ap (λ (l : List Sample). p.samples ++ l) (samples_flat ps)

components_flat : (ss : List Sample) → flat (length ss) (λ i. (get_or ss i no_sample).components) ≡ components_in ss
unfolding components_in
components_flat [] = refl
components_flat (s ∷ ss) = flat_front (length ss) (λ i. (get_or (s ∷ ss) i no_sample).components) ∙ ap (λ (l : List Component). s.components ++ l) (components_flat ss)

-- with what stands before
long : List Parameter → ℕ → ℕ
long ps k = length (texts (get_or ps k no_parameter))

many : List Parameter → ℕ → ℕ
many ps k = length (get_or ps k no_parameter).samples

parameters_index : (t q : ℕ) (ps : List Parameter) → flat (length ps) (λ i. entry parameter_part (parameter_from (get_or ps i no_parameter) (t + sum i (long ps)) (q + sum i (many ps)))) ≡ parameter_bytes t q ps
unfolding parameter_bytes long many
parameters_index t q [] = refl
parameters_index t q (p ∷ ps) =
    let e : t + 0 ≡ t = omega arith in
    let d : q + 0 ≡ q = omega arith in
    flat_front (length ps) (λ i. entry parameter_part (parameter_from (get_or (p ∷ ps) i no_parameter) (t + sum i (long (p ∷ ps))) (q + sum i (many (p ∷ ps)))))
    ∙ ap₂ ◌++◌ (ap₂ (λ (a b : ℕ). entry parameter_part (parameter_from p a b)) e d)
    (flat_same (length ps)
    (λ i. entry parameter_part (parameter_from (get_or ps i no_parameter) (t + sum (suc i) (long (p ∷ ps))) (q + sum (suc i) (many (p ∷ ps)))))
    (λ i. entry parameter_part (parameter_from (get_or ps i no_parameter) (t + length (texts p) + sum i (long ps)) (q + length p.samples + sum i (many ps))))
    (λ i h.
    let a : t + sum (suc i) (long (p ∷ ps)) ≡ t + length (texts p) + sum i (long ps) = omega (arith, sum_front i (long (p ∷ ps))) in
    let b : q + sum (suc i) (many (p ∷ ps)) ≡ q + length p.samples + sum i (many ps) = omega (arith, sum_front i (many (p ∷ ps))) in
    ap₂ (λ (x y : ℕ). entry parameter_part (parameter_from (get_or ps i no_parameter) x y)) a b)
    ∙ parameters_index (t + length (texts p)) (q + length p.samples) ps)

wide : List Sample → ℕ → ℕ
wide ss k = length (get_or ss k no_sample).components

samples_index : (n : ℕ) (ss : List Sample) → flat (length ss) (λ j. entry sample_part (sample_from (get_or ss j no_sample) (n + sum j (wide ss)))) ≡ sample_bytes n ss
unfolding sample_bytes wide
samples_index n [] = refl
samples_index n (s ∷ ss) =
    let e : n + 0 ≡ n = omega arith in
    flat_front (length ss) (λ j. entry sample_part (sample_from (get_or (s ∷ ss) j no_sample) (n + sum j (wide (s ∷ ss)))))
    ∙ ap₂ ◌++◌ (ap (λ (a : ℕ). entry sample_part (sample_from s a)) e)
    (flat_same (length ss)
    (λ j. entry sample_part (sample_from (get_or ss j no_sample) (n + sum (suc j) (wide (s ∷ ss)))))
    (λ j. entry sample_part (sample_from (get_or ss j no_sample) (n + length s.components + sum j (wide ss))))
    (λ j h.
    let a : n + sum (suc j) (wide (s ∷ ss)) ≡ n + length s.components + sum j (wide ss) = omega (arith, sum_front j (wide (s ∷ ss))) in
    ap (λ (x : ℕ). entry sample_part (sample_from (get_or ss j no_sample) x)) a)
    ∙ samples_index (n + length s.components) ss)

-- ---- of Content

module _ (c : Content) where
  pub all_samples_lem : all_samples c ≡ samples_in c.parameters
  unfolding all_samples
  all_samples_lem = samples_flat c.parameters

  pub all_components_lem : all_components c ≡ components_in (samples_in c.parameters)
  unfolding all_components
  all_components_lem = components_flat (all_samples c) ∙ ap components_in all_samples_lem

  pub samples_listed : samples c ≡ length (all_samples c)
  unfolding all_samples first_sample
  samples_listed = sym (length_flat (parameters c) (λ i. (parameter c i).samples))

  components_long : components c ≡ length (all_components c)
  unfolding all_components first_component wide
  components_long = ap (λ (n : ℕ). sum n (wide (all_samples c))) samples_listed ∙ sym (length_flat (length (all_samples c)) (λ j. (get_or (all_samples c) j no_sample).components))

  parameters_part : flat (parameters c) (λ i. entry parameter_part (parameter_values c i)) ≡ parameter_bytes 0 0 c.parameters
  unfolding parameter_values parameter_from text_start first_sample long many
  parameters_part =
      flat_same (parameters c) (λ i. entry parameter_part (parameter_values c i))
      (λ i. entry parameter_part (parameter_from (get_or c.parameters i no_parameter) (0 + sum i (long c.parameters)) (0 + sum i (many c.parameters))))
      (λ i h.
      let a : sum i (long c.parameters) ≡ 0 + sum i (long c.parameters) = omega arith in
      let b : sum i (many c.parameters) ≡ 0 + sum i (many c.parameters) = omega arith in
      ap₂ (λ (x y : ℕ). entry parameter_part (parameter_from (get_or c.parameters i no_parameter) x y)) a b)
      ∙ parameters_index 0 0 c.parameters

  samples_part : flat (samples c) (λ j. entry sample_part (sample_values c j)) ≡ sample_bytes 0 (samples_in c.parameters)
  unfolding sample_values sample_from first_component wide
  samples_part =
      ap (λ (n : ℕ). flat n (λ j. entry sample_part (sample_values c j))) samples_listed
      ∙ flat_same (length (all_samples c)) (λ j. entry sample_part (sample_values c j))
      (λ j. entry sample_part (sample_from (get_or (all_samples c) j no_sample) (0 + sum j (wide (all_samples c)))))
      (λ j h.
      let a : sum j (wide (all_samples c)) ≡ 0 + sum j (wide (all_samples c)) = omega arith in
      ap (λ (x : ℕ). entry sample_part (sample_from (get_or (all_samples c) j no_sample) x)) a)
      ∙ (samples_index 0 (all_samples c) ∙ ap (sample_bytes 0) all_samples_lem)

  components_part : flat (components c) (λ k. entry component_part (component_values (get_or (all_components c) k no_component))) ≡ component_bytes (components_in (samples_in c.parameters))
  components_part =
      ap (λ (n : ℕ). flat n (λ k. entry component_part (component_values (get_or (all_components c) k no_component)))) components_long
      ∙ (components_index (all_components c) ∙ ap component_bytes all_components_lem)

  -- four parts, one after the other
  four : (f : ℕ → List ℕ) (r : List ℕ) → flat parts f ++ r ≡ f subframe_part ++ (f parameter_part ++ (f sample_part ++ (f component_part ++ r)))
  four f r = simp append_assoc

  laid_parts : laid new_layout (numbers_of new_layout newest c) ≡ header_of c ++ flat parts (row_bytes new_layout (numbers_of new_layout newest c))
  unfolding laid
  laid_parts = ap (λ (n : ℕ). header_of c ++ flat n (row_bytes new_layout (numbers_of new_layout newest c))) (known_sound newest known_newest).many

  -- the writing, part by part
  pub written : write newest c ≡ header_of c ++ (subframe_bytes c.subframes ++ (parameter_bytes 0 0 c.parameters ++ (sample_bytes 0 (samples_in c.parameters) ++ (component_bytes (components_in (samples_in c.parameters)) ++ text_bytes c.parameters))))
  unfolding write row_bytes head_values
  written =
      let t = flat (parameters c) (λ i. texts (parameter c i)) in
      ap (λ (l : List ℕ). l ++ t) laid_parts
      ∙ append_assoc (header_of c) (flat parts (row_bytes new_layout (numbers_of new_layout newest c))) t
      ∙ ap (λ (l : List ℕ). header_of c ++ l)
      (four (row_bytes new_layout (numbers_of new_layout newest c)) t
      ∙ ap₂ ◌++◌ (subframes_index c.subframes)
      (ap₂ ◌++◌ parameters_part (ap₂ ◌++◌ samples_part (ap₂ ◌++◌ components_part (texts_index c.parameters)))))
