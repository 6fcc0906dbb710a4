-- What the code writes by its counts is what the lines lay down. Assumes nothing.
use mathlib.Core.Path.{◌≡◌, refl, sym, ap, ap₂, ◌∙◌}
use mathlib.Core.Logic.{◌⊎◌, inl, inr}
use mathlib.Core.List.{List, [], ◌∷◌, ◌++◌}
use Prim.Native.Nat.{ℕ, ◌+◌, ◌-◌, ◌*◌}
use native.Mathlib.Nat.{mul-zero}
use native.Mathlib.Omega.{arith}
use lib.ListN.{length, length-append}
use Rattle.lay.specs.Bytes.{put}
use Rattle.lineforms.specs.declared.due.Form.{Form}
use Rattle.lineforms.specs.declared.due.Form.TheVariants as form
use Rattle.model.specs.Content.{Parameter, Sample, Subframe, no_parameter}
use Rattle.model.specs.Items.{subframe_part, parameter_part, sample_part, component_part}
use Rattle.model.specs.Write.{texts, component_values, parameter_from, sample_from}
use Rattle.gather.specs.Book.{Book, subframe_of, named_of, component_of, samples_of, components_of, all_components_of}
use Rattle.stored.specs.declared.items.Starts.{Starts}
use Rattle.judge.specs.Counts.{text_of, tally_of}
use Rattle.laying.specs.Parts.{size, entry, copied, copies_bytes, parameter_bytes, text_bytes, samples_in, components_in, samples_all, components_all, text_all}
use Rattle.laying.proofs.Grown.{text_long}
use Rattle.laying.proofs.Lengths.{once_long, parameters_long, samples_long, components_long, texts_long}
use Rattle.laying.proofs.Clear.{ClearAt}
use Rattle.laying.proofs.Shares.{timed, emitted}
use Rattle.maker.specs.Entries.{parameter_by, sample_by}
use Rattle.maker.specs.Emit.{places_of, described_by, emit_of}

-- ---- counts and lengths

pub text_long_lem : (ps : List Parameter) → text_of ps ≡ text_long ps
unfolding text_of text_long texts
text_long_lem [] = refl
text_long_lem (p ∷ ps) =
    omega (arith, length-append p.name (p.mnemonic ++ p.identification), length-append p.mnemonic p.identification, text_long_lem ps)

samples_in_lem : (ps : List Parameter) → length (samples_in ps) ≡ samples_of ps
unfolding samples_in samples_of
samples_in_lem [] = refl
samples_in_lem (p ∷ ps) = omega (arith, length-append p.samples (samples_in ps), samples_in_lem ps)

components_join : (ss ts : List Sample) → components_of (ss ++ ts) ≡ components_of ss + components_of ts
unfolding components_of
components_join [] ts = omega arith
components_join (s ∷ ss) ts = omega (arith, components_join ss ts)

components_in_lem : (ps : List Parameter) → components_of (samples_in ps) ≡ all_components_of ps
unfolding samples_in all_components_of components_of
components_in_lem [] = refl
components_in_lem (p ∷ ps) = omega (arith, components_join p.samples (samples_in ps), components_in_lem ps)

components_listed : (ss : List Sample) → length (components_in ss) ≡ components_of ss
unfolding components_in components_of
components_listed [] = refl
components_listed (s ∷ ss) = omega (arith, length-append s.components (components_in ss), components_listed ss)

module _ (K : Book) where
  pub samples_all_lem : length (samples_all K) ≡ (tally_of K).samples
  samples_all_lem = omega (arith, length-append (samples_in K.parameters) K.opened.samples, samples_in_lem K.parameters)

  before : components_of (samples_all K) ≡ all_components_of K.parameters + components_of K.opened.samples
  before = omega (arith, components_join (samples_in K.parameters) K.opened.samples, components_in_lem K.parameters)

  pub components_all_lem : length (components_all K) ≡ (tally_of K).components
  components_all_lem = omega (arith, length-append (components_in (samples_all K)) K.parts, components_listed (samples_all K), before)

  first_component_lem : components_of (samples_all K) ≡ (tally_of K).components - (tally_of K).parts
  first_component_lem = omega (arith, before)

  first_sample_lem : 0 + samples_of K.parameters ≡ (tally_of K).samples - (tally_of K).own
  first_sample_lem = omega arith

  pub text_clear : K.opened ≡ no_parameter → length (text_all K) ≡ text_of K.parameters
  unfolding texts
  text_clear h =
      omega (arith, length-append (text_bytes K.parameters) (texts K.opened), ap (λ (p : Parameter). length (texts p)) h, texts_long K.parameters, text_long_lem K.parameters)

-- one pair for all is the first; else each is written once
pub copies_at : (n : ℕ) (fs : List Subframe) → (n ≡ 1) ⊎ (fs ≡ []) → length (copies_bytes n fs) ≡ size subframe_part * length fs
unfolding copies_bytes
copies_at n fs (inl e) = ap (λ (m : ℕ). length (copies_bytes m fs)) e ∙ once_long fs
copies_at n fs (inr e) = rw e (sym (mul-zero (size subframe_part)))

-- ---- line by line

-- a record line is due while pairs are missing
abbrev pub Pairing : Form → ℕ → Book → Type 0
Pairing form.Stray n K = Unit {0}
Pairing form.Superframe n K = Unit {0}
Pairing form.HeaderWord n K = Unit {0}
Pairing form.HeaderLine n K = Unit {0}
Pairing form.RecordWord n K = Unit {0}
Pairing form.RecordLine n K = (n ≡ 1) ⊎ (K.pairs ≡ [])
Pairing form.NoneWord n K = Unit {0}
Pairing form.ParameterWord n K = Unit {0}
Pairing form.NameLine n K = Unit {0}
Pairing form.OpeningComponent n K = Unit {0}
Pairing form.ComponentLine n K = Unit {0}
Pairing form.TimeLine n K = Unit {0}
Pairing form.SamplesEnd n K = Unit {0}
Pairing form.SignedLine n K = Unit {0}
Pairing form.RangeLine n K = Unit {0}
Pairing form.SourceLine n K = Unit {0}
Pairing form.LabelLine n K = Unit {0}
Pairing form.SourceEnd n K = Unit {0}
Pairing form.ParameterEnd n K = Unit {0}

module _ (l : List ℕ) (K : Book) (a : Starts) (n : ℕ) (out : List ℕ) where
  record_emitted : (n ≡ 1) ⊎ (K.pairs ≡ []) → emit_of form.RecordLine l (tally_of K) a n out ≡ emitted form.RecordLine l K (places_of a) n out
  record_emitted h = ap (λ (k : ℕ). put out (a.subframes + k) (copied n (subframe_of l))) (sym (copies_at n K.pairs h))

  name_emitted : K.opened ≡ no_parameter → emit_of form.NameLine l (tally_of K) a n out ≡ emitted form.NameLine l K (places_of a) n out
  unfolding texts
  name_emitted h = ap (λ (k : ℕ). put out (a.text + k) (texts (named_of l))) (sym (text_clear K h))

  part_emitted : emit_of form.ComponentLine l (tally_of K) a n out ≡ emitted form.ComponentLine l K (places_of a) n out
  part_emitted =
      let e = components_long (components_all K) ∙ ap (λ (m : ℕ). size component_part * m) (components_all_lem K) in
      ap (λ (k : ℕ). put out (a.components + k) (entry component_part (component_values (component_of l)))) (sym e)

  time_emitted : emit_of form.TimeLine l (tally_of K) a n out ≡ emitted form.TimeLine l K (places_of a) n out
  unfolding sample_by sample_from
  time_emitted =
      let e = samples_long 0 (samples_all K) ∙ ap (λ (m : ℕ). size sample_part * m) (samples_all_lem K) in
      let d : (tally_of K).components - (tally_of K).parts ≡ 0 + components_of (samples_all K) = omega (arith, first_component_lem K) in
      ap₂ (λ (k m : ℕ). put out (a.samples + k) (entry sample_part (sample_from (timed l K) m))) (sym e) d

  end_emitted : emit_of form.ParameterEnd l (tally_of K) a n out ≡ emitted form.ParameterEnd l K (places_of a) n out
  unfolding parameter_by parameter_from
  end_emitted =
      let t : (tally_of K).text ≡ 0 + text_long K.parameters = omega (arith, text_long_lem K.parameters) in
      ap (λ (k : ℕ). put out (a.parameters + k) (entry parameter_part (parameter_by (described_by (tally_of K))))) (sym (parameters_long 0 0 K.parameters))
      ∙ ap₂ (λ (x y : ℕ). put out (a.parameters + length (parameter_bytes 0 0 K.parameters)) (entry parameter_part (parameter_from K.opened x y))) t (sym (first_sample_lem K))

  pub emit_gathered : (f : Form) → ClearAt f K → Pairing f n K → emit_of f l (tally_of K) a n out ≡ emitted f l K (places_of a) n out
  emit_gathered form.Stray c p = refl
  emit_gathered form.Superframe c p = refl
  emit_gathered form.HeaderWord c p = refl
  emit_gathered form.HeaderLine c p = refl
  emit_gathered form.RecordWord c p = refl
  emit_gathered form.RecordLine c p = record_emitted p
  emit_gathered form.NoneWord c p = refl
  emit_gathered form.ParameterWord c p = refl
  emit_gathered form.NameLine c p = name_emitted c
  emit_gathered form.OpeningComponent c p = part_emitted
  emit_gathered form.ComponentLine c p = part_emitted
  emit_gathered form.TimeLine c p = time_emitted
  emit_gathered form.SamplesEnd c p = refl
  emit_gathered form.SignedLine c p = refl
  emit_gathered form.RangeLine c p = refl
  emit_gathered form.SourceLine c p = refl
  emit_gathered form.LabelLine c p = refl
  emit_gathered form.SourceEnd c p = refl
  emit_gathered form.ParameterEnd c p = end_emitted
