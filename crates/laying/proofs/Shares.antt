-- What a line writes, and that it lays down what the line adds. Assumes nothing.
use mathlib.Core.Path.{◌≡◌, refl, sym, ap, ◌∙◌}
use mathlib.Core.List.{List, [], ◌∷◌, ◌++◌}
use Prim.Native.Nat.{ℕ, ◌+◌, ◌≤◌}
use native.Mathlib.Omega.{arith}
use lib.ListN.{length, length-append}
use Rattle.lay.specs.Bytes.{put}
use Rattle.lineforms.specs.Said.{time_in}
use Rattle.lineforms.specs.declared.due.Form.{Form}
use Rattle.lineforms.specs.declared.due.Form.TheVariants as form
use Rattle.model.specs.Content.{Sample}
use Rattle.model.specs.Items.{parameter_part, sample_part, component_part}
use Rattle.model.specs.Write.{texts, component_values, parameter_from, sample_from}
use Rattle.gather.specs.Book.{Book, grow, subframe_of, component_of, named_of, samples_of, components_of}
use Rattle.laying.specs.Parts.{entry, copied, copies_bytes, parameter_bytes, sample_bytes, component_bytes, samples_all, components_all, text_all, Places, laid, Fits}
use Rattle.laying.proofs.Fronts.{nil_end}
use Rattle.laying.proofs.Grown.{copies_more, component_more, sample_more, parameter_more, text_long}
use Rattle.laying.proofs.Clear.{ClearAt}
use Rattle.laying.proofs.Added.{samples_added, components_added, text_added}
use Rattle.laying.proofs.Laid.{five, first_grows, second_grows, third_grows, fourth_grows, last_grows}

-- the sample that a time line closes
abbrev pub timed : List ℕ → Book → Sample
timed l K = record { time = time_in l; components = K.parts }

-- what a line writes, each at the end of its part
abbrev pub emitted : Form → List ℕ → Book → Places → ℕ → List ℕ → List ℕ
emitted form.Stray l K a n out = out
emitted form.Superframe l K a n out = out
emitted form.HeaderWord l K a n out = out
emitted form.HeaderLine l K a n out = out
emitted form.RecordWord l K a n out = out
emitted form.RecordLine l K a n out = put out (a.subframes + length (copies_bytes n K.pairs)) (copied n (subframe_of l))
emitted form.NoneWord l K a n out = out
emitted form.ParameterWord l K a n out = out
emitted form.NameLine l K a n out = put out (a.text + length (text_all K)) (texts (named_of l))
emitted form.OpeningComponent l K a n out = put out (a.components + length (component_bytes (components_all K))) (entry component_part (component_values (component_of l)))
emitted form.ComponentLine l K a n out = put out (a.components + length (component_bytes (components_all K))) (entry component_part (component_values (component_of l)))
emitted form.TimeLine l K a n out = put out (a.samples + length (sample_bytes 0 (samples_all K))) (entry sample_part (sample_from (timed l K) (0 + components_of (samples_all K))))
emitted form.SamplesEnd l K a n out = out
emitted form.SignedLine l K a n out = out
emitted form.RangeLine l K a n out = out
emitted form.SourceLine l K a n out = out
emitted form.LabelLine l K a n out = out
emitted form.SourceEnd l K a n out = out
emitted form.ParameterEnd l K a n out = put out (a.parameters + length (parameter_bytes 0 0 K.parameters)) (entry parameter_part (parameter_from K.opened (0 + text_long K.parameters) (0 + samples_of K.parameters)))

-- room for a share: the part and the share are the part grown
room : (o m : ℕ) (x z w : List ℕ) → x ++ z ≡ w → o + length w ≤ m → (o + length x) + length z ≤ m
room o m x z w e h = omega (arith, ap length e, length-append x z)

module _ (out : List ℕ) (a : Places) (n : ℕ) (K : Book) (l : List ℕ) (h : Fits a n K (length out)) where
  same_samples : (f : Form) → samples_all K ++ [] ≡ samples_all (grow f l K) → sample_bytes 0 (samples_all K) ≡ sample_bytes 0 (samples_all (grow f l K))
  same_samples f e = ap (sample_bytes 0) (sym (nil_end (samples_all K)) ∙ e)

  same_components : (f : Form) → components_all K ++ [] ≡ components_all (grow f l K) → component_bytes (components_all K) ≡ component_bytes (components_all (grow f l K))
  same_components f e = ap component_bytes (sym (nil_end (components_all K)) ∙ e)

  -- the five parts, with other lists in them
  abbrev parts : List ℕ → List ℕ → List ℕ → List ℕ → List ℕ → List ℕ
  parts u v w x y = five out a.subframes u a.parameters v a.samples w a.components x a.text y

  record_laid : Fits a n (grow form.RecordLine l K) (length out) → emitted form.RecordLine l K a n (laid out a n K) ≡ laid out a n (grow form.RecordLine l K)
  record_laid g =
      let z = copied n (subframe_of l) in
      let e = sym (copies_more n K.pairs (subframe_of l)) in
      first_grows out a.subframes a.parameters a.samples a.components a.text
      (copies_bytes n K.pairs) (parameter_bytes 0 0 K.parameters) (sample_bytes 0 (samples_all K)) (component_bytes (components_all K)) (text_all K)
      h.subframes h.parameters h.samples h.components h.text
      z (a.subframes + length (copies_bytes n K.pairs)) refl (room a.subframes a.parameters (copies_bytes n K.pairs) z (copies_bytes n (grow form.RecordLine l K).pairs) e g.subframes)
      ∙ ap (λ (u : List ℕ). parts u (parameter_bytes 0 0 K.parameters) (sample_bytes 0 (samples_all K)) (component_bytes (components_all K)) (text_all K)) e

  -- a component line of either kind adds the same
  part_laid : components_all K ++ (component_of l ∷ []) ≡ components_all (grow form.ComponentLine l K) → Fits a n (grow form.ComponentLine l K) (length out) → emitted form.ComponentLine l K a n (laid out a n K) ≡ laid out a n (grow form.ComponentLine l K)
  part_laid i g =
      let z = entry component_part (component_values (component_of l)) in
      let e = sym (component_more (components_all K) (component_of l)) ∙ ap component_bytes i in
      fourth_grows out a.subframes a.parameters a.samples a.components a.text
      (copies_bytes n K.pairs) (parameter_bytes 0 0 K.parameters) (sample_bytes 0 (samples_all K)) (component_bytes (components_all K)) (text_all K)
      h.subframes h.parameters h.samples h.components h.text
      z (a.components + length (component_bytes (components_all K))) refl (room a.components a.text (component_bytes (components_all K)) z (component_bytes (components_all (grow form.ComponentLine l K))) e g.components)
      ∙ ap (λ (x : List ℕ). parts (copies_bytes n K.pairs) (parameter_bytes 0 0 K.parameters) (sample_bytes 0 (samples_all K)) x (text_all K)) e

  time_laid : Fits a n (grow form.TimeLine l K) (length out) → emitted form.TimeLine l K a n (laid out a n K) ≡ laid out a n (grow form.TimeLine l K)
  unfolding texts
  time_laid g =
      let z = entry sample_part (sample_from (timed l K) (0 + components_of (samples_all K))) in
      let e = sym (sample_more 0 (samples_all K) (timed l K)) ∙ ap (sample_bytes 0) (sym (samples_added form.TimeLine l K tt)) in
      let d = same_components form.TimeLine (sym (components_added form.TimeLine l K tt)) in
      third_grows out a.subframes a.parameters a.samples a.components a.text
      (copies_bytes n K.pairs) (parameter_bytes 0 0 K.parameters) (sample_bytes 0 (samples_all K)) (component_bytes (components_all K)) (text_all K)
      h.subframes h.parameters h.samples h.components h.text
      z (a.samples + length (sample_bytes 0 (samples_all K))) refl (room a.samples a.components (sample_bytes 0 (samples_all K)) z (sample_bytes 0 (samples_all (grow form.TimeLine l K))) e g.samples)
      ∙ (ap (λ (w : List ℕ). parts (copies_bytes n K.pairs) (parameter_bytes 0 0 K.parameters) w (component_bytes (components_all K)) (text_all K)) e
      ∙ ap (λ (x : List ℕ). parts (copies_bytes n K.pairs) (parameter_bytes 0 0 K.parameters) (sample_bytes 0 (samples_all (grow form.TimeLine l K))) x (text_all K)) d)

  name_laid : ClearAt form.NameLine K → Fits a n (grow form.NameLine l K) (length out) → emitted form.NameLine l K a n (laid out a n K) ≡ laid out a n (grow form.NameLine l K)
  name_laid c g =
      let z = texts (named_of l) in
      let e = sym (text_added form.NameLine l K c) in
      let d = same_components form.NameLine (sym (components_added form.NameLine l K c)) in
      let b = same_samples form.NameLine (sym (samples_added form.NameLine l K c)) in
      last_grows out a.subframes a.parameters a.samples a.components a.text
      (copies_bytes n K.pairs) (parameter_bytes 0 0 K.parameters) (sample_bytes 0 (samples_all K)) (component_bytes (components_all K)) (text_all K)
      h.subframes h.parameters h.samples h.components h.text
      z (a.text + length (text_all K)) refl (room a.text (length out) (text_all K) z (text_all (grow form.NameLine l K)) e g.text)
      ∙ (ap (λ (y : List ℕ). parts (copies_bytes n K.pairs) (parameter_bytes 0 0 K.parameters) (sample_bytes 0 (samples_all K)) (component_bytes (components_all K)) y) e
      ∙ (ap (λ (x : List ℕ). parts (copies_bytes n K.pairs) (parameter_bytes 0 0 K.parameters) (sample_bytes 0 (samples_all K)) x (text_all (grow form.NameLine l K))) d
      ∙ ap (λ (w : List ℕ). parts (copies_bytes n K.pairs) (parameter_bytes 0 0 K.parameters) w (component_bytes (components_all (grow form.NameLine l K))) (text_all (grow form.NameLine l K))) b))

  end_laid : Fits a n (grow form.ParameterEnd l K) (length out) → emitted form.ParameterEnd l K a n (laid out a n K) ≡ laid out a n (grow form.ParameterEnd l K)
  end_laid g =
      let G = grow form.ParameterEnd l K in
      let z = entry parameter_part (parameter_from K.opened (0 + text_long K.parameters) (0 + samples_of K.parameters)) in
      let e = sym (parameter_more 0 0 K.parameters K.opened) in
      let d = same_components form.ParameterEnd (sym (components_added form.ParameterEnd l K tt)) in
      let b = same_samples form.ParameterEnd (sym (samples_added form.ParameterEnd l K tt)) in
      let t = sym (nil_end (text_all K)) ∙ sym (text_added form.ParameterEnd l K tt) in
      second_grows out a.subframes a.parameters a.samples a.components a.text
      (copies_bytes n K.pairs) (parameter_bytes 0 0 K.parameters) (sample_bytes 0 (samples_all K)) (component_bytes (components_all K)) (text_all K)
      h.subframes h.parameters h.samples h.components h.text
      z (a.parameters + length (parameter_bytes 0 0 K.parameters)) refl (room a.parameters a.samples (parameter_bytes 0 0 K.parameters) z (parameter_bytes 0 0 G.parameters) e g.parameters)
      ∙ (ap (λ (v : List ℕ). parts (copies_bytes n K.pairs) v (sample_bytes 0 (samples_all K)) (component_bytes (components_all K)) (text_all K)) e
      ∙ (ap (λ (y : List ℕ). parts (copies_bytes n K.pairs) (parameter_bytes 0 0 G.parameters) (sample_bytes 0 (samples_all K)) (component_bytes (components_all K)) y) t
      ∙ (ap (λ (x : List ℕ). parts (copies_bytes n K.pairs) (parameter_bytes 0 0 G.parameters) (sample_bytes 0 (samples_all K)) x (text_all G)) d
      ∙ ap (λ (w : List ℕ). parts (copies_bytes n K.pairs) (parameter_bytes 0 0 G.parameters) w (component_bytes (components_all G)) (text_all G)) b)))

  pub emit_grow : (f : Form) → ClearAt f K → Fits a n (grow f l K) (length out) → emitted f l K a n (laid out a n K) ≡ laid out a n (grow f l K)
  unfolding texts
  emit_grow form.Stray c g = refl
  emit_grow form.Superframe c g = refl
  emit_grow form.HeaderWord c g = refl
  emit_grow form.HeaderLine c g = refl
  emit_grow form.RecordWord c g = refl
  emit_grow form.RecordLine c g = record_laid g
  emit_grow form.NoneWord c g = refl
  emit_grow form.ParameterWord c g = refl
  emit_grow form.NameLine c g = name_laid c g
  emit_grow form.OpeningComponent c g = part_laid (sym (components_added form.ComponentLine l K tt)) g
  emit_grow form.ComponentLine c g = part_laid (sym (components_added form.ComponentLine l K tt)) g
  emit_grow form.TimeLine c g = time_laid g
  emit_grow form.SamplesEnd c g = refl
  emit_grow form.SignedLine c g = refl
  emit_grow form.RangeLine c g = refl
  emit_grow form.SourceLine c g = refl
  emit_grow form.LabelLine c g = refl
  emit_grow form.SourceEnd c g = refl
  emit_grow form.ParameterEnd c g = end_laid g
