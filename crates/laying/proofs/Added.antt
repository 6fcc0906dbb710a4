-- What a line adds to all samples, all components and all text. Assumes nothing.
use mathlib.Core.Path.{◌≡◌, sym, ap, ◌∙◌}
use mathlib.Core.List.{List, [], ◌∷◌, ◌++◌, append_assoc}
use Prim.Native.Nat.{ℕ}
use Rattle.lineforms.specs.Said.{time_in}
use Rattle.lineforms.specs.declared.due.Form.{Form}
use Rattle.lineforms.specs.declared.due.Form.TheVariants as form
use Rattle.model.specs.Content.{Parameter, Sample, Component}
use Rattle.model.specs.Write.{texts}
use Rattle.gather.specs.Book.{Book, grow, component_of, named_of}
use Rattle.laying.specs.Parts.{text_bytes, samples_in, components_in, samples_all, components_all, text_all}
use Rattle.laying.proofs.Fronts.{nil_end}
use Rattle.laying.proofs.Grown.{text_more, samples_more, components_more}
use Rattle.laying.proofs.Clear.{ClearAt}

abbrev pub added_samples : Form → List ℕ → Book → List Sample
added_samples form.Stray l K = []
added_samples form.Superframe l K = []
added_samples form.HeaderWord l K = []
added_samples form.HeaderLine l K = []
added_samples form.RecordWord l K = []
added_samples form.RecordLine l K = []
added_samples form.NoneWord l K = []
added_samples form.ParameterWord l K = []
added_samples form.NameLine l K = []
added_samples form.OpeningComponent l K = []
added_samples form.ComponentLine l K = []
added_samples form.TimeLine l K = record { time = time_in l; components = K.parts } ∷ []
added_samples form.SamplesEnd l K = []
added_samples form.SignedLine l K = []
added_samples form.RangeLine l K = []
added_samples form.SourceLine l K = []
added_samples form.LabelLine l K = []
added_samples form.SourceEnd l K = []
added_samples form.ParameterEnd l K = []

abbrev pub added_components : Form → List ℕ → List Component
added_components form.Stray l = []
added_components form.Superframe l = []
added_components form.HeaderWord l = []
added_components form.HeaderLine l = []
added_components form.RecordWord l = []
added_components form.RecordLine l = []
added_components form.NoneWord l = []
added_components form.ParameterWord l = []
added_components form.NameLine l = []
added_components form.OpeningComponent l = component_of l ∷ []
added_components form.ComponentLine l = component_of l ∷ []
added_components form.TimeLine l = []
added_components form.SamplesEnd l = []
added_components form.SignedLine l = []
added_components form.RangeLine l = []
added_components form.SourceLine l = []
added_components form.LabelLine l = []
added_components form.SourceEnd l = []
added_components form.ParameterEnd l = []

abbrev pub added_text : Form → List ℕ → List ℕ
added_text form.Stray l = []
added_text form.Superframe l = []
added_text form.HeaderWord l = []
added_text form.HeaderLine l = []
added_text form.RecordWord l = []
added_text form.RecordLine l = []
added_text form.NoneWord l = []
added_text form.ParameterWord l = []
added_text form.NameLine l = texts (named_of l)
added_text form.OpeningComponent l = []
added_text form.ComponentLine l = []
added_text form.TimeLine l = []
added_text form.SamplesEnd l = []
added_text form.SignedLine l = []
added_text form.RangeLine l = []
added_text form.SourceLine l = []
added_text form.LabelLine l = []
added_text form.SourceEnd l = []
added_text form.ParameterEnd l = []

pub samples_added : (f : Form) (l : List ℕ) (K : Book) → ClearAt f K → samples_all (grow f l K) ≡ samples_all K ++ added_samples f l K
samples_added form.Stray l K h = sym (nil_end (samples_all K))
samples_added form.Superframe l K h = sym (nil_end (samples_all K))
samples_added form.HeaderWord l K h = sym (nil_end (samples_all K))
samples_added form.HeaderLine l K h = sym (nil_end (samples_all K))
samples_added form.RecordWord l K h = sym (nil_end (samples_all K))
samples_added form.RecordLine l K h = sym (nil_end (samples_all K))
samples_added form.NoneWord l K h = sym (nil_end (samples_all K))
samples_added form.ParameterWord l K h = sym (nil_end (samples_all K))
samples_added form.NameLine l K h = rw h (sym (nil_end (samples_in K.parameters ++ [])))
samples_added form.OpeningComponent l K h = sym (nil_end (samples_all K))
samples_added form.ComponentLine l K h = sym (nil_end (samples_all K))
samples_added form.TimeLine l K h = sym (append_assoc (samples_in K.parameters) K.opened.samples (record { time = time_in l; components = K.parts } ∷ []))
samples_added form.SamplesEnd l K h = sym (nil_end (samples_all K))
samples_added form.SignedLine l K h = sym (nil_end (samples_all K))
samples_added form.RangeLine l K h = sym (nil_end (samples_all K))
samples_added form.SourceLine l K h = sym (nil_end (samples_all K))
samples_added form.LabelLine l K h = sym (nil_end (samples_all K))
samples_added form.SourceEnd l K h = sym (nil_end (samples_all K))
samples_added form.ParameterEnd l K h = ap (λ (x : List Sample). x ++ []) (samples_more K.parameters K.opened)

pub components_added : (f : Form) (l : List ℕ) (K : Book) → ClearAt f K → components_all (grow f l K) ≡ components_all K ++ added_components f l
components_added form.Stray l K h = sym (nil_end (components_all K))
components_added form.Superframe l K h = sym (nil_end (components_all K))
components_added form.HeaderWord l K h = sym (nil_end (components_all K))
components_added form.HeaderLine l K h = sym (nil_end (components_all K))
components_added form.RecordWord l K h = sym (nil_end (components_all K))
components_added form.RecordLine l K h = sym (nil_end (components_all K))
components_added form.NoneWord l K h = sym (nil_end (components_all K))
components_added form.ParameterWord l K h = sym (nil_end (components_all K))
components_added form.NameLine l K h = ap (λ (x : List Sample). components_in x ++ K.parts) (samples_added form.NameLine l K h ∙ nil_end (samples_all K)) ∙ sym (nil_end (components_all K))
components_added form.OpeningComponent l K h = sym (append_assoc (components_in (samples_all K)) K.parts (component_of l ∷ []))
components_added form.ComponentLine l K h = sym (append_assoc (components_in (samples_all K)) K.parts (component_of l ∷ []))
components_added form.TimeLine l K h = ap (λ (x : List Component). x ++ []) (ap components_in (samples_added form.TimeLine l K tt) ∙ components_more (samples_all K) (record { time = time_in l; components = K.parts }))
components_added form.SamplesEnd l K h = sym (nil_end (components_all K))
components_added form.SignedLine l K h = sym (nil_end (components_all K))
components_added form.RangeLine l K h = sym (nil_end (components_all K))
components_added form.SourceLine l K h = sym (nil_end (components_all K))
components_added form.LabelLine l K h = sym (nil_end (components_all K))
components_added form.SourceEnd l K h = sym (nil_end (components_all K))
components_added form.ParameterEnd l K h = ap (λ (x : List Sample). components_in x ++ K.parts) (samples_added form.ParameterEnd l K tt ∙ nil_end (samples_all K)) ∙ sym (nil_end (components_all K))

pub text_added : (f : Form) (l : List ℕ) (K : Book) → ClearAt f K → text_all (grow f l K) ≡ text_all K ++ added_text f l
unfolding texts
text_added form.Stray l K h = sym (nil_end (text_all K))
text_added form.Superframe l K h = sym (nil_end (text_all K))
text_added form.HeaderWord l K h = sym (nil_end (text_all K))
text_added form.HeaderLine l K h = sym (nil_end (text_all K))
text_added form.RecordWord l K h = sym (nil_end (text_all K))
text_added form.RecordLine l K h = sym (nil_end (text_all K))
text_added form.NoneWord l K h = sym (nil_end (text_all K))
text_added form.ParameterWord l K h = sym (nil_end (text_all K))
text_added form.NameLine l K h =
    sym (ap (λ (x : List ℕ). x ++ texts (named_of l)) (ap (λ (p : Parameter). text_bytes K.parameters ++ texts p) h ∙ nil_end (text_bytes K.parameters)))
text_added form.OpeningComponent l K h = sym (nil_end (text_all K))
text_added form.ComponentLine l K h = sym (nil_end (text_all K))
text_added form.TimeLine l K h = sym (nil_end (text_all K))
text_added form.SamplesEnd l K h = sym (nil_end (text_all K))
text_added form.SignedLine l K h = sym (nil_end (text_all K))
text_added form.RangeLine l K h = sym (nil_end (text_all K))
text_added form.SourceLine l K h = sym (nil_end (text_all K))
text_added form.LabelLine l K h = sym (nil_end (text_all K))
text_added form.SourceEnd l K h = sym (nil_end (text_all K))
text_added form.ParameterEnd l K h = ap (λ (x : List ℕ). x ++ []) (text_more K.parameters K.opened)
