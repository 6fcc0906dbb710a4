-- Not part of the meaning: the parts of a new table along the lists of what was gathered, so that a line's share stands at
-- the end of its part. Where an item stands in its entry is the newest form's matter.
use Rattle.std.specs.Prelude.{ℕ, ◌+◌, ◌≤◌, List, [], ◌∷◌, ◌++◌, cond, eqb, length, get_or}
use Rattle.lay.specs.Below.{flat}
use Rattle.lay.specs.Bytes.{put}
use Rattle.lay.specs.Slots.{span, entry_bytes}
use Rattle.lay.specs.Layout.{Layout, slots_of}
use Rattle.model.specs.Content.{Content, Subframe, Parameter, Sample, Component}
use Rattle.model.specs.Items.{subframe_part, parameter_part, sample_part, component_part}
use Rattle.model.specs.Forms.{newest, layout_of}
use Rattle.model.specs.Write.{texts, head_values, subframe_values, parameter_from, sample_from, component_values}
use Rattle.gather.specs.Book.{Book}

abbrev pub new_layout : Layout
new_layout = layout_of newest

-- how many bytes an entry of part p takes, and the entry of these values
abbrev pub size : ℕ → ℕ
size p = span (slots_of new_layout p)

abbrev pub entry : ℕ → List ℕ → List ℕ
entry p xs = entry_bytes (slots_of new_layout p) (λ k. get_or xs k 0)

-- the header of these values
abbrev pub head_size : ℕ
head_size = span new_layout.header

abbrev pub header : List ℕ → List ℕ
header xs = entry_bytes new_layout.header (λ k. get_or xs k 0)

abbrev pub header_of : Content → List ℕ
header_of c = header (head_values new_layout newest c)

unfoldable pub subframe_bytes : List Subframe → List ℕ
subframe_bytes [] = []
subframe_bytes (f ∷ fs) = entry subframe_part (subframe_values f) ++ subframe_bytes fs

unfoldable pub parameter_bytes : ℕ → ℕ → List Parameter → List ℕ
parameter_bytes t q [] = []
parameter_bytes t q (p ∷ ps) =
    entry parameter_part (parameter_from p t q) ++ parameter_bytes (t + length (texts p)) (q + length p.samples) ps

unfoldable pub sample_bytes : ℕ → List Sample → List ℕ
sample_bytes n [] = []
sample_bytes n (s ∷ ss) = entry sample_part (sample_from s n) ++ sample_bytes (n + length s.components) ss

unfoldable pub component_bytes : List Component → List ℕ
component_bytes [] = []
component_bytes (c ∷ cs) = entry component_part (component_values c) ++ component_bytes cs

unfoldable pub text_bytes : List Parameter → List ℕ
text_bytes [] = []
text_bytes (p ∷ ps) = texts p ++ text_bytes ps

-- all samples of parameters, all components of samples
unfoldable pub samples_in : List Parameter → List Sample
samples_in [] = []
samples_in (p ∷ ps) = p.samples ++ samples_in ps

unfoldable pub components_in : List Sample → List Component
components_in [] = []
components_in (s ∷ ss) = s.components ++ components_in ss

-- one record pair so many times: once for each subframe where it stands for all
abbrev pub copied : ℕ → Subframe → List ℕ
copied n f = flat n (λ i. entry subframe_part (subframe_values f))

unfoldable pub copies_bytes : ℕ → List Subframe → List ℕ
copies_bytes n [] = []
copies_bytes n (f ∷ fs) = copied n f ++ copies_bytes n fs

-- how many times, with so many pairs in all
abbrev pub copies : ℕ → ℕ → ℕ
copies pairs declared = cond (eqb pairs 1) declared 1

-- all samples, all components and all text of what was gathered, the open ones too
abbrev pub samples_all : Book → List Sample
samples_all K = samples_in K.parameters ++ K.opened.samples

abbrev pub components_all : Book → List Component
components_all K = components_in (samples_all K) ++ K.parts

abbrev pub text_all : Book → List ℕ
text_all K = text_bytes K.parameters ++ texts K.opened

-- ---- a table in the making

-- where the parts begin
pub record Places : Type 0 where
  pub subframes : ℕ
  pub parameters : ℕ
  pub samples : ℕ
  pub components : ℕ
  pub text : ℕ

-- out with all that was gathered laid down, each pair n times
abbrev pub laid : List ℕ → Places → ℕ → Book → List ℕ
laid out a n K =
    put (put (put (put (put out a.subframes (copies_bytes n K.pairs))
    a.parameters (parameter_bytes 0 0 K.parameters))
    a.samples (sample_bytes 0 (samples_all K)))
    a.components (component_bytes (components_all K)))
    a.text (text_all K)

-- each part ends before the next begins
pub record Fits (a : Places) (n : ℕ) (K : Book) (long : ℕ) : Type 0 where
  pub subframes : a.subframes + length (copies_bytes n K.pairs) ≤ a.parameters
  pub parameters : a.parameters + length (parameter_bytes 0 0 K.parameters) ≤ a.samples
  pub samples : a.samples + length (sample_bytes 0 (samples_all K)) ≤ a.components
  pub components : a.components + length (component_bytes (components_all K)) ≤ a.text
  pub text : a.text + length (text_all K) ≤ long
