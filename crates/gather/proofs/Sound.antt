-- What is known of a Book where something is due, and where a line has turned out to be something. Assumes nothing.
use mathlib.Core.Path.{◌≡◌}
use mathlib.Core.Bool.{Bool, false}
use mathlib.Core.List.{List, []}
use Prim.Native.Nat.{ℕ, ◌≤◌, ◌<◌}
use lib.ListN.{length, get_or}
use Rattle.sample.specs.Clash.{twice}
use Rattle.lineforms.specs.declared.due.Due.{Due}
use Rattle.lineforms.specs.declared.due.Due.TheVariants as due
use Rattle.lineforms.specs.declared.due.Form.{Form}
use Rattle.lineforms.specs.declared.due.Form.TheVariants as form
use Rattle.model.specs.Content.{Parameter, Sample, Subframe, no_subframe, no_parameter, no_sample, no_component}
use Rattle.model.specs.Forms.{sheet_limits}
use Rattle.model.specs.Samples.{width_of}
use Rattle.model.specs.Meaning.{SubframeLaw, ComponentLaw, SampleLaw, TextLaw, ParameterLaw, NamedApart}
use Rattle.gather.specs.Book.{Book, spread, samples_of, all_components_of, samples_so_far, components_so_far}
use Rattle.gather.specs.Tests.{spots, given}
use Rattle.gather.proofs.Rows.{Each}
use Rattle.gather.proofs.Joinings.{Followed}

-- the subframes that the record pairs stand for
abbrev pub subs_of : Book → List Subframe
subs_of K = spread K.declared K.pairs

-- ---- before the header line, and before the first parameter

pub record Fresh (K : Book) : Type 0 where
  pub no_pairs : K.pairs ≡ []
  pub no_parameters : K.parameters ≡ []
  pub no_parts : K.parts ≡ []

pub record Headed (K : Book) : Type 0 where
  pub some : 1 ≤ K.declared
  pub few : K.declared ≤ sheet_limits.subframes
  pub each : Each (SubframeLaw sheet_limits) no_subframe K.pairs
  pub no_parameters : K.parameters ≡ []
  pub no_parts : K.parts ≡ []

-- ---- between parameters

-- s subframes, each within its limits
pub record Ground (s : ℕ) (subs : List Subframe) : Type 0 where
  pub some : 1 ≤ s
  pub few : s ≤ sheet_limits.subframes
  pub long : length subs ≡ s
  pub each : Each (SubframeLaw sheet_limits) no_subframe subs

-- whole parameters
pub record Whole (subs : List Subframe) (ps : List Parameter) : Type 0 where
  pub few : length ps ≤ sheet_limits.parameters
  pub each : Each (ParameterLaw sheet_limits subs) no_parameter ps
  pub apart : (i k : ℕ) → i < length ps → k < i → NamedApart (get_or ps k no_parameter) (get_or ps i no_parameter)

pub record Between (K : Book) : Type 0 where
  pub ground : Ground K.declared (subs_of K)
  pub whole : Whole (subs_of K) K.parameters
  pub no_parts : K.parts ≡ []
  pub few_samples : samples_of K.parameters ≤ sheet_limits.samples
  pub few_components : all_components_of K.parameters ≤ sheet_limits.components

-- ---- in a parameter

-- a parameter of which only the texts are known
abbrev texted : List ℕ → List ℕ → List ℕ → Parameter
texted a b c =
    record { name = a; mnemonic = b; identification = c; signed = false; identifier = false; value = 0; samples = [] }

pub record Names (ps : List Parameter) (a b c : List ℕ) : Type 0 where
  pub named : 1 ≤ length a
  pub name : TextLaw sheet_limits a
  pub mnemonic : TextLaw sheet_limits b
  pub identification : TextLaw sheet_limits c
  pub apart : Each (λ p. NamedApart p (texted a b c)) no_parameter ps

pub record Valued (identifier : Bool) (value : ℕ) : Type 0 where
  pub plain : identifier ≡ false → value ≡ 0
  pub few : value ≤ sheet_limits.value

-- whole samples, of one width
pub record Sampled (subs : List Subframe) (ss : List Sample) : Type 0 where
  pub few : length ss ≤ sheet_limits.samples_each
  pub each : Each (SampleLaw sheet_limits subs) no_sample ss
  pub alike : Each (λ s. width_of subs s ≡ width_of subs (get_or ss 0 no_sample)) no_sample ss

pub record Opened (K : Book) : Type 0 where
  pub ground : Ground K.declared (subs_of K)
  pub whole : Whole (subs_of K) K.parameters
  pub room : length K.parameters < sheet_limits.parameters
  pub names : Names K.parameters K.opened.name K.opened.mnemonic K.opened.identification
  pub value : Valued K.opened.identifier K.opened.value
  pub samples : Sampled (subs_of K) K.opened.samples
  pub few_samples : samples_so_far K ≤ sheet_limits.samples
  pub few_components : components_so_far K ≤ sheet_limits.components

-- a sample is open, and there is room for it
pub record Parted (K : Book) : Type 0 where
  pub some : 1 ≤ length K.parts
  pub few : length K.parts ≤ sheet_limits.components_each
  pub each : Each (ComponentLaw (subs_of K)) no_component K.parts
  pub next : Followed K.parts
  pub once : twice (spots K.parts) ≡ false
  pub narrow : given K.parts ≤ sheet_limits.width
  pub room_each : length K.opened.samples < sheet_limits.samples_each
  pub room : samples_so_far K < sheet_limits.samples

-- no sample is open
pub record Closed (K : Book) : Type 0 where
  pub opened : Opened K
  pub no_parts : K.parts ≡ []

-- and there is a whole one
pub record Filled (K : Book) : Type 0 where
  pub closed : Closed K
  pub some : 1 ≤ length K.opened.samples

pub record Named (K : Book) : Type 0 where
  pub between : Between K
  pub room : length K.parameters < sheet_limits.parameters

pub record Joined (K : Book) : Type 0 where
  pub opened : Opened K
  pub parted : Parted K

-- ---- where something is due

abbrev pub Sound : Due → Book → Type 0
Sound due.HeaderWord K = Fresh K
Sound due.HeaderLine K = Fresh K
Sound due.RecordWord K = Headed K
Sound due.RecordLine K = Headed K
Sound due.Opening K = Headed K
Sound due.NameLine K = Named K
Sound due.FirstComponent K = Closed K
Sound due.NextComponent K = Joined K
Sound due.AfterSample K = Filled K
Sound due.SignedLine K = Filled K
Sound due.RangeLine K = Filled K
Sound due.SourceLine K = Filled K
Sound due.AfterSource K = Filled K
Sound due.SourceBlank K = Filled K
Sound due.AfterSourceBlank K = Filled K
Sound due.NextParameter K = Between K
Sound due.Nothing K = Between K

-- ---- where a line has turned out to be something; a stray line tells nothing

abbrev pub Told : Form → Book → Type 0
Told form.Stray K = Unit {0}
Told form.Superframe K = Unit {0}
Told form.HeaderWord K = Fresh K
Told form.HeaderLine K = Fresh K
Told form.RecordWord K = Headed K
Told form.RecordLine K = Headed K
Told form.NoneWord K = Between K
Told form.ParameterWord K = Between K
Told form.NameLine K = Named K
Told form.OpeningComponent K = Closed K
Told form.ComponentLine K = Joined K
Told form.TimeLine K = Joined K
Told form.SamplesEnd K = Filled K
Told form.SignedLine K = Filled K
Told form.RangeLine K = Filled K
Told form.SourceLine K = Filled K
Told form.LabelLine K = Filled K
Told form.SourceEnd K = Filled K
Told form.ParameterEnd K = Filled K
