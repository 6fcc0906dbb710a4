-- What the lines of a sheet gather to.
use Rattle.std.specs.Prelude.{ℕ, ◌+◌, Bool, false, cond, List, [], ◌∷◌, ◌++◌, eqb, length, get_or}
use Rattle.lay.specs.Below.{tab}
use Rattle.text.specs.Fields.{field_of}
use Rattle.lineforms.specs.Said.{subframes_in, sequential_in, pair_in, identifier_in, part_in, time_in, signed_in, value_in}
use Rattle.lineforms.specs.declared.due.Form.{Form}
use Rattle.lineforms.specs.declared.due.Form.TheVariants.{Stray, Superframe, HeaderWord, HeaderLine, RecordWord, RecordLine, NoneWord, ParameterWord, NameLine, OpeningComponent, ComponentLine, TimeLine, SamplesEnd, SignedLine, RangeLine, SourceLine, LabelLine, SourceEnd, ParameterEnd}
use Rattle.model.specs.Margin.{margin_as}
use Rattle.model.specs.Content.{Content, Parameter, Sample, Component, Subframe, no_subframe, no_parameter}

-- the header's subframe count and flag; the record pairs; the whole parameters; the open one with its whole samples; the
-- components of the open sample
pub record Book : Type 0 where
  pub declared : ℕ
  pub sequential : Bool
  pub pairs : List Subframe
  pub parameters : List Parameter
  pub opened : Parameter
  pub parts : List Component

abbrev pub empty_book : Book
empty_book = record { declared = 0; sequential = false; pairs = []; parameters = []; opened = no_parameter; parts = [] }

-- ---- what a line says, as Content has it

abbrev pub subframe_of : List ℕ → Subframe
subframe_of l =
    record {
      bits = (pair_in l).bits;
      words = (pair_in l).words;
      leading = margin_as (pair_in l).leading;
      trailing = margin_as (pair_in l).trailing;
      numerator = (pair_in l).numerator;
      denominator = (pair_in l).denominator;
    }

abbrev pub component_of : List ℕ → Component
component_of l =
    record {
      subframe = (part_in l).subframe;
      word = (part_in l).word;
      low = (part_in l).low;
      high = (part_in l).high;
      overlap = (part_in l).overlap;
    }

-- a parameter with the names of its 7-field line and nothing else yet
abbrev pub named_of : List ℕ → Parameter
named_of l =
    record {
      name = field_of 0 l;
      mnemonic = field_of 1 l;
      identification = field_of 2 l;
      signed = false;
      identifier = identifier_in l;
      value = 0;
      samples = [];
    }

-- one sample more; signed or not; an identifier's value, else 0
abbrev pub sampled : Parameter → Sample → Parameter
sampled p s =
    record {
      name = p.name;
      mnemonic = p.mnemonic;
      identification = p.identification;
      signed = p.signed;
      identifier = p.identifier;
      value = p.value;
      samples = p.samples ++ (s ∷ []);
    }

abbrev pub signing : Parameter → Bool → Parameter
signing p t =
    record {
      name = p.name;
      mnemonic = p.mnemonic;
      identification = p.identification;
      signed = t;
      identifier = p.identifier;
      value = p.value;
      samples = p.samples;
    }

abbrev pub valued : Parameter → ℕ → Parameter
valued p v =
    record {
      name = p.name;
      mnemonic = p.mnemonic;
      identification = p.identification;
      signed = p.signed;
      identifier = p.identifier;
      value = cond p.identifier v 0;
      samples = p.samples;
    }

-- ---- what a line adds

abbrev pub opening : Book → Parameter → Book
opening K p =
    record {
      declared = K.declared;
      sequential = K.sequential;
      pairs = K.pairs;
      parameters = K.parameters;
      opened = p;
      parts = K.parts;
    }

abbrev pub parting : Book → List Component → Book
parting K cs =
    record {
      declared = K.declared;
      sequential = K.sequential;
      pairs = K.pairs;
      parameters = K.parameters;
      opened = K.opened;
      parts = cs;
    }

abbrev pub grow : Form → List ℕ → Book → Book
grow Stray l K = K
grow Superframe l K = K
grow HeaderWord l K = K
grow HeaderLine l K =
    record {
      declared = subframes_in l;
      sequential = sequential_in l;
      pairs = K.pairs;
      parameters = K.parameters;
      opened = K.opened;
      parts = K.parts;
    }
grow RecordWord l K = K
grow RecordLine l K =
    record {
      declared = K.declared;
      sequential = K.sequential;
      pairs = K.pairs ++ (subframe_of l ∷ []);
      parameters = K.parameters;
      opened = K.opened;
      parts = K.parts;
    }
grow NoneWord l K = K
grow ParameterWord l K = K
grow NameLine l K = opening K (named_of l)
grow OpeningComponent l K = parting K (K.parts ++ (component_of l ∷ []))
grow ComponentLine l K = parting K (K.parts ++ (component_of l ∷ []))
grow TimeLine l K = opening (parting K []) (sampled K.opened (record { time = time_in l; components = K.parts }))
grow SamplesEnd l K = K
grow SignedLine l K = opening K (signing K.opened (signed_in l))
grow RangeLine l K = opening K (valued K.opened (value_in l))
grow SourceLine l K = K
grow LabelLine l K = K
grow SourceEnd l K = K
grow ParameterEnd l K =
    record {
      declared = K.declared;
      sequential = K.sequential;
      pairs = K.pairs;
      parameters = K.parameters ++ (K.opened ∷ []);
      opened = no_parameter;
      parts = K.parts;
    }

-- ---- what it comes to

-- "One such pair for all subframes, or S pairs"
unfoldable pub spread : ℕ → List Subframe → List Subframe
spread s pairs = cond (eqb (length pairs) 1) (tab s (λ i. get_or pairs 0 no_subframe)) pairs

abbrev pub content_of : Book → Content
content_of K =
    record { sequential = K.sequential; subframes = spread K.declared K.pairs; parameters = K.parameters }

-- how many samples and components there are
unfoldable pub samples_of : List Parameter → ℕ
samples_of [] = 0
samples_of (p ∷ ps) = length p.samples + samples_of ps

unfoldable pub components_of : List Sample → ℕ
components_of [] = 0
components_of (s ∷ ss) = length s.components + components_of ss

unfoldable pub all_components_of : List Parameter → ℕ
all_components_of [] = 0
all_components_of (p ∷ ps) = components_of p.samples + all_components_of ps

-- so far, the open parameter and the open sample counted
abbrev pub samples_so_far : Book → ℕ
samples_so_far K = samples_of K.parameters + length K.opened.samples

abbrev pub components_so_far : Book → ℕ
components_so_far K = all_components_of K.parameters + components_of K.opened.samples + length K.parts

-- what the record pairs declare
unfoldable pub words_of : List Subframe → List ℕ
words_of [] = []
words_of (p ∷ ps) = p.words ∷ words_of ps

unfoldable pub bits_of : List Subframe → List ℕ
bits_of [] = []
bits_of (p ∷ ps) = p.bits ∷ bits_of ps
