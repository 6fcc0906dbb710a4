-- What is left of a sheet where something is due: the lines still to come, and how they complete what the lines so far have
-- gathered. Assumes nothing.
use mathlib.Core.Path.{◌≡◌}
use mathlib.Core.Bool.{Bool}
use mathlib.Core.Logic.{◌⊎◌}
use mathlib.Core.List.{List, [], ◌∷◌, ◌++◌}
use Prim.Native.Nat.{ℕ, ◌≤◌}
use lib.ListN.{length}
use Rattle.text.specs.Keywords.{header_word}
use Rattle.lineforms.specs.declared.due.Due.{Due}
use Rattle.lineforms.specs.declared.due.Due.TheVariants as due
use Rattle.model.specs.Content.{Content, Parameter, Sample, Component, Subframe, subframes}
use Rattle.gather.specs.Book.{Book, spread}
use Rattle.grammar.specs.Items.{Item, time}
use Rattle.grammar.specs.Says.{blank, word, header_line, record_line, record_lines, Declare, name_line, component_lines, sample_lines, signed_line, range_line, Source, label_line, source_lines, Told, parameters_of, closing_lines, parameter_lines, body_lines}

-- ---- the header

pub record HeaderLeft (K : Book) (c : Content) (ls : List (List Item)) : Type 0 where
  pub pairs : List Subframe
  pub told : List Told
  pub declare : Declare pairs c.subframes
  pub list : parameters_of told ≡ c.parameters
  pub lines : ls ≡ header_line c.sequential (subframes c) ∷ (record_lines pairs ++ body_lines told)
  pub no_pairs : K.pairs ≡ []
  pub no_parameters : K.parameters ≡ []
  pub no_parts : K.parts ≡ []

pub record SheetLeft (K : Book) (c : Content) (ls : List (List Item)) : Type 0 where
  pub rest : List (List Item)
  pub lines : ls ≡ word header_word ∷ rest
  pub left : HeaderLeft K c rest

-- ---- the record pairs

-- more pairs, after those of K, make up the subframes: one for all, or one each
pub record Pairs (K : Book) (c : Content) (more : List Subframe) (told : List Told) : Type 0 where
  pub sequential : c.sequential ≡ K.sequential
  pub count : subframes c ≡ K.declared
  pub subframes : c.subframes ≡ spread K.declared (K.pairs ++ more)
  pub number : (length (K.pairs ++ more) ≡ 1) ⊎ (length (K.pairs ++ more) ≡ K.declared)
  pub list : c.parameters ≡ K.parameters ++ parameters_of told
  pub no_parts : K.parts ≡ []

pub record RecordsLeft (K : Book) (c : Content) (ls : List (List Item)) : Type 0 where
  pub pairs : List Subframe
  pub told : List Told
  pub lines : ls ≡ record_lines pairs ++ body_lines told
  pub made : Pairs K c pairs told

pub record FirstRecordLeft (K : Book) (c : Content) (ls : List (List Item)) : Type 0 where
  pub left : RecordsLeft K c ls
  pub some : 1 ≤ length left.pairs

pub record PairLeft (K : Book) (c : Content) (ls : List (List Item)) : Type 0 where
  pub pair : Subframe
  pub pairs : List Subframe
  pub told : List Told
  pub lines : ls ≡ record_line pair ∷ (record_lines pairs ++ body_lines told)
  pub made : Pairs K c (pair ∷ pairs) told

-- ---- the parameters

-- the header and the pairs are whole, and more parameters come after those that are
pub record Grown (q : Bool) (s : ℕ) (pairs : List Subframe) (ps : List Parameter) (c : Content) (more : List Parameter) : Type 0 where
  pub sequential : c.sequential ≡ q
  pub count : subframes c ≡ s
  pub subframes : c.subframes ≡ spread s pairs
  pub list : c.parameters ≡ ps ++ more

abbrev pub Grows : Book → Content → List Parameter → Type 0
Grows K c more = Grown K.sequential K.declared K.pairs K.parameters c more

-- the same, the parameters told otherwise
pub regrown : {q : Bool} {s : ℕ} {pairs : List Subframe} {ps qs : List Parameter} {c : Content} {xs ys : List Parameter} → c.parameters ≡ qs ++ ys → Grown q s pairs ps c xs → Grown q s pairs qs c ys
regrown e m = record { sequential = m.sequential; count = m.count; subframes = m.subframes; list = e }

pub record ParametersLeft (K : Book) (c : Content) (ls : List (List Item)) : Type 0 where
  pub told : List Told
  pub lines : ls ≡ parameter_lines told
  pub made : Grows K c (parameters_of told)
  pub no_parts : K.parts ≡ []

pub record NothingLeft (K : Book) (c : Content) (ls : List (List Item)) : Type 0 where
  pub lines : ls ≡ []
  pub made : Grows K c []

pub record NameLeft (K : Book) (c : Content) (ls : List (List Item)) : Type 0 where
  pub told : Told
  pub more : List Told
  pub lines : ls
      ≡ name_line told.parameter
      ∷ (sample_lines told.parameter.samples
      ++ closing_lines told.parameter.signed told.parameter.identifier told.parameter.value (told.source ∷ told.more) (parameter_lines more))
  pub made : Grows K c (told.parameter ∷ parameters_of more)
  pub no_parts : K.parts ≡ []

-- ---- the samples of the open parameter

-- the open parameter with these samples, signed or not, and its value
abbrev pub filled : Parameter → Bool → ℕ → List Sample → Parameter
filled p signed value ss =
    record {
      name = p.name;
      mnemonic = p.mnemonic;
      identification = p.identification;
      signed = signed;
      identifier = p.identifier;
      value = value;
      samples = ss;
    }

-- with more samples
abbrev pub completed : Parameter → List Sample → Bool → ℕ → Parameter
completed p ss signed value = filled p signed value (p.samples ++ ss)

-- what comes after its samples
pub record Closing : Type 0 where
  pub signed : Bool
  pub value : ℕ
  pub source : Source
  pub others : List Source
  pub more : List Told

abbrev pub closed : Book → Closing → List (List Item)
closed K e = closing_lines e.signed K.opened.identifier e.value (e.source ∷ e.others) (parameter_lines e.more)

pub record SamplesLeft (K : Book) (c : Content) (ls : List (List Item)) : Type 0 where
  pub samples : List Sample
  pub closing : Closing
  pub lines : ls ≡ sample_lines samples ++ closed K closing
  pub made : Grows K c (completed K.opened samples closing.signed closing.value ∷ parameters_of closing.more)
  pub no_parts : K.parts ≡ []

pub record FirstSampleLeft (K : Book) (c : Content) (ls : List (List Item)) : Type 0 where
  pub left : SamplesLeft K c ls
  pub some : 1 ≤ length left.samples

-- the open sample, with more components and its time
abbrev pub whole : Book → List Component → ℕ → Sample
whole K parts at = record { time = at; components = K.parts ++ parts }

pub record PartsLeft (K : Book) (c : Content) (ls : List (List Item)) : Type 0 where
  pub parts : List Component
  pub at : ℕ
  pub samples : List Sample
  pub closing : Closing
  pub lines : ls ≡ component_lines parts ++ ((time at ∷ []) ∷ (sample_lines samples ++ closed K closing))
  pub made : Grows K c (completed K.opened (whole K parts at ∷ samples) closing.signed closing.value ∷ parameters_of closing.more)

-- ---- the end of the open parameter

abbrev pub finished : Parameter → Bool → ℕ → Parameter
finished p signed value = filled p signed value p.samples

abbrev pub sourced : List Source → List Told → List (List Item)
sourced sources more = source_lines sources ++ (blank ∷ parameter_lines more)

pub record SignedLeft (K : Book) (c : Content) (ls : List (List Item)) : Type 0 where
  pub closing : Closing
  pub lines : ls
      ≡ signed_line closing.signed
      ∷ range_line K.opened.identifier closing.value
      ∷ sourced (closing.source ∷ closing.others) closing.more
  pub made : Grows K c (finished K.opened closing.signed closing.value ∷ parameters_of closing.more)
  pub no_parts : K.parts ≡ []

pub record RangeLeft (K : Book) (c : Content) (ls : List (List Item)) : Type 0 where
  pub value : ℕ
  pub source : Source
  pub others : List Source
  pub more : List Told
  pub lines : ls ≡ range_line K.opened.identifier value ∷ sourced (source ∷ others) more
  pub made : Grows K c (finished K.opened K.opened.signed value ∷ parameters_of more)
  pub no_parts : K.parts ≡ []

pub record SourceLeft (K : Book) (c : Content) (ls : List (List Item)) : Type 0 where
  pub source : Source
  pub others : List Source
  pub more : List Told
  pub lines : ls ≡ sourced (source ∷ others) more
  pub made : Grows K c (K.opened ∷ parameters_of more)
  pub no_parts : K.parts ≡ []

-- the open parameter is whole but for more sources, whose lines come after these
pub record Sources (K : Book) (c : Content) (ls : List (List Item)) (before : List Source → List (List Item) → List (List Item)) : Type 0 where
  pub sources : List Source
  pub more : List Told
  pub lines : ls ≡ before sources (blank ∷ parameter_lines more)
  pub made : Grows K c (K.opened ∷ parameters_of more)
  pub no_parts : K.parts ≡ []

abbrev pub SourceEndsLeft : Book → Content → List (List Item) → Type 0
SourceEndsLeft K c lines = Sources K c lines (λ sources rest. source_lines sources ++ rest)

abbrev pub SourceBlankLeft : Book → Content → List (List Item) → Type 0
SourceBlankLeft K c lines = Sources K c lines (λ sources rest. blank ∷ (source_lines sources ++ rest))

-- a label line may come
abbrev pub AfterSourceLeft : Book → Content → List (List Item) → Type 0
AfterSourceLeft K c lines =
    SourceBlankLeft K c lines ⊎ Sources K c lines (λ sources rest. label_line ∷ blank ∷ (source_lines sources ++ rest))

-- ---- where something is due

abbrev pub Left : Due → Book → Content → List (List Item) → Type 0
Left due.HeaderWord K c lines = SheetLeft K c lines
Left due.HeaderLine K c lines = HeaderLeft K c lines
Left due.RecordWord K c lines = FirstRecordLeft K c lines
Left due.RecordLine K c lines = PairLeft K c lines
Left due.Opening K c lines = RecordsLeft K c lines
Left due.NameLine K c lines = NameLeft K c lines
Left due.FirstComponent K c lines = FirstSampleLeft K c lines
Left due.NextComponent K c lines = PartsLeft K c lines
Left due.AfterSample K c lines = SamplesLeft K c lines
Left due.SignedLine K c lines = SignedLeft K c lines
Left due.RangeLine K c lines = RangeLeft K c lines
Left due.SourceLine K c lines = SourceLeft K c lines
Left due.AfterSource K c lines = AfterSourceLeft K c lines
Left due.SourceBlank K c lines = SourceBlankLeft K c lines
Left due.AfterSourceBlank K c lines = SourceEndsLeft K c lines
Left due.NextParameter K c lines = ParametersLeft K c lines
Left due.Nothing K c lines = NothingLeft K c lines
