-- Not part of the meaning: what the code counts of what a sheet's lines gather to.
use Rattle.std.specs.Prelude.{ℕ, ◌+◌, ◌≤◌, ◌*◌, false, cond, List, [], ◌∷◌, length}
use Rattle.model.specs.Forms.{sheet_limits}
use Rattle.text.specs.Fields.{field_of}
use Rattle.lineforms.specs.Said.{subframes_in, sequential_in, identifier_in, signed_in, value_in}
use Rattle.lineforms.specs.declared.due.Form.{Form}
use Rattle.lineforms.specs.declared.due.Form.TheVariants.{Stray, Superframe, HeaderWord, HeaderLine, RecordWord, RecordLine, NoneWord, ParameterWord, NameLine, OpeningComponent, ComponentLine, TimeLine, SamplesEnd, SignedLine, RangeLine, SourceLine, LabelLine, SourceEnd, ParameterEnd}
use Rattle.model.specs.Content.{Parameter}
use Rattle.gather.specs.Book.{Book, samples_so_far, components_so_far}
use Rattle.judge.specs.declared.tally.Tally.{Tally}

-- the bytes of text of parameters
unfoldable pub text_of : List Parameter → ℕ
text_of [] = 0
text_of (p ∷ ps) = length p.name + length p.mnemonic + length p.identification + text_of ps

abbrev pub tally_of : Book → Tally
tally_of K =
    record {
      declared = K.declared;
      sequential = K.sequential;
      pairs = length K.pairs;
      parameters = length K.parameters;
      samples = samples_so_far K;
      own = length K.opened.samples;
      components = components_so_far K;
      parts = length K.parts;
      text = text_of K.parameters;
      name = length K.opened.name;
      mnemonic = length K.opened.mnemonic;
      identification = length K.opened.identification;
      identifier = K.opened.identifier;
      signed = K.opened.signed;
      value = K.opened.value;
    }

abbrev pub declared_tally : List ℕ → Tally → Tally
declared_tally l x =
    record {
      declared = subframes_in l;
      sequential = sequential_in l;
      pairs = x.pairs;
      parameters = x.parameters;
      samples = x.samples;
      own = x.own;
      components = x.components;
      parts = x.parts;
      text = x.text;
      name = x.name;
      mnemonic = x.mnemonic;
      identification = x.identification;
      identifier = x.identifier;
      signed = x.signed;
      value = x.value;
    }

abbrev pub paired_tally : Tally → Tally
paired_tally x =
    record {
      declared = x.declared;
      sequential = x.sequential;
      pairs = x.pairs + 1;
      parameters = x.parameters;
      samples = x.samples;
      own = x.own;
      components = x.components;
      parts = x.parts;
      text = x.text;
      name = x.name;
      mnemonic = x.mnemonic;
      identification = x.identification;
      identifier = x.identifier;
      signed = x.signed;
      value = x.value;
    }

abbrev pub named_tally : List ℕ → Tally → Tally
named_tally l x =
    record {
      declared = x.declared;
      sequential = x.sequential;
      pairs = x.pairs;
      parameters = x.parameters;
      samples = x.samples;
      own = 0;
      components = x.components;
      parts = x.parts;
      text = x.text;
      name = length (field_of 0 l);
      mnemonic = length (field_of 1 l);
      identification = length (field_of 2 l);
      identifier = identifier_in l;
      signed = false;
      value = 0;
    }

abbrev pub parted_tally : Tally → Tally
parted_tally x =
    record {
      declared = x.declared;
      sequential = x.sequential;
      pairs = x.pairs;
      parameters = x.parameters;
      samples = x.samples;
      own = x.own;
      components = x.components + 1;
      parts = x.parts + 1;
      text = x.text;
      name = x.name;
      mnemonic = x.mnemonic;
      identification = x.identification;
      identifier = x.identifier;
      signed = x.signed;
      value = x.value;
    }

abbrev pub timed_tally : Tally → Tally
timed_tally x =
    record {
      declared = x.declared;
      sequential = x.sequential;
      pairs = x.pairs;
      parameters = x.parameters;
      samples = x.samples + 1;
      own = x.own + 1;
      components = x.components;
      parts = 0;
      text = x.text;
      name = x.name;
      mnemonic = x.mnemonic;
      identification = x.identification;
      identifier = x.identifier;
      signed = x.signed;
      value = x.value;
    }

abbrev pub signed_tally : List ℕ → Tally → Tally
signed_tally l x =
    record {
      declared = x.declared;
      sequential = x.sequential;
      pairs = x.pairs;
      parameters = x.parameters;
      samples = x.samples;
      own = x.own;
      components = x.components;
      parts = x.parts;
      text = x.text;
      name = x.name;
      mnemonic = x.mnemonic;
      identification = x.identification;
      identifier = x.identifier;
      signed = signed_in l;
      value = x.value;
    }

abbrev pub ranged_tally : List ℕ → Tally → Tally
ranged_tally l x =
    record {
      declared = x.declared;
      sequential = x.sequential;
      pairs = x.pairs;
      parameters = x.parameters;
      samples = x.samples;
      own = x.own;
      components = x.components;
      parts = x.parts;
      text = x.text;
      name = x.name;
      mnemonic = x.mnemonic;
      identification = x.identification;
      identifier = x.identifier;
      signed = x.signed;
      value = cond x.identifier (value_in l) 0;
    }

abbrev pub closed_tally : Tally → Tally
closed_tally x =
    record {
      declared = x.declared;
      sequential = x.sequential;
      pairs = x.pairs;
      parameters = x.parameters + 1;
      samples = x.samples;
      own = 0;
      components = x.components;
      parts = x.parts;
      text = x.text + x.name + x.mnemonic + x.identification;
      name = 0;
      mnemonic = 0;
      identification = 0;
      identifier = false;
      signed = false;
      value = 0;
    }

-- the counts after a line
abbrev pub counted_of : Form → List ℕ → Tally → Tally
counted_of Stray l x = x
counted_of Superframe l x = x
counted_of HeaderWord l x = x
counted_of HeaderLine l x = declared_tally l x
counted_of RecordWord l x = x
counted_of RecordLine l x = paired_tally x
counted_of NoneWord l x = x
counted_of ParameterWord l x = x
counted_of NameLine l x = named_tally l x
counted_of OpeningComponent l x = parted_tally x
counted_of ComponentLine l x = parted_tally x
counted_of TimeLine l x = timed_tally x
counted_of SamplesEnd l x = x
counted_of SignedLine l x = signed_tally l x
counted_of RangeLine l x = ranged_tally l x
counted_of SourceLine l x = x
counted_of LabelLine l x = x
counted_of SourceEnd l x = x
counted_of ParameterEnd l x = closed_tally x

-- no count of a sheet within the limits is above: the texts of all parameters, all samples, all components
abbrev pub most_count : ℕ
most_count = 3 * sheet_limits.text * sheet_limits.parameters + sheet_limits.samples + sheet_limits.components

-- no count is above m
pub record Small (x : Tally) (m : ℕ) : Type 0 where
  pub pairs : x.pairs ≤ m
  pub parameters : x.parameters ≤ m
  pub samples : x.samples ≤ m
  pub own : x.own ≤ m
  pub components : x.components ≤ m
  pub parts : x.parts ≤ m
  pub text : x.text ≤ m
  pub name : x.name ≤ m
  pub mnemonic : x.mnemonic ≤ m
  pub identification : x.identification ≤ m
