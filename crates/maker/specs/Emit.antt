-- Not part of the meaning: what the code writes at each line, by its counts.
use Rattle.std.specs.Prelude.{ℕ, ◌+◌, ◌-◌, ◌*◌, ◌≤◌, List, ◌++◌, ◌≡◌, length}
use Rattle.lay.specs.Bytes.{put}
use Rattle.text.specs.Fields.{field_of}
use Rattle.lineforms.specs.Said.{pair_in, part_in, time_in}
use Rattle.lineforms.specs.declared.due.Form.{Form}
use Rattle.lineforms.specs.declared.due.Form.TheVariants as form
use Rattle.model.specs.Content.{Content}
use Rattle.model.specs.Items.{subframe_part, parameter_part, sample_part, component_part}
use Rattle.model.specs.Write.{component_values}
use Rattle.gather.specs.Ruling.{Accepted, judge_of}
use Rattle.judge.specs.Counts.{most_count, Small, tally_of}
use Rattle.judge.specs.Walk.{book_of}
use Rattle.judge.specs.declared.tally.Tally.{Tally}
use Rattle.laying.specs.Parts.{size, entry, copied, copies, Places, Fits}
use Rattle.stored.specs.declared.items.Starts.{Starts}
use Rattle.maker.specs.declared.entries.Described.{Described}
use Rattle.maker.specs.Entries.{said_subframe, said_component, parameter_by, sample_by}

abbrev pub places_of : Starts → Places
places_of a =
    record { subframes = a.subframes; parameters = a.parameters; samples = a.samples; components = a.components; text = a.text }

-- the open parameter by the counts
abbrev pub described_by : Tally → Described
described_by x =
    record {
      name = x.name;
      mnemonic = x.mnemonic;
      identification = x.identification;
      signed = x.signed;
      identifier = x.identifier;
      text = x.text;
      first = x.samples - x.own;
      count = x.own;
      value = x.value;
    }

-- each record pair n times
abbrev pub emit_of : Form → List ℕ → Tally → Starts → ℕ → List ℕ → List ℕ
emit_of form.Stray l x a n out = out
emit_of form.Superframe l x a n out = out
emit_of form.HeaderWord l x a n out = out
emit_of form.HeaderLine l x a n out = out
emit_of form.RecordWord l x a n out = out
emit_of form.RecordLine l x a n out = put out (a.subframes + size subframe_part * x.pairs) (copied n (said_subframe (pair_in l)))
emit_of form.NoneWord l x a n out = out
emit_of form.ParameterWord l x a n out = out
emit_of form.NameLine l x a n out = put out (a.text + x.text) (field_of 0 l ++ (field_of 1 l ++ field_of 2 l))
emit_of form.OpeningComponent l x a n out = put out (a.components + size component_part * x.components) (entry component_part (component_values (said_component (part_in l))))
emit_of form.ComponentLine l x a n out = put out (a.components + size component_part * x.components) (entry component_part (component_values (said_component (part_in l))))
emit_of form.TimeLine l x a n out = put out (a.samples + size sample_part * x.samples) (entry sample_part (sample_by (time_in l) (x.components - x.parts) x.parts))
emit_of form.SamplesEnd l x a n out = out
emit_of form.SignedLine l x a n out = out
emit_of form.RangeLine l x a n out = out
emit_of form.SourceLine l x a n out = out
emit_of form.LabelLine l x a n out = out
emit_of form.SourceEnd l x a n out = out
emit_of form.ParameterEnd l x a n out = put out (a.parameters + size parameter_part * x.parameters) (entry parameter_part (parameter_by (described_by x)))

-- that there is room for it in m bytes
abbrev pub Roomy : Form → List ℕ → Tally → Starts → ℕ → ℕ → Type 0
Roomy form.Stray l x a n m = Unit {0}
Roomy form.Superframe l x a n m = Unit {0}
Roomy form.HeaderWord l x a n m = Unit {0}
Roomy form.HeaderLine l x a n m = Unit {0}
Roomy form.RecordWord l x a n m = Unit {0}
Roomy form.RecordLine l x a n m = a.subframes + size subframe_part * x.pairs + size subframe_part * n ≤ m
Roomy form.NoneWord l x a n m = Unit {0}
Roomy form.ParameterWord l x a n m = Unit {0}
Roomy form.NameLine l x a n m = a.text + x.text + length (field_of 0 l ++ (field_of 1 l ++ field_of 2 l)) ≤ m
Roomy form.OpeningComponent l x a n m = a.components + size component_part * x.components + size component_part ≤ m
Roomy form.ComponentLine l x a n m = a.components + size component_part * x.components + size component_part ≤ m
Roomy form.TimeLine l x a n m = a.samples + size sample_part * x.samples + size sample_part ≤ m
Roomy form.SamplesEnd l x a n m = Unit {0}
Roomy form.SignedLine l x a n m = Unit {0}
Roomy form.RangeLine l x a n m = Unit {0}
Roomy form.SourceLine l x a n m = Unit {0}
Roomy form.LabelLine l x a n m = Unit {0}
Roomy form.SourceEnd l x a n m = Unit {0}
Roomy form.ParameterEnd l x a n m = a.parameters + size parameter_part * x.parameters + size parameter_part ≤ m

-- what is open is counted
pub record OpenCounted (x : Tally) : Type 0 where
  pub own : x.own ≤ x.samples
  pub parts : x.parts ≤ x.components

-- an accepted sheet, and room for its table
pub record Walkable (s : List ℕ) (a : Starts) (n : ℕ) (long : ℕ) : Type 0 where
  pub content : Content
  pub accepted : judge_of s ≡ Accepted content
  pub short : length s ≤ 65536
  pub small : Small (tally_of (book_of s)) most_count
  pub fits : Fits (places_of a) n (book_of s) long
  pub copied : n ≡ copies (length (book_of s).pairs) (book_of s).declared
