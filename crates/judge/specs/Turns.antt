-- Not part of the meaning: one line of the walk, by what the code keeps.
use Rattle.std.specs.Prelude.{ℕ, ◌-◌, ◌≤◌, ◌≡◌, List, length, take, Result, Ok, Err}
use Rattle.lay.specs.Bytes.{part}
use Rattle.text.specs.Refusals.{Judged, or_else, says}
use Rattle.text.specs.declared.refusal.Refusal.{Refusal}
use Rattle.lines.specs.Line.{Ready, Found}
use Rattle.lines.specs.declared.Cursor.{Cursor}
use Rattle.lines.specs.declared.Line.{Line}
use Rattle.lineforms.specs.Forms.{form_of, due_after}
use Rattle.lineforms.specs.declared.due.Due.TheVariants as due
use Rattle.lineforms.specs.declared.due.Form.{Form}
use Rattle.lineforms.specs.declared.due.Form.TheVariants.{Stray, Superframe, HeaderWord, HeaderLine, RecordWord, RecordLine, NoneWord, ParameterWord, NameLine, OpeningComponent, ComponentLine, TimeLine, SamplesEnd, SignedLine, RangeLine, SourceLine, LabelLine, SourceEnd, ParameterEnd}
use Rattle.model.specs.Forms.{sheet_limits}
use Rattle.gather.specs.Book.{empty_book}
use Rattle.judge.specs.Counts.{tally_of, counted_of, most_count, Small}
use Rattle.judge.specs.LineTests.{form_tests, Fitting}
use Rattle.judge.specs.Names.{names_in, no_places, places_after}
use Rattle.judge.specs.Sampling.{sample_in, Opened, Apt, After}
use Rattle.judge.specs.declared.rows.Rows.{Rows}
use Rattle.judge.specs.declared.turn.State.{State}
use Rattle.judge.specs.declared.turn.Passed.{Passed}

-- before any line
pub record Starting (t : State) : Type 0 where
  pub due : t.due ≡ due.HeaderWord
  pub counts : t.counts ≡ tally_of empty_book
  pub sample : Opened t.sample
  pub here : t.here ≡ no_places
  pub opened_at : t.opened_at ≡ 0

-- no more is counted than there may be
pub record Known (t : State) : Type 0 where
  pub few : t.counts.pairs ≤ sheet_limits.subframes
  pub fewer : t.counts.parameters ≤ sheet_limits.parameters

-- what a line is, by what is known
abbrev pub form_here : State → List ℕ → Form
form_here t l = form_of t.due t.counts.pairs t.counts.declared l

-- before a line, whatever it is
pub record Going (s : List ℕ) (c : Cursor) (t : State) : Type 0 where
  pub ready : Ready s c
  pub known : Known t
  pub fitting : (l : List ℕ) → Fitting (form_here t l) t.counts t.sample

-- before a line that passed
pub record Steady (f : Form) (l : List ℕ) (a : ℕ) (t : State) : Type 0 where
  pub apt : Apt f t.sample
  pub small : Small t.counts most_count
  pub place : a ≤ 65536
  pub long : length l ≤ 65536

-- the line of the open parameter's `PARAMETER:` word after line k
abbrev pub opened_after : Form → ℕ → ℕ → ℕ
opened_after Stray k o = o
opened_after Superframe k o = o
opened_after HeaderWord k o = o
opened_after HeaderLine k o = o
opened_after RecordWord k o = o
opened_after RecordLine k o = o
opened_after NoneWord k o = o
opened_after ParameterWord k o = k
opened_after NameLine k o = o
opened_after OpeningComponent k o = o
opened_after ComponentLine k o = o
opened_after TimeLine k o = o
opened_after SamplesEnd k o = o
opened_after SignedLine k o = o
opened_after RangeLine k o = o
opened_after SourceLine k o = o
opened_after LabelLine k o = o
opened_after SourceEnd k o = o
opened_after ParameterEnd k o = o

-- after it, where it is line k
pub record Gone (f : Form) (l : List ℕ) (a k : ℕ) (t r : State) : Type 0 where
  pub due : r.due ≡ due_after f
  pub counts : r.counts ≡ counted_of f l t.counts
  pub sample : After f l t.sample t.counts.parts t.counts.own r.sample
  pub here : r.here ≡ places_after f l a t.here
  pub opened_at : r.opened_at ≡ opened_after f k t.opened_at

-- the tests of a line: 5 to its fields, 14, then 15
unfoldable pub judged_in : Form → List ℕ → List ℕ → State → Rows → Judged
judged_in f s l t r =
    or_else
    (or_else (form_tests f t.counts (take t.counts.pairs r.words) (take t.counts.pairs r.bits) l) (sample_in f l t.sample t.counts.own))
    (names_in f s (take t.counts.parameters r.kept) l)

-- by a line's bytes
abbrev pub turn_at : List ℕ → List ℕ → State → Rows → Line → Result Passed Refusal
turn_at b s t r l = says (judged_in (form_here t b) s b t r) (record { form = form_here t b; line = l })

-- by what the cursor finds
abbrev pub turn_of : Found → List ℕ → State → Rows → Result Passed Refusal
turn_of (Err q) s t r = Err q
turn_of (Ok l) s t r = turn_at (part s l.start (l.end - l.start)) s t r l
