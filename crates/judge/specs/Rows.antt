-- Not part of the meaning: what the code keeps of record pairs and of parameters, a row for each.
use Rattle.std.specs.Prelude.{ℕ, ◌+◌, false, List, replicate, set}
use Rattle.lineforms.specs.declared.due.Form.{Form}
use Rattle.model.specs.Forms.{sheet_limits}
use Rattle.judge.specs.Keeping.{words_said, bits_said, good_in}
use Rattle.judge.specs.Names.{no_places}
use Rattle.judge.specs.declared.rows.Kept.{Kept}
use Rattle.judge.specs.declared.rows.Rows.{Rows}
use Rattle.judge.specs.declared.turn.State.{State}

-- how many rows there are: of record pairs, and of parameters. A line stores behind those that stay, so there is one more
abbrev pub pair_rows : ℕ
pair_rows = sheet_limits.subframes + 1

abbrev pub parameter_rows : ℕ
parameter_rows = sheet_limits.parameters + 1

abbrev pub no_kept : Kept
no_kept = record { places = no_places; identifier = false; good = false; home = 0; value = 0; opened_at = 0 }

-- nothing yet
abbrev pub no_rows : Rows
no_rows = record { words = replicate pair_rows 0; bits = replicate pair_rows 0; kept = replicate parameter_rows no_kept }

-- the open parameter's
abbrev pub kept_in : State → Kept
kept_in t =
    record {
      places = t.here;
      identifier = t.counts.identifier;
      good = good_in t.counts t.sample;
      home = t.sample.lies;
      value = t.counts.value;
      opened_at = t.opened_at;
    }

-- a line's pair and the open parameter, each behind those that stay
abbrev pub rows_set : Form → List ℕ → State → Rows → Rows
rows_set f l t r =
    record {
      words = set r.words t.counts.pairs (words_said f l);
      bits = set r.bits t.counts.pairs (bits_said f l);
      kept = set r.kept t.counts.parameters (kept_in t);
    }
