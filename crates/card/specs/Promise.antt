-- What the functions promise of a table's spans.
use Rattle.std.specs.Prelude.{◌≡◌, Option, Some, None, cond, List, ℕ, ◌+◌, ◌*◌, ◌≤◌, ◌<◌, get_or}
use Rattle.sample.specs.Component.{bits_of}
use Rattle.model.specs.Content.{Content}
use Rattle.model.specs.Forms.{sheet_limits}
use Rattle.model.specs.Samples.{whole, piece}
use Rattle.model.specs.Stored.{subframes_in}
use Rattle.model.specs.View.{component_at, view}
use Rattle.rules.specs.Ruled.{subframes_of}
use Rattle.card.specs.declared.spans.Span.{Span}
use Rattle.card.specs.declared.spans.Run.{Run}
use Rattle.carding.specs.Layout.{frame_bits, words_begin, component_begins}
use Rattle.carding.specs.Search.{position_from, found_from}

-- the most bits that a subframe has, and a frame; and a bit behind which no component begins
abbrev pub most_subframe_bits : ℕ
most_subframe_bits = sheet_limits.margin + sheet_limits.words * sheet_limits.bits + sheet_limits.margin

abbrev pub most_frame_bits : ℕ
most_frame_bits = sheet_limits.subframes * most_subframe_bits

abbrev pub most_run_at : ℕ
most_run_at = most_frame_bits + sheet_limits.words * sheet_limits.bits

-- so many rows at most has a sieve
abbrev pub most_rows : ℕ
most_rows = 64

-- where the words of each subframe begin
pub record BeginsOf (b r : List ℕ) : Type 0 where
  pub each : (i : ℕ) → i < subframes_in b → get_or r i 0 ≡ words_begin (view b) i
  pub small : (i : ℕ) → i < subframes_in b → get_or r i 0 ≤ most_frame_bits

pub record SpanOf (b : List ℕ) (r : Span) : Type 0 where
  pub begins_are : BeginsOf b r.begins
  pub bits_are : r.bits ≡ frame_bits (view b)
  pub small : r.bits ≤ most_frame_bits

-- component k of all
pub record RunOf (b : List ℕ) (k : ℕ) (r : Run) : Type 0 where
  pub at_is : r.at ≡ component_begins (view b) (component_at b k)
  pub bits_is : r.bits ≡ bits_of (whole (subframes_of b) (component_at b k))
  pub given_is : r.given ≡ bits_of (piece (subframes_of b) (component_at b k))
  pub few : r.bits ≤ sheet_limits.bits
  pub small : r.at ≤ most_run_at

-- the first position, if there is one
unfoldable pub first_found : Content → List ℕ → ℕ → Option ℕ
first_found c y from = cond (found_from c y from) (Some (position_from c y from)) None
