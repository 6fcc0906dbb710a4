-- The structs that C sees: one definition each, of what the bench answers. The number is 01's or 02's. A read's and a page's are the
-- bench's own (framing: Outcomes, Paging).
use Rattle.std.specs.Prelude.{ℕ, List, length, Ok, Err, Some, None}
use Rattle.maker.specs.Made.{Made, made_number}
use Rattle.table.specs.Answers.{Asked, asked_refusal, name_answered, place_answered}
use Rattle.table.specs.Reasons.{reason_number}
use Rattle.table.specs.declared.reason.Reason.{Reason}
use Rattle.framing.specs.Comparing.{Compared, compared_number}
use Rattle.carding.specs.Answer.{Carded, carded_number}
use Rattle.ffi.specs.declared.sheets.OrbMade.{OrbMade}
use Rattle.ffi.specs.declared.tables.OrbName.{OrbName}
use Rattle.ffi.specs.declared.frames.OrbCompared.{OrbCompared}
use Rattle.ffi.specs.declared.cards.OrbCarded.{OrbCarded}

-- ---- a sheet

-- the table's length, or the line where the sheet is refused
unfoldable pub made_at : Made → ℕ
made_at (Ok n) = n
made_at (Err r) = r.line

unfoldable pub made_out : Made → OrbMade
made_out m = record { number = made_number m; at = made_at m }

-- ---- a table

-- a part of this table: where the name starts and how long it is, both 0 where refused
unfoldable pub name_out : List ℕ → Asked → OrbName
name_out b a = record { number = asked_refusal a; start = place_answered b a; length = length (name_answered b a) }

abbrev pub no_name_out : Reason → OrbName
no_name_out r = record { number = reason_number r; start = 0; length = 0 }

-- ---- a frame

-- the subframe that differs, else 0
unfoldable pub differing : Compared → ℕ
differing (Ok (Some s)) = s
differing (Ok None) = 0
differing (Err r) = 0

unfoldable pub compared_out : Compared → OrbCompared
compared_out c = record { number = compared_number c; subframe = differing c }

-- ---- a card

-- position and words, both 0 where refused
unfoldable pub carded_out : Carded → OrbCarded
carded_out (Ok f) = record { number = carded_number (Ok f); position = f.position; count = f.count }
carded_out (Err r) = record { number = carded_number (Err r); position = 0; count = 0 }
