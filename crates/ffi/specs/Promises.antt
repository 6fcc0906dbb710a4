-- What each call of the C interface promises: one relation a call, for every input. Nothing else that is lent is changed.
use Rattle.std.specs.Prelude.{ℕ, ◌≡◌, List, length}
use Rattle.gather.specs.Ruling.{judge_of}
use Rattle.maker.specs.Made.{made_of, left_of}
use Rattle.table.specs.Answers.{check_of, check_number, asked_number, asked_mnemonic}
use Rattle.framing.specs.Reading.{read_of}
use Rattle.framing.specs.Outcomes.{outcome_of}
use Rattle.framing.specs.Placing.{place_of, placed_of, place_number}
use Rattle.framing.specs.Comparing.{compared_of}
use Rattle.framing.specs.declared.page.Request.{Request}
use Rattle.framing.specs.declared.page.Outcome.{Outcome}
use Rattle.framing.specs.declared.page.Paged.{Paged}
use Rattle.carding.specs.Answer.{carded_of, handed_of, bits_of_frame}
use Rattle.bench.specs.Promises.{Pages}
use Rattle.ffi.specs.Structs.{made_out, name_out, compared_out, carded_out}
use Rattle.ffi.specs.declared.sheets.OrbMade.{OrbMade}
use Rattle.ffi.specs.declared.tables.OrbName.{OrbName}
use Rattle.ffi.specs.declared.frames.OrbCompared.{OrbCompared}
use Rattle.ffi.specs.declared.cards.OrbCarded.{OrbCarded}

-- sheet, lent bytes; answer, the bytes afterwards
abbrev pub MakesOut : List ℕ → List ℕ → OrbMade → List ℕ → Type 0
MakesOut sheet lent r after =
    (r ≡ made_out (made_of (judge_of sheet) (length lent))) × (after ≡ left_of (judge_of sheet) lent)

abbrev pub ChecksOut : List ℕ → ℕ → Type 0
ChecksOut table n = n ≡ check_number (check_of table)

abbrev pub NamesOut : List ℕ → ℕ → OrbName → Type 0
NamesOut table parameter r = r ≡ name_out table (asked_number table parameter)

abbrev pub NamesByOut : List ℕ → List ℕ → OrbName → Type 0
NamesByOut table mnemonic r = r ≡ name_out table (asked_mnemonic table mnemonic)

-- table, words, parameter, sample
abbrev pub ReadsOut : List ℕ → List ℕ → ℕ → ℕ → Outcome → Type 0
ReadsOut table words parameter sample r = r ≡ outcome_of (read_of table words parameter sample)

-- value; answer, the words afterwards
abbrev pub PlacesOut : List ℕ → List ℕ → ℕ → ℕ → ℕ → ℕ → List ℕ → Type 0
PlacesOut table words parameter sample value n after =
    (n ≡ place_number (place_of table words parameter sample value))
    × (after ≡ placed_of table words parameter sample value)

abbrev pub ComparesOut : List ℕ → List ℕ → OrbCompared → Type 0
ComparesOut table words r = r ≡ compared_out (compared_of table words)

-- the bench's own, since its structs are C's: table, words, requests, lent results; answer, the results afterwards
abbrev pub PagesOut : List ℕ → List ℕ → List Request → List Outcome → Paged → List Outcome → Type 0
PagesOut = Pages

-- table, stream, the bit to begin at, lent words; answer, the words afterwards
abbrev pub CardsOut : List ℕ → List ℕ → ℕ → List ℕ → OrbCarded → List ℕ → Type 0
CardsOut table stream from words r after =
    (r ≡ carded_out (carded_of table stream from words)) × (after ≡ handed_of table stream from words)

abbrev pub FrameBitsOut : List ℕ → ℕ → Type 0
FrameBitsOut table n = n ≡ bits_of_frame table
