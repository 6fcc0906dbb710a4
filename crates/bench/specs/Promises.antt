-- What each call of the bench promises: one relation a call, between what it is given and what it answers and leaves.
use Rattle.std.specs.Prelude.{ℕ, ◌≡◌, List, length}
use Rattle.std.specs.Borrow.{Bor}
use Rattle.gather.specs.Ruling.{judge_of}
use Rattle.maker.specs.Made.{made_of, left_of, made_number, Made}
use Rattle.table.specs.Answers.{Checked, check_of, check_number, NameOf, asked_number, asked_mnemonic, asked_refusal}
use Rattle.framing.specs.Reading.{Read, read_of, read_number}
use Rattle.framing.specs.Placing.{Placed, place_of, placed_of, place_number}
use Rattle.framing.specs.Comparing.{Compared, compared_of, compared_number}
use Rattle.framing.specs.Paging.{paged_of, results_of}
use Rattle.framing.specs.declared.page.Request.{Request}
use Rattle.framing.specs.declared.page.Outcome.{Outcome}
use Rattle.framing.specs.declared.page.Paged.{Paged}
use Rattle.carding.specs.Answer.{carded_of, handed_of, carded_number, bits_of_frame, Carded}

-- ---- a sheet

-- sheet, lent bytes; answer, the bytes afterwards
abbrev pub Makes : List ℕ → List ℕ → Made → List ℕ → Type 0
Makes sheet lent made after = (made ≡ made_of (judge_of sheet) (length lent)) × (after ≡ left_of (judge_of sheet) lent)

abbrev pub MadeNumbered : Made → ℕ → Type 0
MadeNumbered made n = n ≡ made_number made

-- ---- a table

abbrev pub Checks : List ℕ → Checked → Type 0
Checks table checked = checked ≡ check_of table

abbrev pub CheckNumbered : Checked → ℕ → Type 0
CheckNumbered checked n = n ≡ check_number checked

-- a name is a part of the lent table: its bytes, and where they stand
abbrev pub Names : Bor (List ℕ) → ℕ → Bor (List ℕ) → Type 0
Names table parameter name = NameOf table name (asked_number table.now parameter)

abbrev pub NameNumbered : List ℕ → ℕ → ℕ → Type 0
NameNumbered table parameter n = n ≡ asked_refusal (asked_number table parameter)

abbrev pub NamesBy : Bor (List ℕ) → List ℕ → Bor (List ℕ) → Type 0
NamesBy table mnemonic name = NameOf table name (asked_mnemonic table.now mnemonic)

abbrev pub NameByNumbered : List ℕ → List ℕ → ℕ → Type 0
NameByNumbered table mnemonic n = n ≡ asked_refusal (asked_mnemonic table mnemonic)

-- ---- a frame: table, words, parameter, sample

abbrev pub Reads : List ℕ → List ℕ → ℕ → ℕ → Read → Type 0
Reads table words parameter sample reading = reading ≡ read_of table words parameter sample

abbrev pub ReadNumbered : Read → ℕ → Type 0
ReadNumbered reading n = n ≡ read_number reading

-- value; answer, the words afterwards
abbrev pub Places : List ℕ → List ℕ → ℕ → ℕ → ℕ → Placed → List ℕ → Type 0
Places table words parameter sample value placed after =
    (placed ≡ place_of table words parameter sample value) × (after ≡ placed_of table words parameter sample value)

abbrev pub PlaceNumbered : Placed → ℕ → Type 0
PlaceNumbered placed n = n ≡ place_number placed

abbrev pub Compares : List ℕ → List ℕ → Compared → Type 0
Compares table words compared = compared ≡ compared_of table words

abbrev pub CompareNumbered : Compared → ℕ → Type 0
CompareNumbered compared n = n ≡ compared_number compared

-- ---- a page: table, words, requests, lent results; answer, the results afterwards

abbrev pub Pages : List ℕ → List ℕ → List Request → List Outcome → Paged → List Outcome → Type 0
Pages table words requests results paged after =
    (paged ≡ paged_of (length requests) (length results)) × (after ≡ results_of table words requests results)

-- ---- a card: table, stream, the bit to begin at, lent words; answer, the words afterwards

abbrev pub Cards : List ℕ → List ℕ → ℕ → List ℕ → Carded → List ℕ → Type 0
Cards table stream from words carded after =
    (carded ≡ carded_of table stream from words) × (after ≡ handed_of table stream from words)

abbrev pub CardNumbered : Carded → ℕ → Type 0
CardNumbered carded n = n ≡ carded_number carded

abbrev pub FrameBits : List ℕ → ℕ → Type 0
FrameBits table n = n ≡ bits_of_frame table
