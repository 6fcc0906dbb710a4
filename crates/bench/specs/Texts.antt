-- What the calls for the listing's texts promise.
use Rattle.std.specs.Prelude.{ℕ, ◌/◌, ◌%◌, Bool, cond, not, ◌&&◌, ◌≡◌, List, [], eqb, leb, length, Ok, Err}
use Rattle.lay.specs.Bytes.{put}
use Rattle.table.specs.Answers.{asked_number, name_answered}
use Rattle.framing.specs.Reading.{Read, read_of}
use Rattle.framing.specs.declared.read.Reading.TheVariants as reading
use Rattle.listed.specs.Lines.{row_text}
use Rattle.listed.specs.Listing.{words_of}

-- text, how many bytes must be lent; lent bytes, answer, the bytes afterwards
abbrev pub Fills : List ℕ → ℕ → List ℕ → ℕ → List ℕ → Type 0
Fills text need lent n after =
    (n ≡ cond (leb need (length lent)) (length text) 0) × (after ≡ cond (leb need (length lent)) (put lent 0 text) lent)

-- the row of what is read, by the table's name for the parameter
unfoldable pub row_of : List ℕ → ℕ → Read → List ℕ
row_of name sample (Ok (reading.Sample raw width value)) = row_text name sample width raw value
row_of name sample (Ok (reading.OverlapDiffers raw width value)) = row_text name sample width raw value
row_of name sample (Err w) = []

unfoldable pub row_for : List ℕ → List ℕ → ℕ → ℕ → List ℕ
row_for table words p s = row_of (name_answered table (asked_number table p)) s (read_of table words p s)

-- whether the bytes are whole words, and no more than are lent
abbrev pub whole_words : List ℕ → List ℕ → Bool
whole_words bytes lent = not (eqb (length bytes % 2) 1) && leb (length bytes / 2) (length lent)

-- bytes, lent words; answer, the words afterwards
abbrev pub WordsFill : List ℕ → List ℕ → ℕ → List ℕ → Type 0
WordsFill bytes lent n after =
    (n ≡ cond (whole_words bytes lent) 0 19) × (after ≡ cond (whole_words bytes lent) (put lent 0 (words_of bytes)) lent)
