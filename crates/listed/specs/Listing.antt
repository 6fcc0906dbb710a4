-- What the listing writes: "name,sample,width,raw,value", then the rows of each parameter, by sample; "each line ends with byte
-- 10"; "or `refused N L` alone, L being 0 without a line".
use Rattle.std.specs.Prelude.{ℕ, ◌+◌, ◌*◌, ◌/◌, List, [], ◌∷◌, ◌++◌, length}
use Rattle.lay.specs.Below.{tab, flat}
use Rattle.lay.specs.Bytes.{num_at}
use Rattle.lay.specs.Quoted.{quoted}
use Rattle.model.specs.Content.{Content, parameter}
use Rattle.model.specs.Forms.{sheet_limits}
use Rattle.framing.specs.Reading.{raw_of, width_is, value_of}
use Rattle.framing.specs.Fitting.{Fit}
use Rattle.table.specs.Reasons.{answer_number}
use Rattle.listed.specs.Decimals.{decimal_text}
use Rattle.listed.specs.Lines.{end_byte, row_text}

abbrev pub heading_text : List ℕ
heading_text = quoted "name,sample,width,raw,value" ++ (end_byte ∷ [])

-- the row of sample j of parameter i, both counted from 0; in the row samples count from 1
unfoldable pub sample_row : Content → List ℕ → ℕ → ℕ → List ℕ
sample_row c f i j = row_text (parameter c i).name (j + 1) (width_is c i j) (raw_of c f i j) (value_of c f i j)

-- no row is longer: numbers and commas take 86 bytes at most
abbrev pub row_most : ℕ
row_most = sheet_limits.text + 86

-- all rows of parameter i
unfoldable pub parameter_rows : Content → List ℕ → ℕ → List ℕ
parameter_rows c f i = flat (length (parameter c i).samples) (sample_row c f i)

-- they are not longer
abbrev pub rows_most : ℕ
rows_most = row_most * sheet_limits.samples_each

-- refused N L
unfoldable pub refused_text : ℕ → ℕ → List ℕ
refused_text n l =
    quoted "refused " ++ (decimal_text n ++ (quoted " " ++ (decimal_text l ++ (end_byte ∷ []))))

-- "19 word count of the frame differs", "20 any word of the frame at or above two to its bits"; 0 where it fits
unfoldable pub fit_number : Fit → ℕ
fit_number d = answer_number d

-- "words of two bytes, low first"
unfoldable pub words_of : List ℕ → List ℕ
words_of b = tab (length b / 2) (λ i. num_at 2 b (2 * i))
