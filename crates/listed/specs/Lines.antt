-- A line of the listing: fields parted by commas, each line ended by byte 10.
use Rattle.std.specs.Prelude.{ℕ, List, [], ◌∷◌, ◌++◌, ℤ}
use Rattle.listed.specs.Decimals.{decimal_text, value_text}

abbrev pub comma : ℕ
comma = 44

abbrev pub end_byte : ℕ
end_byte = 10

abbrev pub line_text : List (List ℕ) → List ℕ
line_text [] = end_byte ∷ []
line_text (x ∷ []) = x ++ (end_byte ∷ [])
line_text (x ∷ y ∷ rest) = x ++ (comma ∷ line_text (y ∷ rest))

-- "name,sample,width,raw,value"
unfoldable pub row_text : List ℕ → ℕ → ℕ → ℕ → ℤ → List ℕ
row_text name sample width raw value =
    line_text (name ∷ decimal_text sample ∷ decimal_text width ∷ decimal_text raw ∷ value_text value ∷ [])
