-- What the listing of a card writes: the listing's lines, the frame's position in front of each.
use Rattle.std.specs.Prelude.{ℕ, ◌+◌, ◌*◌, List, [], ◌∷◌, ◌++◌, length}
use Rattle.lay.specs.Below.{flat}
use Rattle.lay.specs.Quoted.{quoted}
use Rattle.model.specs.Content.{Content, parameter}
use Rattle.model.specs.Forms.{sheet_limits}
use Rattle.listed.specs.Decimals.{decimal_text}
use Rattle.listed.specs.Lines.{comma, end_byte}
use Rattle.listed.specs.Listing.{sample_row, row_most}

abbrev pub card_heading_text : List ℕ
card_heading_text = quoted "position,name,sample,width,raw,value" ++ (end_byte ∷ [])

-- the row of sample j of parameter i, both counted from 0, in the frame f that was found behind p bits of the card
unfoldable pub card_row : Content → List ℕ → ℕ → ℕ → ℕ → List ℕ
card_row c f p i j = decimal_text p ++ (comma ∷ sample_row c f i j)

-- no row is longer: the position has at most twenty digits
abbrev pub card_row_most : ℕ
card_row_most = row_most + 21

-- all rows of parameter i
unfoldable pub card_rows : Content → List ℕ → ℕ → ℕ → List ℕ
card_rows c f p i = flat (length (parameter c i).samples) (card_row c f p i)

-- they are not longer
abbrev pub card_rows_most : ℕ
card_rows_most = card_row_most * sheet_limits.samples_each
