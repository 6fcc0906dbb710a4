-- 01's listing of the wall, byte for byte, by computation: the file's bytes are the words, low byte first; the heading and the rows
-- are what 01 prints. Assumes nothing.
use mathlib.Core.Path.{◌≡◌, refl}
use mathlib.Core.List.{List, [], ◌∷◌, ◌++◌}
use Prim.Native.Nat.{ℕ}
use Rattle.bits.specs.Word.{bit_at, field}
use Rattle.bits.specs.Sign.{signed}
use Rattle.lay.specs.Bytes.{num_at}
use Rattle.lay.specs.Quoted.{quoted_lines}
use Rattle.sample.specs.Joining.{part_of, join, width}
use Rattle.sample.specs.Flat.{sum, before, position}
use Rattle.model.specs.Samples.{word_counts, piece, pieces, width_of}
use Rattle.model.specs.Wall.{wall}
use Rattle.framing.specs.Reading.{raw_of, width_is, value_of}
use Rattle.table.specs.declared.reason.Reason.TheVariants.{OtherCount, HighWord}
use Rattle.table.specs.Reasons.{reason_number}
use Rattle.listed.specs.Decimals.{decimal_text, value_text}
use Rattle.listed.specs.Lines.{row_text}
use Rattle.listed.specs.Listing.{heading_text, sample_row, parameter_rows, refused_text, fit_number, words_of}
use Rattle.std.specs.Prelude.{Err}

-- 583, 5, 0 and 6 in two bytes each
abbrev file : List ℕ
file = 71 ∷ 2 ∷ 5 ∷ 0 ∷ 0 ∷ 0 ∷ 6 ∷ 0 ∷ []

abbrev listing : List ℕ
listing = quoted_lines ("name,sample,width,raw,value" ∷ "Sync,1,12,583,583" ∷ "Pitch,1,6,53,-11" ∷ [])

pub record WallRows : Type 0 where
  pub words : words_of file ≡ 583 ∷ 5 ∷ 0 ∷ 6 ∷ []
  pub rows : heading_text ++ (parameter_rows wall (words_of file) 0 ++ parameter_rows wall (words_of file) 1) ≡ listing
  pub refused : refused_text 19 0 ≡ quoted_lines ("refused 19 0" ∷ [])
  -- "word count of the frame differs", "any word of the frame at or above two to its bits"
  pub counted : fit_number (Err OtherCount) ≡ 19
  pub high : fit_number (Err HighWord) ≡ 20

pub wall_listed : WallRows
unfolding fit_number reason_number bit_at field signed num_at part_of join width sum before position word_counts piece pieces width_of raw_of width_is value_of decimal_text value_text row_text sample_row parameter_rows refused_text words_of
wall_listed = record { words = refl; rows = refl; refused = refl; counted = refl; high = refl }
