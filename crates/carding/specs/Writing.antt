-- A frame written onto a card, with any bits in its margins, before it and behind it: what reading a card undoes.
use Rattle.std.specs.Prelude.{List, ◌++◌, ℕ, ◌+◌, ◌*◌, ◌/◌, ◌^◌, length, get_or}
use Rattle.bits.specs.Word.{bit_at}
use Rattle.lay.specs.Below.{sum, tab, flat}
use Rattle.sample.specs.Flat.{before}
use Rattle.model.specs.Margin.{margin_bits}
use Rattle.model.specs.Content.{Content, subframe, subframes}
use Rattle.model.specs.Samples.{word_counts}

-- bits as bytes, "the low bit of each byte .. first"; the last byte is filled up with zeros
unfoldable pub packed : List ℕ → List ℕ
packed bits = tab ((length bits + 7) / 8) (λ i. sum 8 (λ j. get_or bits (8 * i + j) 0 * 2 ^ j))

-- the n low bits of a number, the low one first: a word's bits, and any n bits
unfoldable pub low_bits : ℕ → ℕ → List ℕ
low_bits n x = tab n (bit_at x)

-- the bits that stand in each subframe's margins, as numbers
pub record Margins : Type 0 where
  pub leading : ℕ → ℕ
  pub trailing : ℕ → ℕ

-- the words of subframe i of the frame f
unfoldable pub row_bits : Content → List ℕ → ℕ → List ℕ
row_bits c f i =
    flat (subframe c i).words (λ w. low_bits (subframe c i).bits (get_or f (before (word_counts c.subframes) (i + 1) + w) 0))

-- "its leading bits, words, trailing bits"
unfoldable pub subframe_stream : Content → Margins → List ℕ → ℕ → List ℕ
subframe_stream c m f i =
    low_bits (margin_bits (subframe c i).leading) (m.leading i)
    ++ (row_bits c f i ++ low_bits (margin_bits (subframe c i).trailing) (m.trailing i))

unfoldable pub frame_stream : Content → Margins → List ℕ → List ℕ
frame_stream c m f = flat (subframes c) (subframe_stream c m f)

-- a card with the frame f behind k bits, and n bits behind it
unfoldable pub written : Content → Margins → List ℕ → ℕ → ℕ → ℕ → ℕ → List ℕ
written c m f k front n back = packed (low_bits k front ++ (frame_stream c m f ++ low_bits n back))
