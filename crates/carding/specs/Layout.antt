-- Where a frame's bits stand in a card's stream: "A subframe is its leading bits, words, trailing bits." Positions count bits
-- from 0, and subframes and words are counted from 0 here. A frame at position p has its first bit there, the first leading one.
use Rattle.std.specs.Prelude.{◌≡◌, Bool, true, List, ℕ, ◌+◌, ◌-◌, ◌*◌, ◌<◌, eqb, length, get_or}
use Rattle.bits.specs.Word.{bit_at, field}
use Rattle.lay.specs.Below.{sum, tab, flat, all}
use Rattle.sample.specs.Flat.{before}
use Rattle.sample.specs.Source.{Source, gather, places}
use Rattle.model.specs.Margin.{margin_bits}
use Rattle.model.specs.Content.{Content, Component, Sample, Subframe, subframe, subframes, parameter, sample, component}
use Rattle.model.specs.Samples.{word_counts, pieces, place_in}
use Rattle.model.specs.Rules.{bit_count}
use Rattle.model.specs.Frame.{meets}
use Rattle.stream.specs.Stream.{stream_bit, bits_from}

unfoldable pub subframe_bits : Subframe → ℕ
subframe_bits s = margin_bits s.leading + s.words * s.bits + margin_bits s.trailing

-- how many bits of a frame stand before subframe i, and how many a frame has
unfoldable pub bits_before : Content → ℕ → ℕ
bits_before c i = sum i (λ k. subframe_bits (subframe c k))

abbrev pub frame_bits : Content → ℕ
frame_bits c = bits_before c (subframes c)

-- where the words of subframe i begin, and where its word w does, counted from the frame's first bit
unfoldable pub words_begin : Content → ℕ → ℕ
words_begin c i = bits_before c i + margin_bits (subframe c i).leading

unfoldable pub word_begins : Content → ℕ → ℕ → ℕ
word_begins c i w = words_begin c i + w * (subframe c i).bits

-- word w of subframe i of the frame at p: "the low bit .. of each word first"
unfoldable pub word_in : Content → List ℕ → ℕ → ℕ → ℕ → ℕ
word_in c y p i w = bits_from y (p + word_begins c i w) (subframe c i).bits

-- the frame at p: "all words of subframe 1, then 2, and so on"
unfoldable pub frame_at : Content → List ℕ → ℕ → List ℕ
frame_at c y p = flat (subframes c) (λ i. tab (subframe c i).words (word_in c y p i))

-- f is a frame's words "equal to the stream's bits" from p on: bit j of word w of subframe i, and no word has a bit more
pub record Carries (c : Content) (y : List ℕ) (p : ℕ) (f : List ℕ) : Type 0 where
  pub fits : meets c f ≡ true
  pub bit : (i w j : ℕ) → i < subframes c → w < (subframe c i).words → j < (subframe c i).bits
      → bit_at (get_or f (before (word_counts c.subframes) (i + 1) + w) 0) j ≡ stream_bit y (p + word_begins c i w + j)

-- ---- a sample read straight from the stream, no word cut out

-- where each word of a frame begins, in the frame's order
unfoldable pub word_starts : Content → List ℕ
word_starts c = flat (subframes c) (λ i. tab (subframe c i).words (word_begins c i))

-- the frame at p as a source of bits
unfoldable pub source_at : Content → List ℕ → ℕ → Source
source_at c y p q = stream_bit y (p + get_or (word_starts c) q.word 0 + q.bit)

-- sample j of parameter i, joined where its bits stand; that the frame at p gives the same is proved (proofs/Straight.antt)
unfoldable pub raw_at : Content → List ℕ → ℕ → ℕ → ℕ → ℕ
raw_at c y p i j = gather (source_at c y p) (places (pieces c.subframes (sample (parameter c i) j)))

-- where a component begins, counted from the frame's first bit; its subframe, word and bits count from 1
unfoldable pub component_begins : Content → Component → ℕ
component_begins c d = word_begins c (d.subframe - 1) (d.word - 1) + (d.low - 1)

-- every component of the sample s is its bits of v, each compared where it stands; that the frame at p gives the same is proved too
unfoldable pub held_from : Content → List ℕ → ℕ → Sample → ℕ → Bool
held_from c y p s v =
    all (length s.components) (λ k.
    eqb (bits_from y (p + component_begins c (component s k)) (bit_count (component s k)))
    (field v (place_in c.subframes s k) (bit_count (component s k))))
