-- Cards by example: the wall's sheet with margins, "12,4,3,1,1.0", and its words 583, 5, 0, 6 behind four bits. Assumes nothing.
use mathlib.Core.Path.{◌≡◌, refl}
use mathlib.Core.Bool.{true, false}
use mathlib.Core.List.{List, [], ◌∷◌}
use Prim.Native.Nat.{ℕ}
use Rattle.std.specs.Prelude.{Err}
use Rattle.bits.specs.Word.{bit_at, field}
use Rattle.lay.specs.Bytes.{put}
use Rattle.sample.specs.Joining.{part_of}
use Rattle.sample.specs.Source.{places_from, places, gather}
use Rattle.sample.specs.Flat.{sum, before, position}
use Rattle.model.specs.Margin.{Known}
use Rattle.model.specs.Content.{Content, Sample}
use Rattle.model.specs.Samples.{word_counts, whole, piece, pieces, place_in, holds_at, holds}
use Rattle.model.specs.Frame.{frame_words}
use Rattle.model.specs.Wall.{sync, pitch}
use Rattle.stream.specs.Stream.{stream_bit, bits_from}
use Rattle.framing.specs.Comparing.{differs_at, differs_in, compared_in, compared_number}
use Rattle.table.specs.declared.reason.Reason.TheVariants.{NoFrame, FewWords}
use Rattle.carding.specs.Layout.{subframe_bits, bits_before, words_begin, word_begins, word_in, frame_at, word_starts, source_at, raw_at, component_begins, held_from}
use Rattle.carding.specs.Search.{whole_at, agrees_at, position_from, found_from}
use Rattle.carding.specs.Answer.{searched, carded_in, handed_for, found_at}
use Rattle.carding.specs.Writing.{packed, low_bits, row_bits, subframe_stream, frame_stream, written}

abbrev pub margined : Content
margined =
    record {
      sequential = true;
      subframes = record { bits = 12; words = 4; leading = Known 3; trailing = Known 1; numerator = 1; denominator = 1 } ∷ [];
      parameters = sync ∷ pitch ∷ [];
    }

-- a0 23 29 00 00 30 80: four bits, three leading ones, 583, 5, 0, 6, one trailing
abbrev pub stream : List ℕ
stream = 160 ∷ 35 ∷ 41 ∷ 0 ∷ 0 ∷ 48 ∷ 128 ∷ []

pub found : carded_in true margined stream 0 (1 ∷ 2 ∷ 3 ∷ 4 ∷ 5 ∷ []) ≡ found_at 4 4
unfolding carded_in searched found_from position_from whole_at agrees_at compared_number compared_in differs_in differs_at holds holds_at place_in frame_words part_of whole piece word_counts position before sum frame_at word_in word_begins words_begin bits_before subframe_bits bits_from stream_bit bit_at field
found = refl

-- words beyond the frame stay
pub handed : handed_for margined stream (1 ∷ 2 ∷ 3 ∷ 4 ∷ 5 ∷ []) (found_at 4 4) ≡ 583 ∷ 5 ∷ 0 ∷ 6 ∷ 5 ∷ []
unfolding handed_for put frame_at word_in word_begins words_begin bits_before subframe_bits bits_from stream_bit bit_at
handed = refl

-- Pitch straight from the stream: raw 53
pub pitch_straight : raw_at margined stream 4 1 0 ≡ 53
unfolding raw_at source_at word_starts gather places places_from pieces piece word_counts position before sum word_begins words_begin bits_before subframe_bits stream_bit bit_at
pitch_straight = refl

-- one bit later there is none: 25; and 28 with three words lent
pub later : carded_in true margined stream 5 (1 ∷ 2 ∷ 3 ∷ 4 ∷ []) ≡ Err NoFrame
unfolding carded_in searched found_from position_from whole_at agrees_at compared_number compared_in differs_in differs_at holds holds_at place_in frame_words part_of whole piece word_counts position before sum frame_at word_in word_begins words_begin bits_before subframe_bits bits_from stream_bit bit_at field
later = refl

pub few : carded_in true margined stream 0 (1 ∷ 2 ∷ 3 ∷ []) ≡ Err FewWords
unfolding carded_in searched found_from position_from whole_at agrees_at compared_number compared_in differs_in differs_at holds holds_at place_in frame_words part_of whole piece word_counts position before sum frame_at word_in word_begins words_begin bits_before subframe_bits bits_from stream_bit bit_at field
few = refl

-- eight trailing bits, and a card that ends before them: 25
abbrev pub trailed : Content
trailed =
    record {
      sequential = true;
      subframes = record { bits = 12; words = 4; leading = Known 0; trailing = Known 8; numerator = 1; denominator = 1 } ∷ [];
      parameters = sync ∷ pitch ∷ [];
    }

-- no bits in the margins, "12,4,0,0,1.0"
abbrev pub tight : Content
tight =
    record {
      sequential = true;
      subframes = record { bits = 12; words = 4; leading = Known 0; trailing = Known 0; numerator = 1; denominator = 1 } ∷ [];
      parameters = sync ∷ pitch ∷ [];
    }

-- the words 583, 5, 0, 6 without margins
abbrev pub bare : List ℕ
bare = 71 ∷ 82 ∷ 0 ∷ 0 ∷ 96 ∷ 0 ∷ []

pub cut_short : carded_in true trailed bare 0 (1 ∷ 2 ∷ 3 ∷ 4 ∷ []) ≡ Err NoFrame
unfolding carded_in searched found_from position_from whole_at agrees_at compared_number compared_in differs_in differs_at holds holds_at place_in frame_words part_of whole piece word_counts position before sum frame_at word_in word_begins words_begin bits_before subframe_bits bits_from stream_bit bit_at field
cut_short = refl

-- the stream is what is written of these words behind four zeros, with the margins 2 and 1
pub written_so : written margined (record { leading = λ i. 2; trailing = λ i. 1 }) (583 ∷ 5 ∷ 0 ∷ 6 ∷ []) 4 0 0 0 ≡ stream
unfolding written packed frame_stream subframe_stream row_bits low_bits word_counts before sum bit_at
written_so = refl

-- ---- an identifier with overlap

-- bits 1-4 of a word and 1-3 of the next, one bit in both: 45 is 13 and 5
abbrev pub copied : Sample
copied =
    record {
      time = 0;
      components =
          record { subframe = 1; word = 1; low = 1; high = 4; overlap = 1 }
          ∷ record { subframe = 1; word = 2; low = 1; high = 3; overlap = 0 }
          ∷ [];
    }

abbrev pub lapped : Content
lapped =
    record {
      sequential = true;
      subframes = record { bits = 4; words = 2; leading = Known 0; trailing = Known 0; numerator = 1; denominator = 1 } ∷ [];
      parameters =
          record { name = []; mnemonic = []; identification = []; signed = false; identifier = true; value = 45; samples = copied ∷ [] }
          ∷ [];
    }

-- 5 and 5, which join to 45 too, and then 13 and 5
abbrev pub two_frames : List ℕ
two_frames = 85 ∷ 93 ∷ []

pub joined_too : raw_at lapped two_frames 0 0 0 ≡ 45
unfolding raw_at source_at word_starts gather places places_from pieces piece word_counts position before sum word_begins words_begin bits_before subframe_bits stream_bit bit_at
joined_too = refl

-- but a bit's copies differ
pub held_second : (held_from lapped two_frames 0 copied 45 ≡ false) × (held_from lapped two_frames 8 copied 45 ≡ true)
unfolding held_from place_in component_begins piece word_begins words_begin bits_before subframe_bits bits_from stream_bit bit_at field
held_second = (refl, refl)

pub passed_over : carded_in true lapped two_frames 0 (0 ∷ 0 ∷ []) ≡ found_at 8 2
unfolding carded_in searched found_from position_from whole_at agrees_at compared_number compared_in differs_in differs_at holds holds_at place_in frame_words part_of whole piece word_counts position before sum frame_at word_in word_begins words_begin bits_before subframe_bits bits_from stream_bit bit_at field
passed_over = refl
