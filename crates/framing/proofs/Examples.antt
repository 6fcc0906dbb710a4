-- 01's examples of samples and frames, and cases of its refusals, one list under one theorem, over the table that the
-- wall sheet is written as. Assumes nothing.
use mathlib.Core.Path.{◌≡◌, refl, ap}
use mathlib.Core.Bool.{true, cond}
use mathlib.Core.List.{List, [], ◌∷◌}
use Prim.Native.Nat.{ℕ}
use lib.IntN.{ℤ, pos, negsuc}
use Rattle.bits.specs.Word.{bit_at, field, put}
use Rattle.bits.specs.Sign.{signed}
use Rattle.sample.specs.Joining.{part_of, join, width}
use Rattle.sample.specs.Placing.{place_one, place}
use Rattle.sample.specs.Flat.{sum, before, position}
use Rattle.model.specs.Margin.{Unknown}
use Rattle.model.specs.Content.{Subframe, Sample}
use Rattle.model.specs.Samples.{word_counts, whole, piece, pieces, width_of, overlapped, place_in, holds_at, holds}
use Rattle.model.specs.Frame.{frame_words, words_ok}
use Rattle.model.specs.Wall.{wall}
use Rattle.model.specs.Write.{write}
use Rattle.model.specs.View.{view}
use Rattle.model.specs.Forms.{newest}
use Rattle.model.proofs.Statements.{view_new}
use Rattle.model.proofs.WallCase.{wall_lawful, lapped}
use Rattle.model.proofs.Statements.{wall_accepted}
use Rattle.framing.specs.Fitting.{fit_of}
use Rattle.framing.specs.Wanted.{fitted, wanted_by, wanted_in, wanted_of}
use Rattle.table.specs.Reasons.{reason_number}
use Rattle.framing.specs.Reading.{raw_of, width_is, value_of, copies_agree, sample_read, read_for, read_of, read_number}
use Rattle.framing.specs.Placing.{laps_in, place_for, place_of, placed_for, placed_of, place_number}
use Rattle.framing.specs.Comparing.{differs_at, differs_in, compared_in, fitted_compared, compared_of, compared_number}
use Rattle.framing.specs.declared.read.Reading.{Reading}
use Rattle.framing.specs.declared.read.Reading.TheVariants.{Sample as Answer, OverlapDiffers}
use Rattle.table.specs.declared.reason.Reason.TheVariants.{Overlapped}
use Rattle.std.specs.Prelude.{Some, None, Ok, Err}

pub data Case : Type 0 where
  -- the words, parameter and sample, and the answer
  reads : List ℕ → ℕ → ℕ → Reading → Case
  -- and 01's number of a refusal
  unread : List ℕ → ℕ → ℕ → ℕ → Case
  -- the words, parameter, sample and value, and the words afterwards; or 01's number, and the words stay
  places : List ℕ → ℕ → ℕ → ℕ → List ℕ → Case
  unplaced : List ℕ → ℕ → ℕ → ℕ → ℕ → Case
  -- the words; or 01's number and the subframe
  passes : List ℕ → Case
  differs : List ℕ → ℕ → ℕ → Case
  -- width, raw, value
  signs : ℕ → ℕ → ℤ → Case
  -- the words, one subframe's shape, a sample in it, its width and raw value
  joins : List ℕ → Subframe → Sample → ℕ → ℕ → Case
  -- the words, and the answer for the section's altitude
  laps : List ℕ → Reading → Case

abbrev pub table : List ℕ
table = write newest wall

abbrev pub Holds : Case → Type 0
Holds (reads f p s a) = read_of table f p s ≡ Ok a
Holds (unread f p s n) = read_number (read_of table f p s) ≡ n
Holds (places f p s v g) = (place_of table f p s v ≡ Ok tt) × (placed_of table f p s v ≡ g)
Holds (unplaced f p s v n) = (place_number (place_of table f p s v) ≡ n) × (placed_of table f p s v ≡ f)
Holds (passes f) = compared_of table f ≡ Ok None
Holds (differs f n s) = (compared_number (compared_of table f) ≡ n) × (compared_of table f ≡ Ok (Some s))
Holds (signs w r v) = signed w r ≡ v
Holds (joins f u s w r) = (width_of (u ∷ []) s ≡ w) × (join f (pieces (u ∷ []) s) ≡ r)
Holds (laps f a) = (sample_read lapped f 0 0 ≡ a) × (laps_in lapped 1 1 ≡ true)

abbrev pub AllHold : List Case → Type 0
AllHold [] = Unit
AllHold (c ∷ cs) = Holds c × AllHold cs

abbrev words : List ℕ
words = 583 ∷ 5 ∷ 0 ∷ 6 ∷ []

-- TP 2.3.2.1: "Component 1: Word 5, Bits 1-4; Component 2: Word 2, Bits 2-3; Component 3: Word 4, Bits 7-12"
abbrev three : Sample
three =
    record {
      time = 0;
      components =
          record { subframe = 1; word = 5; low = 1; high = 4; overlap = 0 }
          ∷ record { subframe = 1; word = 2; low = 2; high = 3; overlap = 0 }
          ∷ record { subframe = 1; word = 4; low = 7; high = 12; overlap = 0 }
          ∷ [];
    }

abbrev five_words : Subframe
five_words = record { bits = 12; words = 5; leading = Unknown; trailing = Unknown; numerator = 1; denominator = 1 }

-- negsuc 10 is minus eleven; parameter 1 is Sync, 2 is Pitch. Not printed in 01, but by its rules: the refusals 19, 21 and
-- 22, word 3 too high, which no component names, and the frame that begins with 582. TP prints no words for its sample:
-- bits 1-4 of 4089 are 9, bits 2-3 of 13 are 2, bits 7-12 of 2175 are 33, and 9 + 2 * 16 + 33 * 64 = 2153. Of its altitude the low
-- 11 bits of 2053 are 5, bits 2-8 of 206 are 103, and 5 + 103 * 2048 = 210949; bit 12 is 1 in 2053 and in 103, and 0 in 5.
abbrev pub cases : List Case
cases =
    reads words 2 1 (Answer 53 6 (negsuc 10))
    ∷ reads words 1 1 (Answer 583 12 (pos 583))
    ∷ reads (4095 ∷ 5 ∷ 0 ∷ 6 ∷ []) 1 1 (Answer 4095 12 (pos 4095))
    ∷ unread (4096 ∷ 5 ∷ 0 ∷ 6 ∷ []) 1 1 20
    ∷ unread (583 ∷ 5 ∷ 4096 ∷ 6 ∷ []) 2 1 20
    ∷ unread (583 ∷ 5 ∷ 0 ∷ []) 2 1 19
    ∷ unread [] 3 1 21
    ∷ unread [] 2 2 22
    ∷ places words 2 1 63 (583 ∷ 15 ∷ 0 ∷ 6 ∷ [])
    ∷ unplaced words 2 1 64 23
    ∷ passes words
    ∷ differs (582 ∷ 5 ∷ 0 ∷ 6 ∷ []) 24 1
    ∷ signs 1 1 (negsuc 0)
    ∷ signs 6 31 (pos 31)
    ∷ signs 6 32 (negsuc 31)
    ∷ signs 32 4294967295 (negsuc 0)
    ∷ joins (0 ∷ 13 ∷ 0 ∷ 2175 ∷ 4089 ∷ []) five_words three 12 2153
    ∷ laps (0 ∷ 0 ∷ 0 ∷ 0 ∷ 2053 ∷ 206 ∷ 0 ∷ []) (Answer 210949 18 (pos 210949))
    ∷ laps (0 ∷ 0 ∷ 0 ∷ 0 ∷ 5 ∷ 206 ∷ 0 ∷ []) (OverlapDiffers 210949 18 (pos 210949))
    ∷ []

-- ---- over the wall's Content

said : view table ≡ wall
said = view_new wall wall_lawful

read_wall : (f : List ℕ) (p s : ℕ) → read_of table f p s ≡ read_for wall f (wanted_in wall f p s)
unfolding read_of wanted_of
read_wall f p s = rw (wall_accepted, said)

unread_wall : (f : List ℕ) (p s : ℕ) → read_number (read_of table f p s) ≡ read_number (read_for wall f (wanted_in wall f p s))
unread_wall f p s = ap read_number (read_wall f p s)

place_wall : (f : List ℕ) (p s v : ℕ) → place_of table f p s v ≡ cond (laps_in wall p s) (Err Overlapped) (place_for wall (wanted_in wall f p s) v)
unfolding place_of wanted_of
place_wall f p s v = rw (wall_accepted, said)

unplaced_wall : (f : List ℕ) (p s v : ℕ) → place_number (place_of table f p s v) ≡ place_number (cond (laps_in wall p s) (Err Overlapped) (place_for wall (wanted_in wall f p s) v))
unplaced_wall f p s v = ap place_number (place_wall f p s v)

placed_wall : (f : List ℕ) (p s v : ℕ) → placed_of table f p s v ≡ cond (laps_in wall p s) f (placed_for wall f (wanted_in wall f p s) v)
unfolding placed_of wanted_of
placed_wall f p s v = rw (wall_accepted, said)

compare_wall : (f : List ℕ) → compared_of table f ≡ fitted_compared (fit_of wall f) (compared_in wall f)
unfolding compared_of
compare_wall f = rw (wall_accepted, said)

pub examples : AllHold cases
unfolding bit_at field put signed part_of join width place_one place sum before position word_counts whole piece pieces width_of overlapped place_in holds_at holds frame_words words_ok fit_of fitted wanted_by reason_number raw_of width_is value_of copies_agree sample_read read_for read_number laps_in place_for placed_for place_number differs_at differs_in compared_in fitted_compared compared_number
examples =
    (read_wall _ _ _, (read_wall _ _ _, (read_wall _ _ _, (unread_wall _ _ _, (unread_wall _ _ _, (unread_wall _ _ _, (unread_wall _ _ _, (unread_wall _ _ _, ((place_wall _ _ _ _, placed_wall _ _ _ _), ((unplaced_wall _ _ _ _, placed_wall _ _ _ _), (compare_wall _, ((ap compared_number (compare_wall _), compare_wall _), (refl, (refl, (refl, (refl, ((refl, refl), ((refl, refl), ((refl, refl), tt)))))))))))))))))))
