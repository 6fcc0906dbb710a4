-- Sheets and their rulings, one list under one theorem, by computation: the wall sheet with a line or two changed. The
-- rulings are those of 01, its "More" and its rules, and of 02's request 3, under their own numbers. Assumes nothing.
use mathlib.Core.Path.{◌≡◌, refl, ap, ◌∙◌}
use mathlib.Core.Bool.{true, false}
use mathlib.Core.List.{List, [], ◌∷◌, ◌++◌}
use Prim.Native.Nat.{ℕ, ◌-◌}
use Prim.Native.String.{String, ◌++◌ as ◌<>◌}
use lib.ListN.{take, drop}
use Rattle.model.specs.Margin.{Unknown, margin_as}
use Rattle.model.specs.Content.{Content, Parameter}
use Rattle.lay.specs.Bytes.{same}
use Rattle.lay.specs.Below.{every}
use Rattle.lay.specs.Quoted.{quoted}
use Rattle.ratio.specs.Ratio.{gcd_in, gcd, lowest_terms}
use Rattle.sample.specs.Clash.{clash, clash_any, twice}
use Rattle.sample.specs.Joining.{width}
use Rattle.sample.specs.Flat.{before, position}
use Rattle.text.specs.Refusals.{refusal_number, first}
use Rattle.text.specs.Blanks.{trim_start, trim_end, trim}
use Rattle.text.specs.Parts.{index_of, count_of, holds, up_to, past}
use Rattle.text.specs.Fields.{blank_line, field_count, piece_of, field_of}
use Rattle.text.specs.Keywords.{keyword_of}
use Rattle.lines.specs.Line.{all_clean}
use Rattle.lines.specs.Lines.{lines_of}
use Rattle.lines.specs.Order.{line_judged}
use Rattle.spell.specs.Digits.{all_digits, digits_up_to, place_of, places, number, is_marked}
use Rattle.spell.specs.Texts.{text_judged, version_judged, empty_judged}
use Rattle.spell.specs.Truths.{says_true, says_false, truth_judged, truth_of, truth_or_empty_judged}
use Rattle.spell.specs.Integers.{integer_judged, integer_of, declared_judged, declared_of, margin_of, label_judged, label_of}
use Rattle.spell.specs.Decimals.{millionths, decimal_judged, decimal_of, delay_judged}
use Rattle.spell.specs.BitRanges.{low_bit, high_bit, bits_judged, bits_of, component_bits_judged, component_bits_of, source_bits_judged}
use Rattle.spell.specs.Durations.{is_fraction, is_seconds, fraction_of, bad_fraction, top_of, bottom_of, seconds_judged, seconds_of}
use Rattle.lineforms.specs.Forms.{word_form, count_form, either_form, opening_form, after_sample_form, form_of}
use Rattle.lineforms.specs.LineFields.{pair_index, declared_for, range_judged}
use Rattle.model.specs.Samples.{word_counts, piece, pieces, width_of}
use Rattle.model.specs.Identifiers.{named_apart, identifier_ok, identified_apart, identifies, taken}
use Rattle.model.specs.Wall.{wall, sync, pitch}
use Rattle.gather.specs.Book.{spread, samples_of, components_of, all_components_of, words_of, bits_of as bitsOfPairs}
use Rattle.gather.specs.Tests.{room_for_parameter, room_for_sample, room_for_component, spots, given, last_overlap, joined_test, unlike_first, width_test, apart_from}
use Rattle.gather.specs.WallSheet.{wall_sheet}
use Rattle.gather.specs.Ruling.{Ruling, Accepted, Refused, first_bad, identified, run, judge_of}
use Rattle.gather.proofs.Stages.{first_lines}
use Rattle.rulings.proofs.DecimalSeconds.{quarter_terms}
use Rattle.rulings.proofs.WallJudged.{wall_accepted}

-- ---- sheets

-- lines, each with its end byte
abbrev sheet_of : List (List ℕ) → List ℕ
sheet_of [] = []
sheet_of (l ∷ ls) = l ++ (10 ∷ sheet_of ls)

abbrev wall_lines : List (List ℕ)
wall_lines = first_lines 25 (lines_of wall_sheet)

-- line k, counted from 1, is another; one more line before line k
abbrev changed : ℕ → String → List (List ℕ) → List (List ℕ)
changed k l ls = take (k - 1) ls ++ (quoted l ∷ drop k ls)

abbrev added : ℕ → String → List (List ℕ) → List (List ℕ)
added k l ls = take (k - 1) ls ++ (quoted l ∷ drop (k - 1) ls)

-- the wall sheet with that change
abbrev changing : ℕ → String → List ℕ
changing k l = sheet_of (changed k l wall_lines)

abbrev adding : ℕ → String → List ℕ
adding k l = sheet_of (added k l wall_lines)

-- 12,4,,,1/1 says the same as 12,4,,,1.0
abbrev pair_line : String
pair_line = "12,4,,,1/1"

-- HEADER: and RECORD: with their lines, then NONE
abbrev none_lines : List (List ℕ)
none_lines = changed 4 pair_line (take 4 wall_lines) ++ (quoted "NONE" ∷ [])

abbrev none_content : Content
none_content = record { sequential = true; subframes = wall.subframes; parameters = [] }

-- the same with 12,4,,, and a duration in seconds, and what it says
abbrev lasting_lines : String → List (List ℕ)
lasting_lines d = changed 4 ("12,4,,," <> d) none_lines

abbrev lasting_content : ℕ → ℕ → Content
lasting_content top bottom =
    record {
      sequential = true;
      subframes = record { bits = 12; words = 4; leading = Unknown; trailing = Unknown; numerator = top; denominator = bottom } ∷ [];
      parameters = [];
    }

-- the header line by its subframe count
abbrev header_for : String → String
header_for s = "2.0,A,TypeX,,,001,,,True,,," <> (s <> ",,")

-- one bit of word 1
abbrev one_bit : String → List ℕ
one_bit d = quoted ("1,1,0," <> d)

-- Sync's PARAMETER: and 7 fields, then eight components
abbrev eight_components : List (List ℕ)
eight_components =
    take 6 wall_lines
    ++ (one_bit "1" ∷ one_bit "2" ∷ one_bit "3" ∷ one_bit "4" ∷ one_bit "5" ∷ one_bit "6" ∷ one_bit "7" ∷ one_bit "8" ∷ [])

-- Sync at bit 12 alone, with the value 1
abbrev sync_at_twelve : Parameter
sync_at_twelve =
    record {
      name = sync.name;
      mnemonic = [];
      identification = [];
      signed = false;
      identifier = true;
      value = 1;
      samples = record { time = 0; components = record { subframe = 1; word = 1; low = 12; high = 12; overlap = 0 } ∷ [] } ∷ [];
    }

abbrev twelve_content : Content
twelve_content = record { sequential = true; subframes = wall.subframes; parameters = sync_at_twelve ∷ [] }

-- the wall with Pitch as the section has its example: bits 1-12 of a sample of 18 in one word, bits 12-18 in another
abbrev lapped_lines : List (List ℕ)
lapped_lines = changed 4 pair_line (changed 17 "1,2,1,1-12" (changed 18 "1,4,0,1-7" wall_lines))

abbrev lapped_pitch : Parameter
lapped_pitch =
    record {
      name = pitch.name;
      mnemonic = pitch.mnemonic;
      identification = [];
      signed = true;
      identifier = false;
      value = 0;
      samples =
          record {
            time = 500000;
            components =
                record { subframe = 1; word = 2; low = 1; high = 12; overlap = 1 }
                ∷ record { subframe = 1; word = 4; low = 1; high = 7; overlap = 0 }
                ∷ [];
          }
          ∷ [];
    }

abbrev lapped_content : Content
lapped_content = record { sequential = true; subframes = wall.subframes; parameters = sync ∷ lapped_pitch ∷ [] }

-- what 01 says of a sheet: the Content it is taken for, or the refusal's number and its line
pub data Told : Type 0 where
  takes : Content → Told
  refuses : ℕ → ℕ → Told

abbrev told : Ruling → Told
told (Accepted c) = takes c
told (Refused q k) = refuses (refusal_number q) k

pub data Case : Type 0 where
  rules : List ℕ → Told → Case

abbrev pub Holds : Case → Type 0
Holds (rules s v) = told (judge_of s) ≡ v

abbrev pub AllHold : List Case → Type 0
AllHold [] = Unit
AllHold (c ∷ cs) = Holds c × AllHold cs

-- ends, and bytes
abbrev pub ends : List Case
ends =
    -- the wall, cut into lines and joined again
    rules (sheet_of wall_lines) (takes wall)
    -- the empty file
    ∷ rules [] (refuses 4 1)
    -- the first line alone
    ∷ rules (sheet_of (take 1 wall_lines)) (refuses 4 2)
    -- two bytes of 200 and no end
    ∷ rules (200 ∷ 200 ∷ []) (refuses 4 1)
    -- HEADER: and byte 13
    ∷ rules (changing 1 "HEADER:\r") (refuses 2 1)
    -- NONE; and with blanks round HEADER:
    ∷ rules (sheet_of none_lines) (takes none_content)
    ∷ rules (sheet_of (changed 1 " HEADER:\t" none_lines)) (takes none_content)
    -- NONE, and x without an end byte
    ∷ rules (sheet_of none_lines ++ quoted "x") (refuses 4 6)
    -- NONE, and a line x
    ∷ rules (sheet_of (none_lines ++ (quoted "x" ∷ []))) (refuses 5 6)
    -- NONE, and a blank line
    ∷ rules (sheet_of (none_lines ++ ([] ∷ []))) (refuses 5 6)
    -- NONE, and a line of byte 200
    ∷ rules (sheet_of (none_lines ++ ((200 ∷ []) ∷ []))) (refuses 2 6)
    ∷ []

-- what is due, and the order of fields
abbrev orders : List Case
orders =
    -- no version, and version 2.00
    rules (changing 2 ",A,TypeX,,,001,,,True,,,1,,") (refuses 8 2)
    ∷ rules (changing 2 "2.00,A,TypeX,,,001,,,True,,,1,,") (refuses 9 2)
    -- a second RECORD: for one subframe
    ∷ rules (adding 5 "RECORD:") (refuses 5 5)
    -- two pairs for three subframes, then PARAMETER:
    ∷ rules (sheet_of (changed 2 (header_for "3") (take 4 wall_lines ++ drop 2 wall_lines))) (refuses 5 7)
    -- a third blank line after a parameter
    ∷ rules (adding 15 "") (refuses 5 15)
    -- PARAMETER: where the time is due, a blank line there, and two fields
    ∷ rules (changing 8 "PARAMETER:") (refuses 6 8)
    ∷ rules (changing 8 "") (refuses 5 8)
    ∷ rules (changing 8 ",") (refuses 5 8)
    -- two fields after the time
    ∷ rules (changing 9 ",") (refuses 10 9)
    -- 1,x,0,0 and 9,x,0,1; and 1,1,1,0, where 01's 10 for the overlap went with 02's request 3
    ∷ rules (changing 7 "1,x,0,0") (refuses 6 7)
    ∷ rules (changing 7 "9,x,0,1") (refuses 13 7)
    ∷ rules (changing 7 "1,1,1,0") (refuses 11 7)
    -- two faults in one field: 7 before 6, 6 before 9, 6 before 11, 11 before 13
    ∷ rules (changing 6 "A name of sixty-five bytes with a tab inside is longer than the\t.,,,True,,,") (refuses 7 6)
    ∷ rules (changing 2 "2.\t0,A,TypeX,,,001,,,True,,,1,,") (refuses 6 2)
    ∷ rules (changing 4 "12,1000000,,,1.0") (refuses 6 4)
    ∷ rules (changing 7 "1,1,0,0-13") (refuses 11 7)
    ∷ []

-- bits, and 12 and 14
abbrev pub samples : List Case
samples =
    -- bits 13, 0 and 4-1
    rules (changing 7 "1,1,0,13") (refuses 13 7)
    ∷ rules (changing 7 "1,1,0,0") (refuses 11 7)
    ∷ rules (changing 7 "1,1,0,4-1") (refuses 11 7)
    -- bits 12: 583 does not fit one bit; with Sync alone and the value 1
    ∷ rules (changing 7 "1,1,0,12") (refuses 16 5)
    ∷ rules (sheet_of (changed 11 "1,,," (changed 7 "1,1,0,12" (changed 4 pair_line (take 14 wall_lines))))) (takes twelve_content)
    -- a ninth component, misspelt, and one of three fields
    ∷ rules (sheet_of (eight_components ++ (quoted "x,y,z,w" ∷ []))) (refuses 12 15)
    ∷ rules (sheet_of (eight_components ++ (quoted "x,y,z" ∷ []))) (refuses 5 15)
    -- 1,1,0,12 again in one sample
    ∷ rules (adding 8 "1,1,0,12") (refuses 14 8)
    -- twelve bits each of words 1, 2 and 3
    ∷ rules (sheet_of (added 8 "1,2,0,1-12" (added 8 "1,3,0,1-12" wall_lines))) (refuses 14 9)
    -- a second sample of one bit, after one of six
    ∷ rules (sheet_of (added 20 "1,3,0,1" (added 20 "0" wall_lines))) (refuses 14 21)
    ∷ []

-- overlap bits, and their 14
abbrev pub overlaps : List Case
overlaps =
    -- one bit of twelve and seven
    rules (sheet_of lapped_lines) (takes lapped_content)
    -- 4 of 1-4
    ∷ rules (changing 7 "1,1,4,1-4") (refuses 14 7)
    -- 3 of 1-4, and two bits next
    ∷ rules (sheet_of (changed 7 "1,1,3,1-4" (added 8 "1,2,0,1-2" wall_lines))) (refuses 14 8)
    -- of the last component of two, and of one alone
    ∷ rules (sheet_of (changed 7 "1,1,0,1-4" (added 8 "1,2,1,1-4" wall_lines))) (refuses 14 9)
    ∷ rules (changing 7 "1,1,1,1-12") (refuses 14 8)
    ∷ []

-- 15 and 16
abbrev pub identifiers : List Case
identifiers =
    -- two parameters named Sync; and cut after that line
    rules (changing 16 "Sync,PCH,,False,,,") (refuses 15 16)
    ∷ rules (sheet_of (take 16 (changed 16 "Sync,PCH,,False,,," wall_lines))) (refuses 15 16)
    -- identifier value 4096 in 12 bits
    ∷ rules (changing 11 "4096,,,") (refuses 16 5)
    -- both of these
    ∷ rules (sheet_of (changed 11 "4096,,," (changed 16 "Sync,PCH,,False,,," wall_lines))) (refuses 15 16)
    -- Pitch an identifier too, unsigned, of value 5, in the same subframe
    ∷ rules (sheet_of (changed 16 "Pitch,PCH,,True,,," (changed 21 "False,,,deg," (changed 22 "5,,," wall_lines)))) (refuses 16 15)
    -- Pitch alone
    ∷ rules (sheet_of (take 4 wall_lines ++ drop 14 wall_lines)) (refuses 16 0)
    -- two subframes and one identifier
    ∷ rules (changing 2 (header_for "2")) (refuses 16 0)
    ∷ []

-- seconds
abbrev pub durations : List Case
durations =
    -- 2 1/6 and 0.25
    rules (sheet_of (lasting_lines "2 1/6")) (takes (lasting_content 13 6))
    ∷ rules (sheet_of (lasting_lines "0.25")) (takes (lasting_content 1 4))
    -- 1/0
    ∷ rules (sheet_of (lasting_lines "1/0")) (refuses 11 4)
    ∷ []

abbrev pub cases : List Case
cases = ends ++ (orders ++ (samples ++ (overlaps ++ (identifiers ++ durations))))

joined_again : sheet_of wall_lines ≡ wall_sheet
unfolding lines_of
joined_again = refl

joined_taken : told (judge_of (sheet_of wall_lines)) ≡ takes wall
joined_taken = ap told (ap judge_of joined_again ∙ wall_accepted)

both_hold : (xs ys : List Case) → AllHold xs → AllHold ys → AllHold (xs ++ ys)
both_hold [] ys h k = k
both_hold (x ∷ xs) ys h k = (h.0, both_hold xs ys h.1 k)

ends_hold : AllHold ends
unfolding same every gcd_in gcd lowest_terms clash clash_any twice width before position first trim_start trim_end trim index_of count_of holds up_to past blank_line field_count piece_of field_of keyword_of all_clean lines_of line_judged all_digits digits_up_to place_of places number is_marked text_judged version_judged empty_judged says_true says_false truth_judged truth_of truth_or_empty_judged integer_judged integer_of declared_judged declared_of margin_of margin_as label_judged label_of millionths decimal_judged decimal_of delay_judged low_bit high_bit bits_judged bits_of component_bits_judged component_bits_of source_bits_judged is_fraction is_seconds fraction_of bad_fraction top_of bottom_of seconds_judged seconds_of word_form count_form either_form opening_form after_sample_form form_of pair_index declared_for range_judged word_counts piece pieces width_of named_apart identifier_ok identified_apart identifies taken spread samples_of components_of all_components_of words_of bitsOfPairs room_for_parameter room_for_sample room_for_component spots given last_overlap joined_test unlike_first width_test apart_from first_bad identified run judge_of
ends_hold = (joined_taken, (refl, (refl, (refl, (refl, (refl, (refl, (refl, (refl, (refl, (refl, tt)))))))))))

orders_hold : AllHold orders
unfolding same every gcd_in gcd lowest_terms clash clash_any twice width before position first trim_start trim_end trim index_of count_of holds up_to past blank_line field_count piece_of field_of keyword_of all_clean lines_of line_judged all_digits digits_up_to place_of places number is_marked text_judged version_judged empty_judged says_true says_false truth_judged truth_of truth_or_empty_judged integer_judged integer_of declared_judged declared_of margin_of margin_as label_judged label_of millionths decimal_judged decimal_of delay_judged low_bit high_bit bits_judged bits_of component_bits_judged component_bits_of source_bits_judged is_fraction is_seconds fraction_of bad_fraction top_of bottom_of seconds_judged seconds_of word_form count_form either_form opening_form after_sample_form form_of pair_index declared_for range_judged word_counts piece pieces width_of named_apart identifier_ok identified_apart identifies taken spread samples_of components_of all_components_of words_of bitsOfPairs room_for_parameter room_for_sample room_for_component spots given last_overlap joined_test unlike_first width_test apart_from first_bad identified run judge_of
orders_hold = (refl, (refl, (refl, (refl, (refl, (refl, (refl, (refl, (refl, (refl, (refl, (refl, (refl, (refl, (refl, (refl, tt))))))))))))))))

samples_hold : AllHold samples
unfolding same every gcd_in gcd lowest_terms clash clash_any twice width before position first trim_start trim_end trim index_of count_of holds up_to past blank_line field_count piece_of field_of keyword_of all_clean lines_of line_judged all_digits digits_up_to place_of places number is_marked text_judged version_judged empty_judged says_true says_false truth_judged truth_of truth_or_empty_judged integer_judged integer_of declared_judged declared_of margin_of margin_as label_judged label_of millionths decimal_judged decimal_of delay_judged low_bit high_bit bits_judged bits_of component_bits_judged component_bits_of source_bits_judged is_fraction is_seconds fraction_of bad_fraction top_of bottom_of seconds_judged seconds_of word_form count_form either_form opening_form after_sample_form form_of pair_index declared_for range_judged word_counts piece pieces width_of named_apart identifier_ok identified_apart identifies taken spread samples_of components_of all_components_of words_of bitsOfPairs room_for_parameter room_for_sample room_for_component spots given last_overlap joined_test unlike_first width_test apart_from first_bad identified run judge_of
samples_hold = (refl, (refl, (refl, (refl, (refl, (refl, (refl, (refl, (refl, (refl, tt))))))))))

overlaps_hold : AllHold overlaps
unfolding same every gcd_in gcd lowest_terms clash clash_any twice width before position first trim_start trim_end trim index_of count_of holds up_to past blank_line field_count piece_of field_of keyword_of all_clean lines_of line_judged all_digits digits_up_to place_of places number is_marked text_judged version_judged empty_judged says_true says_false truth_judged truth_of truth_or_empty_judged integer_judged integer_of declared_judged declared_of margin_of margin_as label_judged label_of millionths decimal_judged decimal_of delay_judged low_bit high_bit bits_judged bits_of component_bits_judged component_bits_of source_bits_judged is_fraction is_seconds fraction_of bad_fraction top_of bottom_of seconds_judged seconds_of word_form count_form either_form opening_form after_sample_form form_of pair_index declared_for range_judged word_counts piece pieces width_of named_apart identifier_ok identified_apart identifies taken spread samples_of components_of all_components_of words_of bitsOfPairs room_for_parameter room_for_sample room_for_component spots given last_overlap joined_test unlike_first width_test apart_from first_bad identified run judge_of
overlaps_hold = (refl, (refl, (refl, (refl, (refl, tt)))))

identifiers_hold : AllHold identifiers
unfolding same every gcd_in gcd lowest_terms clash clash_any twice width before position first trim_start trim_end trim index_of count_of holds up_to past blank_line field_count piece_of field_of keyword_of all_clean lines_of line_judged all_digits digits_up_to place_of places number is_marked text_judged version_judged empty_judged says_true says_false truth_judged truth_of truth_or_empty_judged integer_judged integer_of declared_judged declared_of margin_of margin_as label_judged label_of millionths decimal_judged decimal_of delay_judged low_bit high_bit bits_judged bits_of component_bits_judged component_bits_of source_bits_judged is_fraction is_seconds fraction_of bad_fraction top_of bottom_of seconds_judged seconds_of word_form count_form either_form opening_form after_sample_form form_of pair_index declared_for range_judged word_counts piece pieces width_of named_apart identifier_ok identified_apart identifies taken spread samples_of components_of all_components_of words_of bitsOfPairs room_for_parameter room_for_sample room_for_component spots given last_overlap joined_test unlike_first width_test apart_from first_bad identified run judge_of
identifiers_hold = (refl, (refl, (refl, (refl, (refl, (refl, (refl, tt)))))))

-- 0.25, by computation but for its lowest terms
quarter_computed : told (judge_of (sheet_of (lasting_lines "0.25"))) ≡ takes (lasting_content (lowest_terms 250000 1000000).numerator (lowest_terms 250000 1000000).denominator)
unfolding same every clash clash_any twice width before position first trim_start trim_end trim index_of count_of holds up_to past blank_line field_count piece_of field_of keyword_of all_clean lines_of line_judged all_digits digits_up_to place_of places number is_marked text_judged version_judged empty_judged says_true says_false truth_judged truth_of truth_or_empty_judged integer_judged integer_of declared_judged declared_of margin_of margin_as label_judged label_of millionths decimal_judged decimal_of delay_judged low_bit high_bit bits_judged bits_of component_bits_judged component_bits_of source_bits_judged is_fraction is_seconds fraction_of bad_fraction top_of bottom_of seconds_judged seconds_of word_form count_form either_form opening_form after_sample_form form_of pair_index declared_for range_judged word_counts piece pieces width_of named_apart identifier_ok identified_apart identifies taken spread samples_of components_of all_components_of words_of bitsOfPairs room_for_parameter room_for_sample room_for_component spots given last_overlap joined_test unlike_first width_test apart_from first_bad identified run judge_of
quarter_computed = refl

quarter_taken : told (judge_of (sheet_of (lasting_lines "0.25"))) ≡ takes (lasting_content 1 4)
quarter_taken = quarter_computed ∙ ap (λ r. takes (lasting_content r.numerator r.denominator)) quarter_terms

durations_hold : AllHold durations
unfolding same every gcd_in gcd lowest_terms clash clash_any twice width before position first trim_start trim_end trim index_of count_of holds up_to past blank_line field_count piece_of field_of keyword_of all_clean lines_of line_judged all_digits digits_up_to place_of places number is_marked text_judged version_judged empty_judged says_true says_false truth_judged truth_of truth_or_empty_judged integer_judged integer_of declared_judged declared_of margin_of margin_as label_judged label_of millionths decimal_judged decimal_of delay_judged low_bit high_bit bits_judged bits_of component_bits_judged component_bits_of source_bits_judged is_fraction is_seconds fraction_of bad_fraction top_of bottom_of seconds_judged seconds_of word_form count_form either_form opening_form after_sample_form form_of pair_index declared_for range_judged word_counts piece pieces width_of named_apart identifier_ok identified_apart identifies taken spread samples_of components_of all_components_of words_of bitsOfPairs room_for_parameter room_for_sample room_for_component spots given last_overlap joined_test unlike_first width_test apart_from first_bad identified run judge_of
durations_hold = (refl, (quarter_taken, (refl, tt)))

pub examples : AllHold cases
examples = both_hold ends (orders ++ (samples ++ (overlaps ++ (identifiers ++ durations)))) ends_hold (both_hold orders (samples ++ (overlaps ++ (identifiers ++ durations))) orders_hold (both_hold samples (overlaps ++ (identifiers ++ durations)) samples_hold (both_hold overlaps (identifiers ++ durations) overlaps_hold (both_hold identifiers durations identifiers_hold durations_hold))))
