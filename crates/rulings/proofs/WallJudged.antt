-- The sheet on the wall is accepted, and says the wall's Content: by computation, but for the lowest terms of its seconds, which
-- are a lemma's. Assumes nothing.
use mathlib.Core.Path.{◌≡◌, refl, ap, ◌∙◌}
use mathlib.Core.List.{[], ◌∷◌}
use Rattle.lay.specs.Bytes.{same}
use Rattle.lay.specs.Below.{every}
use Rattle.ratio.specs.Ratio.{lowest_terms}
use Rattle.ratio.specs.declared.Ratio.{Ratio}
use Rattle.sample.specs.Clash.{clash, clash_any, twice}
use Rattle.sample.specs.Joining.{width}
use Rattle.sample.specs.Flat.{before, position}
use Rattle.text.specs.Refusals.{first}
use Rattle.text.specs.Blanks.{trim_start, trim_end, trim}
use Rattle.text.specs.Parts.{index_of, count_of, holds, up_to, past}
use Rattle.text.specs.Fields.{blank_line, field_count, piece_of, field_of}
use Rattle.text.specs.Keywords.{keyword_of}
use Rattle.lines.specs.Line.{all_clean}
use Rattle.lines.specs.Lines.{lines_of}
use Rattle.lines.specs.Order.{line_judged}
use Rattle.spell.specs.Digits.{all_digits, digits_up_to, place_of, places, number, is_marked}
use Rattle.spell.specs.Texts.{text_judged, version_judged, empty_judged}
use Rattle.spell.specs.Truths.{says_true, says_false, truth_judged, truth_of, truth_or_empty_judged}
use Rattle.spell.specs.Integers.{integer_judged, integer_of, declared_judged, declared_of, margin_of, label_judged, label_of}
use Rattle.spell.specs.Decimals.{millionths, decimal_judged, decimal_of, delay_judged}
use Rattle.spell.specs.BitRanges.{low_bit, high_bit, bits_judged, bits_of, component_bits_judged, component_bits_of, source_bits_judged}
use Rattle.spell.specs.Durations.{is_fraction, is_seconds, fraction_of, bad_fraction, top_of, bottom_of, seconds_judged, seconds_of}
use Rattle.lineforms.specs.Forms.{word_form, count_form, either_form, opening_form, after_sample_form, form_of}
use Rattle.lineforms.specs.LineFields.{pair_index, declared_for, range_judged}
use Rattle.model.specs.Content.{Content}
use Rattle.model.specs.Margin.{Unknown, margin_as}
use Rattle.model.specs.Samples.{word_counts, piece, pieces, width_of}
use Rattle.model.specs.Identifiers.{named_apart, identifier_ok, identified_apart, identifies, taken}
use Rattle.model.specs.Wall.{wall}
use Rattle.gather.specs.Book.{spread, samples_of, components_of, all_components_of, words_of, bits_of as bitsOfPairs}
use Rattle.gather.specs.Tests.{room_for_parameter, room_for_sample, room_for_component, spots, given, last_overlap, joined_test, unlike_first, width_test, apart_from}
use Rattle.gather.specs.WallSheet.{wall_sheet}
use Rattle.gather.specs.Ruling.{Accepted, first_bad, identified, run, judge_of}
use Rattle.rulings.proofs.DecimalSeconds.{whole_terms}

-- the wall, its subframe lasting so many seconds
abbrev wall_lasting : Ratio → Content
wall_lasting r =
    record {
      sequential = wall.sequential;
      subframes = record { bits = 12; words = 4; leading = Unknown; trailing = Unknown; numerator = r.numerator; denominator = r.denominator } ∷ [];
      parameters = wall.parameters;
    }

wall_computed : judge_of wall_sheet ≡ Accepted (wall_lasting (lowest_terms 1000000 1000000))
unfolding same every clash clash_any twice width before position first trim_start trim_end trim index_of count_of holds up_to past blank_line field_count piece_of field_of keyword_of all_clean lines_of line_judged all_digits digits_up_to place_of places number is_marked text_judged version_judged empty_judged says_true says_false truth_judged truth_of truth_or_empty_judged integer_judged integer_of declared_judged declared_of margin_of margin_as label_judged label_of millionths decimal_judged decimal_of delay_judged low_bit high_bit bits_judged bits_of component_bits_judged component_bits_of source_bits_judged is_fraction is_seconds fraction_of bad_fraction top_of bottom_of seconds_judged seconds_of word_form count_form either_form opening_form after_sample_form form_of pair_index declared_for range_judged word_counts piece pieces width_of named_apart identifier_ok identified_apart identifies taken spread samples_of components_of all_components_of words_of bitsOfPairs room_for_parameter room_for_sample room_for_component spots given last_overlap joined_test unlike_first width_test apart_from first_bad identified run judge_of
wall_computed = refl

pub wall_accepted : judge_of wall_sheet ≡ Accepted wall
wall_accepted = wall_computed ∙ ap (λ r. Accepted (wall_lasting r)) whole_terms
