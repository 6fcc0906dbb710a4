-- The refusals that an ended line itself can have: the numbers 2 to 15, but 4. Assumes nothing.
use Prim.Native.Nat.{ℕ, ◌+◌}
use mathlib.Core.Path.{◌≡◌, refl}
use mathlib.Core.Bool.{Bool, true, false, cond, not, ◌&&◌, ◌||◌}
use mathlib.Core.List.{List, [], ◌∷◌, ◌++◌}
use lib.Dec.{eqb, leb, ltb}
use lib.ListN.{length}
use Rattle.std.specs.Prelude.{Ok, Err}
use Rattle.text.specs.Refusals.{refusal_number, when, first, judged_of, Judged}
use Rattle.lay.specs.Bytes.{same}
use Rattle.text.specs.Blanks.{tab, is_empty}
use Rattle.text.specs.Parts.{holds}
use Rattle.text.specs.declared.refusal.Refusal.{Refusal}
use Rattle.text.specs.declared.refusal.Refusal.TheVariants.{StrayByte, LineTooLong, Misspelt, TextTooLong, FieldEmpty, OtherVersion, NotCarried, OutsideLimit, TooMany, BeyondDeclared, BadSample, Repeated}
use Rattle.spell.specs.Digits.{digits_up_to, number}
use Rattle.spell.specs.Texts.{version, text_judged, version_judged, empty_judged}
use Rattle.spell.specs.Truths.{says_true, says_false, truth_judged, truth_or_empty_judged}
use Rattle.spell.specs.Integers.{most_of_six, highest_label, integer_judged, integer_of, declared_judged, margin_of, label_judged}
use Rattle.spell.specs.Decimals.{is_decimal, decimal_judged, delay_judged}
use Rattle.spell.specs.BitRanges.{highest_source_bit, is_bits, low_bit, high_bit, bits_judged, component_bits_judged, source_bits_judged}
use Rattle.spell.specs.Durations.{slash, is_seconds, fraction_of, bad_fraction, top_of, seconds_judged}
use Rattle.lines.specs.Line.{longest_line, all_clean, raw_hits}
use Rattle.lines.specs.Order.{hits}
use Rattle.sample.specs.Clash.{twice}
use Rattle.lineforms.specs.LineFields.{range_judged}
use Rattle.spell.proofs.AnswerLaws.{integer_same}
use Rattle.lineforms.specs.declared.due.Form.{Form}
use Rattle.lineforms.specs.declared.due.Form.TheVariants.{Stray, Superframe, HeaderWord, HeaderLine, RecordWord, RecordLine, NoneWord, ParameterWord, NameLine, OpeningComponent, ComponentLine, TimeLine, SamplesEnd, SignedLine, RangeLine, SourceLine, LabelLine, SourceEnd, ParameterEnd}
use Rattle.model.specs.Content.{Sample, Component}
use Rattle.model.specs.Forms.{sheet_limits}
use Rattle.model.specs.Rules.{bit_count}
use Rattle.gather.specs.Book.{Book, named_of, samples_so_far, components_so_far}
use Rattle.gather.specs.Tests.{room_for_parameter, room_for_sample, room_for_component, spots, given, last_overlap, joined_test, unlike_first, width_test, apart_from, tests_of}
use Rattle.gather.proofs.Stages.{Stage, form_in, tests_in}

-- "2, .. 15", but not 4, which an ended line cannot have
abbrev pub of_line : Refusal → Bool
of_line r = leb 2 (refusal_number r) && (leb (refusal_number r) 15 && not (eqb (refusal_number r) 4))

abbrev Fair : Judged → Type 0
Fair (Ok _) = Unit
Fair (Err r) = of_line r ≡ true

abbrev AllFair : List Judged → Type 0
AllFair [] = Unit
AllFair (j ∷ js) = Fair j × AllFair js

fair_when : (t : Bool) (r : Refusal) → of_line r ≡ true → Fair (when t r)
fair_when true r h = h
fair_when false r h = tt

fair_first : (js : List Judged) → AllFair js → Fair (first js)
unfolding first
fair_first [] h = tt
fair_first (Ok _ ∷ js) h = fair_first js h.1
fair_first (Err r ∷ js) h = h.0

fair_append : (is js : List Judged) → AllFair is → AllFair js → AllFair (is ++ js)
fair_append [] js h k = k
fair_append (i ∷ is) js h k = (h.0, fair_append is js h.1 k)

-- ---- spellings

text_fair : (n : ℕ) (m : Bool) (f : List ℕ) → Fair (text_judged n m f)
unfolding text_judged
text_fair n m f = fair_first _ (fair_when (ltb n (length f)) TextTooLong refl, (fair_when (m && is_empty f) FieldEmpty refl, (fair_when (holds tab f) Misspelt refl, tt)))

version_fair : (f : List ℕ) → Fair (version_judged f)
unfolding version_judged
version_fair f = fair_first _ (text_fair 200 true f, (fair_when (not (same f version)) OtherVersion refl, tt))

empty_fair : (f : List ℕ) → Fair (empty_judged f)
unfolding empty_judged
empty_fair f = fair_first _ (fair_when (not (is_empty f)) NotCarried refl, tt)

truth_fair : (f : List ℕ) → Fair (truth_judged f)
unfolding truth_judged
truth_fair f = fair_first _ (fair_when (is_empty f) FieldEmpty refl, (fair_when (not (says_true f || says_false f)) Misspelt refl, tt))

truth_or_empty_fair : (f : List ℕ) → Fair (truth_or_empty_judged f)
unfolding truth_or_empty_judged
truth_or_empty_fair f = fair_first _ (fair_when (not (is_empty f || (says_true f || says_false f))) Misspelt refl, tt)

integer_fair : (n a b : ℕ) (f : List ℕ) → Fair (integer_judged n a b f)
unfolding integer_judged
integer_fair n a b f =
    fair_first _ (
      fair_when (is_empty f) FieldEmpty refl,
      (
        fair_when (not (digits_up_to 10 n f)) Misspelt refl,
        (fair_when (not (leb a (number 10 f) && leb (number 10 f) b)) OutsideLimit refl, tt),
      ),
    )

declared_fair : (n : ℕ) (f : List ℕ) → Fair (declared_judged n f)
unfolding declared_judged
declared_fair n f = fair_first _ (integer_fair 6 1 most_of_six f, (fair_when (ltb n (number 10 f)) BeyondDeclared refl, tt))

margin_fair : (n blank : ℕ) (f : List ℕ) → Fair (judged_of (margin_of n blank f))
unfolding margin_of
margin_fair n blank f = go (is_empty f)
  where
    go : (t : Bool) → Fair (judged_of (cond t (Ok blank) (integer_of 6 0 n f)))
    go true = tt
    go false = rw (← integer_same 6 0 n f) (integer_fair 6 0 n f)

label_fair : (f : List ℕ) → Fair (label_judged f)
unfolding label_judged
label_fair f =
    fair_first _ (
      fair_when (is_empty f) FieldEmpty refl,
      (
        fair_when (not (digits_up_to 8 3 f)) Misspelt refl,
        (fair_when (ltb highest_label (number 8 f)) OutsideLimit refl, tt),
      ),
    )

decimal_fair : (n : ℕ) (f : List ℕ) → Fair (decimal_judged n f)
unfolding decimal_judged
decimal_fair n f = fair_first _ (fair_when (is_empty f) FieldEmpty refl, (fair_when (not (is_decimal n f)) Misspelt refl, tt))

delay_fair : (f : List ℕ) → Fair (delay_judged f)
unfolding delay_judged
delay_fair f = fair_first _ (fair_when (not (is_empty f || is_decimal 6 f)) Misspelt refl, tt)

bits_fair : (f : List ℕ) → Fair (bits_judged f)
unfolding bits_judged
bits_fair f =
    fair_first _ (
      fair_when (is_empty f) FieldEmpty refl,
      (
        fair_when (not (is_bits f)) Misspelt refl,
        (fair_when (eqb (low_bit f) 0 || ltb (high_bit f) (low_bit f)) OutsideLimit refl, tt),
      ),
    )

component_bits_fair : (n : ℕ) (f : List ℕ) → Fair (component_bits_judged n f)
unfolding component_bits_judged
component_bits_fair n f = fair_first _ (bits_fair f, (fair_when (ltb n (high_bit f)) BeyondDeclared refl, tt))

source_bits_fair : (f : List ℕ) → Fair (source_bits_judged f)
unfolding source_bits_judged
source_bits_fair f = go (is_empty f)
  where
    go : (t : Bool) → Fair (cond t (Ok tt) (first (bits_judged f ∷ when (ltb highest_source_bit (high_bit f)) OutsideLimit ∷ [])))
    go true = tt
    go false = fair_first _ (bits_fair f, (fair_when (ltb highest_source_bit (high_bit f)) OutsideLimit refl, tt))

seconds_fair : (f : List ℕ) → Fair (seconds_judged f)
unfolding seconds_judged
seconds_fair f =
    fair_first _ (
      fair_when (is_empty f) FieldEmpty refl,
      (
        fair_when (not (is_seconds f)) Misspelt refl,
        (
          fair_when (holds slash f && bad_fraction (fraction_of f)) OutsideLimit refl,
          (fair_when (eqb (top_of f) 0) OutsideLimit refl, tt),
        ),
      ),
    )

range_fair : (t : Bool) (f : List ℕ) → Fair (range_judged t f)
unfolding range_judged
range_fair true f = integer_fair 10 0 sheet_limits.value f
range_fair false f = text_fair 200 false f

-- ---- the tests of a line

parameter_fair : (K : Book) → Fair (room_for_parameter K)
unfolding room_for_parameter
parameter_fair K = fair_when (leb sheet_limits.parameters (length K.parameters)) TooMany refl

sample_fair : (K : Book) → Fair (room_for_sample K)
unfolding room_for_sample
sample_fair K =
    fair_when
    (leb sheet_limits.samples_each (length K.opened.samples)
    || (leb sheet_limits.samples (samples_so_far K) || leb sheet_limits.components (components_so_far K)))
    TooMany
    refl

component_fair : (K : Book) → Fair (room_for_component K)
unfolding room_for_component
component_fair K =
    fair_when (leb sheet_limits.components_each (length K.parts) || leb sheet_limits.components (components_so_far K)) TooMany refl

joined_fair : (cs : List Component) (c : Component) → Fair (joined_test cs c)
unfolding joined_test
joined_fair cs c =
    fair_when
    (twice (spots (cs ++ (c ∷ [])))
    || (ltb sheet_limits.width (given cs + bit_count c) || (leb (bit_count c) c.overlap || ltb (bit_count c) (last_overlap cs))))
    BadSample
    refl

width_fair : (ss : List Sample) (cs : List Component) → Fair (width_test ss cs)
unfolding width_test
width_fair ss cs = fair_when (not (eqb (last_overlap cs) 0) || (ltb (given cs) 1 || unlike_first ss cs)) BadSample refl

tests_fair : (f : Form) (K : Book) (l : List ℕ) → AllFair (hits (tests_of f K l))
tests_fair Stray K l = (refl, (tt, (tt, (tt, tt))))
tests_fair Superframe K l = (refl, (tt, (tt, (tt, tt))))
tests_fair HeaderWord K l = (tt, (tt, (tt, (tt, tt))))
tests_fair HeaderLine K l = (
  tt,
  (
    tt,
    (
      version_fair _,
      (
        text_fair _ _ _,
        (
          text_fair _ _ _,
          (
            text_fair _ _ _,
            (
              text_fair _ _ _,
              (
                text_fair _ _ _,
                (
                  text_fair _ _ _,
                  (
                    text_fair _ _ _,
                    (truth_fair _, (empty_fair _, (empty_fair _, (integer_fair _ _ _ _, (text_fair _ _ _, (text_fair _ _ _, (tt, (tt, tt)))))))),
                  ),
                ),
              ),
            ),
          ),
        ),
      ),
    ),
  ),
)
tests_fair RecordWord K l = (tt, (tt, (tt, (tt, tt))))
tests_fair RecordLine K l =
    (tt, (tt, (integer_fair _ _ _ _, (integer_fair _ _ _ _, (margin_fair _ _ _, (margin_fair _ _ _, (seconds_fair _, (tt, (tt, tt)))))))))
tests_fair NoneWord K l = (tt, (tt, (tt, (tt, tt))))
tests_fair ParameterWord K l = (tt, (parameter_fair K, (tt, (tt, tt))))
tests_fair NameLine K l = (
  tt,
  (
    tt,
    (
      text_fair _ _ _,
      (
        text_fair _ _ _,
        (
          text_fair _ _ _,
          (
            truth_fair _,
            (
              empty_fair _,
              (
                text_fair _ _ _,
                (
                  text_fair _ _ _,
                  (tt, (fair_when (not (apart_from K.parameters (named_of l))) Repeated refl, tt)),
                ),
              ),
            ),
          ),
        ),
      ),
    ),
  ),
)
tests_fair OpeningComponent K l =
    (tt, (sample_fair K, (declared_fair _ _, (declared_fair _ _, (integer_fair _ _ _ _, (component_bits_fair _ _, (joined_fair _ _, (tt, tt))))))))
tests_fair ComponentLine K l =
    (tt, (component_fair K, (declared_fair _ _, (declared_fair _ _, (integer_fair _ _ _ _, (component_bits_fair _ _, (joined_fair _ _, (tt, tt))))))))
tests_fair TimeLine K l = (tt, (tt, (decimal_fair _ _, (width_fair _ _, (tt, tt)))))
tests_fair SamplesEnd K l = (tt, (tt, (tt, (tt, tt))))
tests_fair SignedLine K l =
    (tt, (tt, (truth_fair _, (empty_fair _, (empty_fair _, (text_fair _ _ _, (empty_fair _, (tt, (tt, tt)))))))))
tests_fair RangeLine K l = (tt, (tt, (range_fair _ _, (empty_fair _, (text_fair _ _ _, (delay_fair _, (tt, (tt, tt))))))))
tests_fair SourceLine K l = (tt, (tt, (text_fair _ _ _, (text_fair _ _ _, (text_fair _ _ _, (tt, (tt, tt)))))))
tests_fair LabelLine K l =
    (tt, (tt, (truth_or_empty_fair _, (label_fair _, (source_bits_fair _, (text_fair _ _ _, (tt, (tt, tt))))))))
tests_fair SourceEnd K l = (tt, (tt, (tt, (tt, tt))))
tests_fair ParameterEnd K l = (tt, (tt, (tt, (tt, tt))))

raw_fair : (l : List ℕ) → AllFair (raw_hits true l)
raw_fair l = (tt, (fair_when (ltb longest_line (length l)) LineTooLong refl, (fair_when (not (all_clean l)) StrayByte refl, tt)))

pub line_own : (g : Stage) (l : List ℕ) (r : Refusal) → first (tests_in g l) ≡ Err r → of_line r ≡ true
line_own g l r e = rw e at (fair_first (tests_in g l) (fair_append (raw_hits true l) (hits (tests_of (form_in g l) g.book l)) (raw_fair l) (tests_fair (form_in g l) g.book l)))
