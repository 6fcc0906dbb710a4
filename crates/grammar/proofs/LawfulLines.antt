-- Every line of a lawful Content's sheet has a plain spelling. Assumes nothing.
use mathlib.Core.Path.{refl}
use mathlib.Core.Bool.{Bool, true, false}
use mathlib.Core.List.{List, [], ◌∷◌}
use Prim.Native.Nat.{ℕ, suc, ◌-◌, ◌≤◌, ◌<◌}
use native.Mathlib.Omega.{arith}
use lib.ListN.{length, get_or}
use Rattle.lay.specs.Below.{every}
use Rattle.text.specs.Keywords.{header_word, record_word, none_word, parameter_word}
use Rattle.spell.specs.Texts.{version}
use Rattle.model.specs.Margin.{Margin, Known, Unknown}
use Rattle.model.specs.Content.{Content, Component, Sample, Parameter, Subframe, no_subframe, no_component, no_sample, no_parameter, subframes}
use Rattle.model.specs.Forms.{sheet_limits}
use Rattle.model.specs.Rules.{byte_ok, text_ok}
use Rattle.model.specs.Meaning.{MarginLaw, TextLaw, ComponentLaw, SampleLaw, SubframeLaw, ParameterLaw, Lawful}
use Rattle.model.proofs.Meanings.{text_law}
use Rattle.grammar.specs.Items.{exactly, margin}
use Rattle.grammar.specs.Says.{blank, word, header_line, record_line, record_lines, name_line, component_line, component_lines, sample_lines, signed_line, range, range_line, source_line, parameter_lines, body_lines, sheet_lines}
use Rattle.grammar.specs.Plain.{tellings}
use Rattle.grammar.proofs.PlainItems.{Counted, Sayable, empty_text}
use Rattle.grammar.proofs.PlainLines.{Fine, AllFine, fine_append}

-- ---- items

law_sayable : (t : List ℕ) → TextLaw sheet_limits t → Sayable (exactly t)
law_sayable t h =
    (record { short = omega (arith, h.short); each = h.each; begins = h.begins; ends = h.ends }, h.short)

empty_sayable : Sayable (exactly [])
empty_sayable = (empty_text, omega arith)

six_counted : (v : ℕ) → v < 1000000 → Counted 6 v
six_counted v h = record { some = omega arith; few = omega (arith, h); most = omega (arith, h) }

range_sayable : (b : Bool) (v : ℕ) → v ≤ sheet_limits.value → Sayable (range b v)
range_sayable true v h = record { some = omega arith; few = omega (arith, h); most = omega (arith, h) }
range_sayable false v h = tt

-- ---- lines that are the same in all sheets

word_fine : (w : List ℕ) → TextLaw sheet_limits w → Fine (word w)
word_fine w h = record { sayable = (law_sayable w h, tt); few = omega arith }

-- each of these texts passes the test of texts
version_law : TextLaw sheet_limits version
unfolding text_ok every byte_ok
version_law = text_law sheet_limits version refl

header_word_lem : Fine (word header_word)
unfolding text_ok every byte_ok
header_word_lem = word_fine header_word (text_law sheet_limits header_word refl)

record_word_lem : Fine (word record_word)
unfolding text_ok every byte_ok
record_word_lem = word_fine record_word (text_law sheet_limits record_word refl)

none_word_lem : Fine (word none_word)
unfolding text_ok every byte_ok
none_word_lem = word_fine none_word (text_law sheet_limits none_word refl)

parameter_word_lem : Fine (word parameter_word)
unfolding text_ok every byte_ok
parameter_word_lem = word_fine parameter_word (text_law sheet_limits parameter_word refl)

blank_fine : Fine blank
blank_fine = record { sayable = tt; few = omega arith }

source_fine : Fine source_line
source_fine = record { sayable = (tt, (tt, (tt, tt))); few = omega arith }

-- ---- the others

header_fine : (b : Bool) (n : ℕ) → n ≤ sheet_limits.subframes → Fine (header_line b n)
header_fine b n h =
    record {
      sayable = (
        law_sayable version version_law,
        (tt, (tt, (tt, (tt, (tt, (tt, (tt, (tt, (empty_sayable, (empty_sayable, (six_counted n (omega arith), (tt, (tt, tt))))))))))))),
      );
      few = omega arith;
    }

margin_sayable : (m : Margin) → MarginLaw sheet_limits m → Sayable (margin m)
margin_sayable (Known n) h = omega (arith, h)
margin_sayable Unknown h = tt

record_fine : (p : Subframe) → SubframeLaw sheet_limits p → Fine (record_line p)
record_fine p h =
    record {
      sayable = (
        six_counted p.bits (omega (arith, h.few_bits)),
        (
          six_counted p.words (omega (arith, h.few_words)),
          (margin_sayable p.leading h.leading, (margin_sayable p.trailing h.trailing, (h.seconds, tt))),
        ),
      );
      few = omega arith;
    }

records_fine : (ps : List Subframe) → ((i : ℕ) → i < length ps → SubframeLaw sheet_limits (get_or ps i no_subframe)) → AllFine (record_lines ps)
records_fine [] h = tt
records_fine (p ∷ ps) h = (record_word_lem, (record_fine p (h 0 (omega arith)), records_fine ps (λ i l. h (suc i) (omega arith))))

signed_fine : (b : Bool) → Fine (signed_line b)
signed_fine b = record { sayable = (tt, (empty_sayable, (empty_sayable, (tt, (empty_sayable, tt))))); few = omega arith }

range_fine : (b : Bool) (v : ℕ) → v ≤ sheet_limits.value → Fine (range_line b v)
range_fine b v h = record { sayable = (range_sayable b v h, (empty_sayable, (tt, (tt, tt)))); few = omega arith }

module _ (subs : List Subframe) (few : length subs ≤ sheet_limits.subframes) (each : (i : ℕ) → i < length subs → SubframeLaw sheet_limits (get_or subs i no_subframe)) where
  component_fine : (c : Component) → ComponentLaw subs c → Fine (component_line c)
  component_fine c h =
      let r = each (c.subframe - 1) (omega (arith, h.some_home, h.declared)) in
      record {
        sayable = (
          six_counted c.subframe (omega (arith, h.declared)),
          (
            six_counted c.word (omega (arith, h.word, r.few_words)),
            (
              six_counted c.overlap (omega (arith, h.lapped, h.in_word, r.few_bits)),
              ((omega (arith, h.rising, h.in_word, r.few_bits), omega (arith, h.in_word, r.few_bits)), tt),
            ),
          ),
        );
        few = omega arith;
      }

  components_fine : (cs : List Component) → ((i : ℕ) → i < length cs → ComponentLaw subs (get_or cs i no_component)) → AllFine (component_lines cs)
  components_fine [] h = tt
  components_fine (c ∷ cs) h = (component_fine c (h 0 (omega arith)), components_fine cs (λ i l. h (suc i) (omega arith)))

  samples_fine : (ss : List Sample) → ((i : ℕ) → i < length ss → SampleLaw sheet_limits subs (get_or ss i no_sample)) → AllFine (sample_lines ss)
  samples_fine [] h = tt
  samples_fine (s ∷ ss) h =
      let r : SampleLaw sheet_limits subs s = h 0 (omega arith) in
      fine_append (component_lines s.components) _ (components_fine s.components r.each)
      (record { sayable = (omega (arith, r.time), tt); few = omega arith }, samples_fine ss (λ i l. h (suc i) (omega arith)))

  name_fine : (p : Parameter) → ParameterLaw sheet_limits subs p → Fine (name_line p)
  name_fine p h =
      record {
        sayable = (
          law_sayable p.name h.name,
          (
            law_sayable p.mnemonic h.mnemonic,
            (law_sayable p.identification h.identification, (tt, (empty_sayable, (tt, (tt, tt))))),
          ),
        );
        few = omega arith;
      }

  parameters_fine : (ps : List Parameter) → ((i : ℕ) → i < length ps → ParameterLaw sheet_limits subs (get_or ps i no_parameter)) → AllFine (parameter_lines (tellings ps))
  parameters_fine [] h = tt
  parameters_fine (p ∷ ps) h =
      let r : ParameterLaw sheet_limits subs p = h 0 (omega arith) in (
        parameter_word_lem,
        (
          name_fine p r,
          fine_append (sample_lines p.samples) _ (samples_fine p.samples r.each) (
            blank_fine,
            (
              signed_fine p.signed,
              (
                range_fine p.identifier p.value r.value,
                (source_fine, (blank_fine, (blank_fine, parameters_fine ps (λ i l. h (suc i) (omega arith))))),
              ),
            ),
          ),
        ),
      )

  body_fine : (ps : List Parameter) → ((i : ℕ) → i < length ps → ParameterLaw sheet_limits subs (get_or ps i no_parameter)) → AllFine (body_lines (tellings ps))
  body_fine [] h = (none_word_lem, tt)
  body_fine (p ∷ ps) h = parameters_fine (p ∷ ps) h

pub sheet_fine : (c : Content) → Lawful sheet_limits c → AllFine (sheet_lines c c.subframes (tellings c.parameters))
sheet_fine c h = (
  header_word_lem,
  (
    header_fine c.sequential (subframes c) h.few_subframes,
    fine_append (record_lines c.subframes) _ (records_fine c.subframes h.each_subframe)
        (body_fine c.subframes h.few_subframes h.each_subframe c.parameters h.each_parameter),
  ),
)
