-- What the lines before a parameter's samples leave known: the header, the record pairs, `PARAMETER:` and the names.
-- Assumes nothing.
use mathlib.Core.Path.{◌≡◌, refl, ap}
use mathlib.Core.Bool.{true, false}
use mathlib.Core.List.{List, [], ◌∷◌, ◌++◌}
use Prim.Native.Nat.{ℕ, zero, suc, ◌<◌}
use native.Mathlib.Omega.{arith}
use borrow.Author.Tests.{leb-false, not-false}
use lib.ListN.{length, get_or}
use Rattle.std.specs.Prelude.{Ok}
use Rattle.lay.proofs.Tests.{and_0, and_1}
use Rattle.text.specs.Fields.{field_of}
use Rattle.written.proofs.Passing.{when_false}
use Rattle.lines.specs.Line.{all_clean, raw_hits}
use Rattle.lines.specs.Order.{hits, line_judged}
use Rattle.lines.proofs.Orders.{first_none}
use Rattle.lineforms.specs.declared.due.Form.{Form}
use Rattle.lineforms.specs.declared.due.Form.TheVariants as form
use Rattle.model.specs.Content.{Parameter, no_subframe, no_parameter, no_sample}
use Rattle.model.specs.Forms.{sheet_limits}
use Rattle.model.specs.Identifiers.{named_apart}
use Rattle.model.specs.Samples.{width_of}
use Rattle.model.specs.Meaning.{SubframeLaw, SampleLaw, NamedApart}
use Rattle.model.proofs.Meanings.{apart_law}
use Rattle.gather.specs.Book.{Book, subframe_of, named_of, components_of, grow}
use Rattle.gather.specs.Tests.{tests_of, room_for_parameter, apart_from}
use Rattle.gather.proofs.Rows.{Each, each_none, each_more}
use Rattle.gather.proofs.FieldBytes.{field_text, field_some}
use Rattle.gather.proofs.Amounts.{integer_amount, margin_amount, seconds_amount}
use Rattle.gather.proofs.Sound.{subs_of, Fresh, Headed, Between, Named, Closed}

-- every test of a line that passes: three of the raw line, 5, 12, its fields, 14 and 15
pub passed : (f : Form) (K : Book) (l : List ℕ) → line_judged true l (tests_of f K l) ≡ Ok tt → (i : ℕ) → get_or (raw_hits true l ++ hits (tests_of f K l)) i (Ok tt) ≡ Ok tt
unfolding line_judged
passed f K l e i = first_none (raw_hits true l ++ hits (tests_of f K l)) e i

module _ (K : Book) (l : List ℕ) where
  -- the header line
  pub heads : Fresh K → line_judged true l (tests_of form.HeaderLine K l) ≡ Ok tt → Headed (grow form.HeaderLine l K)
  heads h e =
      let q = passed form.HeaderLine K l e in
      let s = integer_amount (field_of 11 l) 6 1 sheet_limits.subframes (q 16) in
      record {
        some = s.0;
        few = s.1;
        each = each_none (SubframeLaw sheet_limits) no_subframe K.pairs h.no_pairs;
        no_parameters = h.no_parameters;
        no_parts = h.no_parts;
      }

  -- a record pair's line
  pair_law : line_judged true l (tests_of form.RecordLine K l) ≡ Ok tt → SubframeLaw sheet_limits (subframe_of l)
  pair_law e =
      let q = passed form.RecordLine K l e in
      let b = integer_amount (field_of 0 l) 6 1 sheet_limits.bits (q 5) in
      let w = integer_amount (field_of 1 l) 6 1 sheet_limits.words (q 6) in
      record {
        some_bits = b.0;
        few_bits = b.1;
        some_words = w.0;
        few_words = w.1;
        leading = margin_amount (field_of 2 l) (q 7);
        trailing = margin_amount (field_of 3 l) (q 8);
        seconds = seconds_amount (field_of 4 l) (q 9);
      }

  pub records : Headed K → line_judged true l (tests_of form.RecordLine K l) ≡ Ok tt → Headed (grow form.RecordLine l K)
  records h e =
      record {
        some = h.some;
        few = h.few;
        each = each_more (SubframeLaw sheet_limits) no_subframe K.pairs (subframe_of l) h.each (pair_law e);
        no_parameters = h.no_parameters;
        no_parts = h.no_parts;
      }

  -- 12 on the line that opens a parameter
  room_parameter : room_for_parameter K ≡ Ok tt → length K.parameters < sheet_limits.parameters
  unfolding room_for_parameter
  room_parameter e = leb-false sheet_limits.parameters (length K.parameters) (when_false _ _ e)

  pub opens_parameter : Between K → line_judged true l (tests_of form.ParameterWord K l) ≡ Ok tt → Named (grow form.ParameterWord l K)
  opens_parameter h e = record { between = h; room = room_parameter (passed form.ParameterWord K l e 4) }

-- ---- the names

apart_each : (ps : List Parameter) (q : Parameter) → apart_from ps q ≡ true → Each (λ p. NamedApart p q) no_parameter ps
unfolding apart_from
apart_each [] q e k l = absurd (omega arith)
apart_each (p ∷ ps) q e zero l = apart_law p q (and_0 (named_apart p q) (apart_from ps q) e)
apart_each (p ∷ ps) q e (suc k) l = apart_each ps q (and_1 (named_apart p q) (apart_from ps q) e) k (omega arith)

module _ (K : Book) (l : List ℕ) where
  pub names_parameter : Named K → line_judged true l (tests_of form.NameLine K l) ≡ Ok tt → Closed (grow form.NameLine l K)
  unfolding components_of
  names_parameter h e =
      let q = passed form.NameLine K l e in
      let b = h.between in
      let c = not-false (all_clean l) (when_false _ _ (q 2)) in
      let a = apart_each K.parameters (named_of l) (not-false _ (when_false _ _ (q 13))) in
      let z = ap length b.no_parts in
      record {
        opened =
            record {
              ground = b.ground;
              whole = b.whole;
              room = h.room;
              names =
                  record {
                    named = field_some 0 l (q 5);
                    name = field_text 0 l true c (q 5);
                    mnemonic = field_text 1 l false c (q 6);
                    identification = field_text 2 l false c (q 7);
                    apart = λ k m.
                        let r = a k m in
                        record { name = r.name; mnemonic = r.mnemonic; identification = r.identification };
                  };
              value = record { plain = λ t. refl; few = omega arith };
              samples =
                  record {
                    few = omega arith;
                    each = each_none (SampleLaw sheet_limits (subs_of K)) no_sample [] refl;
                    alike = each_none (λ s. width_of (subs_of K) s ≡ width_of (subs_of K) no_sample) no_sample [] refl;
                  };
              few_samples = omega (arith, b.few_samples);
              few_components = omega (arith, b.few_components);
            };
        no_parts = b.no_parts;
      }
