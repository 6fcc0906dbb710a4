-- What the lines after a parameter's samples leave known, up to the whole parameter. Assumes nothing.
use mathlib.Core.Path.{◌≡◌, refl}
use mathlib.Core.Bool.{true}
use mathlib.Core.List.{List, [], ◌∷◌, ◌++◌}
use Prim.Native.Nat.{ℕ, ◌<◌}
use native.Mathlib.Omega.{arith}
use borrow.Author.Count.{below_more}
use lib.ListN.{length, get_or, get_or-append}
use lib.Seq.{get_or_at}
use Rattle.std.specs.Prelude.{Ok}
use Rattle.text.specs.Fields.{field_of}
use Rattle.lines.specs.Order.{line_judged}
use Rattle.lineforms.specs.declared.due.Form.TheVariants as form
use Rattle.model.specs.Content.{Parameter, no_parameter}
use Rattle.model.specs.Forms.{sheet_limits}
use Rattle.model.specs.Meaning.{ParameterLaw, NamedApart}
use Rattle.gather.specs.Book.{Book, grow}
use Rattle.gather.specs.Tests.{tests_of}
use Rattle.gather.proofs.Rows.{Each, each_more, length_more}
use Rattle.gather.proofs.Amounts.{value_amount}
use Rattle.gather.proofs.Counts.{samples_more, all_components_more}
use Rattle.gather.proofs.Sound.{subs_of, Between, Filled}
use Rattle.gather.proofs.Headings.{passed}

module _ (K : Book) (l : List ℕ) (h : Filled K) where
  pub signs : Filled (grow form.SignedLine l K)
  signs =
      let o = h.closed.opened in
      record {
        closed =
            record {
              opened =
                  record {
                    ground = o.ground;
                    whole = o.whole;
                    room = o.room;
                    names = o.names;
                    value = o.value;
                    samples = o.samples;
                    few_samples = o.few_samples;
                    few_components = o.few_components;
                  };
              no_parts = h.closed.no_parts;
            };
        some = h.some;
      }

  pub ranges : line_judged true l (tests_of form.RangeLine K l) ≡ Ok tt → Filled (grow form.RangeLine l K)
  ranges e =
      let q = passed form.RangeLine K l e in
      let v = value_amount K.opened.identifier (field_of 0 l) (q 5) in
      let o = h.closed.opened in
      record {
        closed =
            record {
              opened =
                  record {
                    ground = o.ground;
                    whole = o.whole;
                    room = o.room;
                    names = o.names;
                    value = record { plain = v.0; few = v.1 };
                    samples = o.samples;
                    few_samples = o.few_samples;
                    few_components = o.few_components;
                  };
              no_parts = h.closed.no_parts;
            };
        some = h.some;
      }

-- ---- the whole parameter

opened_law : (K : Book) → Filled K → ParameterLaw sheet_limits (subs_of K) K.opened
opened_law K h =
    let o = h.closed.opened in
    record {
      named = o.names.named;
      name = o.names.name;
      mnemonic = o.names.mnemonic;
      identification = o.names.identification;
      plain = o.value.plain;
      value = o.value.few;
      some = h.some;
      few = o.samples.few;
      each = o.samples.each;
      alike = o.samples.alike;
    }

-- one parameter more, named apart from those before it
module _ (ps : List Parameter) (p : Parameter) (last : Each (λ q. NamedApart q p) no_parameter ps) where
  abbrev more : List Parameter
  more = ps ++ (p ∷ [])

  old : (i : ℕ) → i < length ps → get_or more i no_parameter ≡ get_or ps i no_parameter
  old i l = get_or-append ps (p ∷ []) no_parameter i l

  new : get_or more (length ps) no_parameter ≡ p
  new = get_or_at ps p [] no_parameter (length ps) refl

  apart_more : ((i k : ℕ) → i < length ps → k < i → NamedApart (get_or ps k no_parameter) (get_or ps i no_parameter))
      → (i k : ℕ) → i < length more → k < i → NamedApart (get_or more k no_parameter) (get_or more i no_parameter)
  apart_more h i k l m =
      let n = length_more ps p in
      below_more (λ (j : ℕ). k < j → NamedApart (get_or more k no_parameter) (get_or more j no_parameter)) (length ps)
      (λ j a b. rw (old k (omega arith), old j a) (h j k a b))
      (λ b. rw (old k b, new) (last k b))
      i
      (omega arith)
      m

pub ends_parameter : (K : Book) (l : List ℕ) → Filled K → Between (grow form.ParameterEnd l K)
ends_parameter K l h =
    let o = h.closed.opened in
    let n = length_more K.parameters K.opened in
    let s = samples_more K.parameters K.opened in
    let c = all_components_more K.parameters K.opened in
    record {
      ground = o.ground;
      whole =
          record {
            few = omega arith;
            each = each_more (ParameterLaw sheet_limits (subs_of K)) no_parameter K.parameters K.opened o.whole.each (opened_law K h);
            apart =
                apart_more K.parameters K.opened
                (λ k m.
                let r = o.names.apart k m in
                record { name = r.name; mnemonic = r.mnemonic; identification = r.identification })
                o.whole.apart;
          };
      no_parts = h.closed.no_parts;
      few_samples = omega arith;
      few_components = omega arith;
    }
