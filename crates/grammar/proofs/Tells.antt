-- Forwards: a line that passes is a written line, and with it what is left grows by one line. What a step is, and the lines
-- up to the first parameter. Assumes nothing.
use mathlib.Core.Path.{◌≡◌, refl, sym, ap, ◌∙◌}
use mathlib.Core.Logic.{◌⊎◌, inl, inr}
use mathlib.Core.Bool.{Bool, true, false, cond}
use mathlib.Core.List.{List, [], ◌∷◌, ◌++◌, append_assoc, append-nil}
use Prim.Native.Nat.{ℕ, ◌≤◌}
use native.Mathlib.Omega.{arith}
use borrow.Author.Tests.{eqb-true}
use lib.Dec.{eqb}
use lib.ListN.{length, get_or}
use Rattle.lay.specs.Below.{tab}
use Rattle.text.specs.Blanks.{trim}
use Rattle.text.specs.Fields.{field_count}
use Rattle.text.specs.Keywords.{header_word, record_word, none_word, parameter_word}
use Rattle.text.specs.declared.keyword.Keyword.TheVariants as keyword
use Rattle.lineforms.specs.Forms.{due_after}
use Rattle.lineforms.specs.Said.{subframes_in}
use Rattle.lineforms.specs.declared.due.Due.{Due}
use Rattle.lineforms.specs.declared.due.Due.TheVariants as due
use Rattle.lineforms.specs.declared.due.Form.{Form}
use Rattle.lineforms.specs.declared.due.Form.TheVariants as form
use Rattle.model.specs.Content.{Content, Parameter, Subframe, no_subframe, subframes}
use Rattle.gather.specs.Book.{Book, subframe_of, grow, spread}
use Rattle.gather.proofs.Sound.{Sound}
use Rattle.grammar.specs.Items.{Item, Text}
use Rattle.grammar.specs.Written.{Line}
use Rattle.grammar.specs.Says.{word, header_line, record_line, Declare, parameters_of}
use Rattle.grammar.proofs.Partings.{trim_word, count_blank}
use Rattle.grammar.proofs.HeadKinds.{header_told, record_told}
use Rattle.grammar.proofs.Left.{Left}
use Rattle.grammar.proofs.Passings.{Passing}
use Rattle.grammar.proofs.Worded.{spoken_text}

-- one line more before what is left
pub record Extended (d : Due) (K : Book) (l : List ℕ) (c : Content) (ls : List (List Item)) : Type 0 where
  pub items : List Item
  pub line : Line l items
  pub left : Left d K c (items ∷ ls)

-- where d is due, a line of this form
abbrev pub Tells : Due → Book → List ℕ → Content → List (List Item) → Form → Type 0
Tells d K l c ls f = Sound d K → Passing f K l → Left (due_after f) (grow f l K) c ls → Extended d K l c ls

-- ---- what one pair, or one each, declare

module _ (s : ℕ) (pairs subs : List Subframe) where
  pub spread_declare : subs ≡ spread s pairs → length subs ≡ s → Declare pairs subs
  unfolding spread
  spread_declare e n = go (eqb (length pairs) 1) refl e pairs refl
    where
      go : (t : Bool) → eqb (length pairs) 1 ≡ t → subs ≡ cond t (tab s (λ i. get_or pairs 0 no_subframe)) pairs → (ps : List Subframe) → pairs ≡ ps → Declare pairs subs
      go false q h ps r = inl (sym h)
      go true q h [] r = absurd (omega (arith, eqb-true (length pairs) 1 q, ap length r))
      go true q h (p ∷ []) r =
          inr (p, r, h ∙ ap (λ (l : List Subframe). tab s (λ i. get_or l 0 no_subframe)) r ∙ ap (λ (k : ℕ). tab k (λ i. p)) (sym n))
      go true q h (p ∷ x ∷ ps) r = absurd (omega (arith, eqb-true (length pairs) 1 q, ap length r))

module _ (K : Book) (l : List ℕ) (c : Content) (ls : List (List Item)) where
  -- ---- lines that are not due

  pub tells_stray : (d : Due) → Tells d K l c ls form.Stray
  tells_stray d s p x = absurd (cc (p.due))

  pub tells_superframe : (d : Due) → Tells d K l c ls form.Superframe
  tells_superframe d s p x = absurd (cc (p.due))

  -- ---- words and blank lines

  word_line : (w : List ℕ) → Text w → trim l ≡ w → length l ≤ 1024 → Line l (word w)
  word_line w t e n = record { short = n; fields = trim_word l w e t }

  pub blank_line_lem : field_count l ≡ 0 → length l ≤ 1024 → Line l []
  blank_line_lem e n = record { short = n; fields = count_blank l e }

  -- ---- the header

  pub tells_header_word : trim l ≡ header_word → Tells due.HeaderWord K l c ls form.HeaderWord
  tells_header_word e s p x =
      record {
        items = word header_word;
        line = word_line header_word (spoken_text keyword.Header) e p.short;
        left = record { rest = ls; lines = refl; left = x };
      }

  pub tells_header : field_count l ≡ 14 → Tells due.HeaderLine K l c ls form.HeaderLine
  tells_header e s p x =
      let m = x.left.made in
      let q = header_told l p.clean e p.fields in
      record {
        items = header_line c.sequential (subframes c);
        line = record { short = p.short; fields = rw (m.sequential, m.count) q };
        left =
            record {
              pairs = x.left.pairs;
              told = x.left.told;
              declare =
                  spread_declare (subframes_in l) x.left.pairs c.subframes
                  (m.subframes ∙ ap (λ (k : List Subframe). spread (subframes_in l) (k ++ x.left.pairs)) s.no_pairs)
                  m.count;
              list = sym (m.list ∙ ap (λ (k : List Parameter). k ++ parameters_of x.left.told) s.no_parameters);
              lines = ap (λ (k : List (List Item)). header_line c.sequential (subframes c) ∷ k) x.left.lines;
              no_pairs = s.no_pairs;
              no_parameters = s.no_parameters;
              no_parts = s.no_parts;
            };
      }

  -- ---- the record pairs

  pub tells_record_word : trim l ≡ record_word → Tells due.RecordWord K l c ls form.RecordWord
  tells_record_word e s p x =
      record {
        items = word record_word;
        line = word_line record_word (spoken_text keyword.Record) e p.short;
        left =
            record {
              left =
                  record {
                    pairs = x.pair ∷ x.pairs;
                    told = x.told;
                    lines = ap (λ (k : List (List Item)). word record_word ∷ k) x.lines;
                    made = x.made;
                  };
              some = omega arith;
            };
      }

  pub tells_next_word : trim l ≡ record_word → Tells due.Opening K l c ls form.RecordWord
  tells_next_word e s p x =
      record {
        items = word record_word;
        line = word_line record_word (spoken_text keyword.Record) e p.short;
        left =
            record {
              pairs = x.pair ∷ x.pairs;
              told = x.told;
              lines = ap (λ (k : List (List Item)). word record_word ∷ k) x.lines;
              made = x.made;
            };
      }

  pub tells_record : field_count l ≡ 5 → Tells due.RecordLine K l c ls form.RecordLine
  tells_record e s p x =
      let m = x.made in
      let a = append_assoc K.pairs (subframe_of l ∷ []) x.pairs in
      record {
        items = record_line (subframe_of l);
        line = record { short = p.short; fields = record_told l p.clean e p.fields };
        left =
            record {
              pair = subframe_of l;
              pairs = x.pairs;
              told = x.told;
              lines = ap (λ (k : List (List Item)). record_line (subframe_of l) ∷ k) x.lines;
              made =
                  record {
                    sequential = m.sequential;
                    count = m.count;
                    subframes = m.subframes ∙ ap (spread K.declared) a;
                    number = rw a at m.number;
                    list = m.list;
                    no_parts = m.no_parts;
                  };
            };
      }

  -- ---- after the pairs: one for all subframes, or one each

  all_pairs : (length K.pairs ≡ 1) ⊎ (length K.pairs ≡ K.declared) → (length (K.pairs ++ []) ≡ 1) ⊎ (length (K.pairs ++ []) ≡ K.declared)
  all_pairs h = rw (append-nil K.pairs) h

  pub tells_none : (length K.pairs ≡ 1) ⊎ (length K.pairs ≡ K.declared) → trim l ≡ none_word → Tells due.Opening K l c ls form.NoneWord
  tells_none n e s p x =
      let m = x.made in
      record {
        items = word none_word;
        line = word_line none_word (spoken_text keyword.Nothing) e p.short;
        left =
            record {
              pairs = [];
              told = [];
              lines = ap (λ (k : List (List Item)). word none_word ∷ k) x.lines;
              made =
                  record {
                    sequential = m.sequential;
                    count = m.count;
                    subframes = m.subframes ∙ ap (spread K.declared) (sym (append-nil K.pairs));
                    number = all_pairs n;
                    list = m.list;
                    no_parts = s.no_parts;
                  };
            };
      }

  pub tells_first : (length K.pairs ≡ 1) ⊎ (length K.pairs ≡ K.declared) → trim l ≡ parameter_word → Tells due.Opening K l c ls form.ParameterWord
  tells_first n e s p x =
      let m = x.made in
      record {
        items = word parameter_word;
        line = word_line parameter_word (spoken_text keyword.Parameter) e p.short;
        left =
            record {
              pairs = [];
              told = x.told ∷ x.more;
              lines = ap (λ (k : List (List Item)). word parameter_word ∷ k) x.lines;
              made =
                  record {
                    sequential = m.sequential;
                    count = m.count;
                    subframes = m.subframes ∙ ap (spread K.declared) (sym (append-nil K.pairs));
                    number = all_pairs n;
                    list = m.list;
                    no_parts = s.no_parts;
                  };
            };
      }

  pub tells_next : trim l ≡ parameter_word → Tells due.NextParameter K l c ls form.ParameterWord
  tells_next e s p x =
      record {
        items = word parameter_word;
        line = word_line parameter_word (spoken_text keyword.Parameter) e p.short;
        left =
            record {
              told = x.told ∷ x.more;
              lines = ap (λ (k : List (List Item)). word parameter_word ∷ k) x.lines;
              made = x.made;
              no_parts = x.no_parts;
            };
      }
