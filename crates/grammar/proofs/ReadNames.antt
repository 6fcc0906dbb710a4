-- Backwards: `RECORD:`, `NONE` or `PARAMETER:` after a record pair, and a parameter's names. Assumes nothing.
use mathlib.Core.Path.{◌≡◌, refl, sym}
use mathlib.Core.Logic.{◌⊎◌, inl, inr}
use mathlib.Core.Bool.{Bool, true, false, not, cond}
use mathlib.Core.List.{List, [], ◌∷◌, ◌++◌, append-nil}
use Prim.Native.Nat.{ℕ, ◌≤◌}
use native.Mathlib.Omega.{arith}
use borrow.Author.Tests.{eq-eqb, ne_eqb, eqb-false, lt-leb}
use lib.Dec.{eqb}
use lib.ListN.{length, length-append}
use Rattle.std.specs.Prelude.{Ok}
use Rattle.text.specs.Keywords.{record_word, none_word, parameter_word, keyword_of}
use Rattle.text.specs.declared.keyword.Keyword.TheVariants as keyword
use Rattle.written.proofs.Passing.{false_when}
use Rattle.lineforms.specs.Forms.{word_form, opening_form, form_of}
use Rattle.lineforms.specs.declared.due.Due.TheVariants as due
use Rattle.lineforms.specs.declared.due.Form.{Form}
use Rattle.lineforms.specs.declared.due.Form.TheVariants as form
use Rattle.model.specs.Content.{Content, Parameter, Subframe, no_parameter}
use Rattle.model.specs.Forms.{sheet_limits}
use Rattle.model.specs.Meaning.{Lawful, NamedApart}
use Rattle.gather.specs.Book.{Book, named_of}
use Rattle.gather.specs.Tests.{room_for_parameter, apart_from, names_test}
use Rattle.gather.proofs.Rows.{Each}
use Rattle.grammar.specs.Items.{Item}
use Rattle.grammar.specs.Written.{Line}
use Rattle.grammar.specs.Says.{word, record_line, record_lines, body_lines, name_line, sample_lines, closing_lines, Told, parameters_of, parameter_lines}
use Rattle.grammar.proofs.Partings.{word_trim}
use Rattle.grammar.proofs.ParameterKinds.{NameRead, name_read}
use Rattle.grammar.proofs.Left.{regrown, Pairs, RecordsLeft, Grows, ParametersLeft, NameLeft}
use Rattle.grammar.proofs.Middles.{each_apart, middle_law, middle_room, middle_apart}
use Rattle.grammar.proofs.Passings.{none_passes}
use Rattle.grammar.proofs.Worded.{spoken_record, spoken_none, spoken_parameter}
use Rattle.grammar.proofs.ReadLines.{Begun, Step, none_left, first_line, line_passes, count_form_lem}

-- ---- forms

module _ (l : List ℕ) (n s : ℕ) where
  -- with a pair still to come
  opening_pair : keyword_of l ≡ keyword.Record → (n ≡ s → ⊥) → opening_form l n s ≡ form.RecordWord
  unfolding opening_form word_form
  opening_pair k h = rw (ne_eqb n s h, k) (go (eqb n 1))
    where
      go : (t : Bool) → cond t form.RecordWord form.RecordWord ≡ form.RecordWord
      go true = refl
      go false = refl

  -- with none
  opening_end : (f : Form) → word_form l form.Stray form.Stray form.NoneWord form.ParameterWord ≡ f → word_form l form.Stray form.RecordWord form.NoneWord form.ParameterWord ≡ f
      → (n ≡ 1) ⊎ (n ≡ s) → opening_form l n s ≡ f
  unfolding opening_form
  opening_end f a b h = go (eqb n s) refl h
    where
      go : (t : Bool) → eqb n s ≡ t → (n ≡ 1) ⊎ (n ≡ s)
          → cond t (word_form l form.Stray form.Stray form.NoneWord form.ParameterWord)
          (cond (eqb n 1) (word_form l form.Stray form.RecordWord form.NoneWord form.ParameterWord)
          (word_form l form.Stray form.RecordWord form.Stray form.Stray))
          ≡ f
      go true q h = a
      go false q (inl e) = rw (eq-eqb n 1 e) b
      go false q (inr e) = absurd (eqb-false n s q e)

-- ---- the pairs are whole

module _ (K : Book) (c : Content) (told : List Told) (m : Pairs K c [] told) where
  pairs_whole : (length K.pairs ≡ 1) ⊎ (length K.pairs ≡ K.declared)
  pairs_whole = rw (append-nil K.pairs) at m.number

  pairs_grows : Grows K c (parameters_of told)
  pairs_grows =
      record {
        sequential = m.sequential;
        count = m.count;
        subframes = rw (append-nil K.pairs) at m.subframes;
        list = m.list;
      }

-- 12 on the line that opens a parameter
room_passes : (K : Book) (c : Content) (p : Parameter) (ps : List Parameter) → Lawful sheet_limits c → Grows K c (p ∷ ps) → room_for_parameter K ≡ Ok tt
unfolding room_for_parameter
room_passes K c p ps h m = false_when _ _ (lt-leb sheet_limits.parameters (length K.parameters) (middle_room c h K.parameters p ps m.list))

module _ (K : Book) (l : List ℕ) (c : Content) (items : List Item) (ls : List (List Item)) (h : Lawful sheet_limits c) (line : Line l items) where
  -- ---- after a record pair

  opening_none : Pairs K c [] [] → items ∷ ls ≡ word none_word ∷ [] → Step due.Opening K l c ls
  unfolding form_of word_form
  opening_none m e =
      let f = first_line l items (word none_word) ls [] line e in
      let k = spoken_none l (word_trim l none_word f.line.fields) in
      record {
        form = form.NoneWord;
        is = opening_end l (length K.pairs) K.declared form.NoneWord (rw k) (rw k) (pairs_whole K c [] m);
        pass = line_passes K l items line form.NoneWord refl refl none_passes refl refl;
        left = record { lines = f.rest; made = pairs_grows K c [] m };
        begun = tt;
      }

  abbrev named : Told → List Told → List (List Item)
  named t ts =
      name_line t.parameter
      ∷ (sample_lines t.parameter.samples
      ++ closing_lines t.parameter.signed t.parameter.identifier t.parameter.value (t.source ∷ t.more) (parameter_lines ts))

  opening_parameter : (t : Told) (ts : List Told) → Pairs K c [] (t ∷ ts) → items ∷ ls ≡ word parameter_word ∷ named t ts → Step due.Opening K l c ls
  unfolding form_of word_form
  opening_parameter t ts m e =
      let f = first_line l items (word parameter_word) ls (named t ts) line e in
      let k = spoken_parameter l (word_trim l parameter_word f.line.fields) in
      let g = pairs_grows K c (t ∷ ts) m in
      record {
        form = form.ParameterWord;
        is = opening_end l (length K.pairs) K.declared form.ParameterWord (rw k) (rw k) (pairs_whole K c (t ∷ ts) m);
        pass = line_passes K l items line form.ParameterWord refl (room_passes K c t.parameter (parameters_of ts) h g) none_passes refl refl;
        left = record { told = t; more = ts; lines = f.rest; made = g; no_parts = m.no_parts };
        begun = tt;
      }

  opening_record : (p : Subframe) (pairs : List Subframe) (told : List Told) → 1 ≤ length K.pairs → Pairs K c (p ∷ pairs) told
      → items ∷ ls ≡ word record_word ∷ record_line p ∷ (record_lines pairs ++ body_lines told) → Step due.Opening K l c ls
  unfolding form_of
  opening_record p pairs told b m e =
      let f = first_line l items (word record_word) ls (record_line p ∷ (record_lines pairs ++ body_lines told)) line e in
      record {
        form = form.RecordWord;
        is =
            opening_pair l (length K.pairs) K.declared (spoken_record l (word_trim l record_word f.line.fields)) (between m.number);
        pass = line_passes K l items line form.RecordWord refl refl none_passes refl refl;
        left = record { pair = p; pairs = pairs; told = told; lines = f.rest; made = m };
        begun = tt;
      }
    where
      between : (length (K.pairs ++ (p ∷ pairs)) ≡ 1) ⊎ (length (K.pairs ++ (p ∷ pairs)) ≡ K.declared) → length K.pairs ≡ K.declared → ⊥
      between (inl e) q = omega (arith, length-append K.pairs (p ∷ pairs))
      between (inr e) q = omega (arith, length-append K.pairs (p ∷ pairs))

  pub reads_opening : Begun due.Opening K → RecordsLeft K c (items ∷ ls) → Step due.Opening K l c ls
  reads_opening b x = go x.pairs x.told x.lines x.made
    where
      go : (pairs : List Subframe) (told : List Told) → items ∷ ls ≡ record_lines pairs ++ body_lines told → Pairs K c pairs told → Step due.Opening K l c ls
      go [] [] e m = opening_none m e
      go [] (t ∷ ts) e m = opening_parameter t ts m e
      go (p ∷ pairs) told e m = opening_record p pairs told b m e

  -- ---- after a parameter

  pub reads_next : ParametersLeft K c (items ∷ ls) → Step due.NextParameter K l c ls
  unfolding form_of word_form
  reads_next x = go x.told x.lines x.made
    where
      go : (told : List Told) → items ∷ ls ≡ parameter_lines told → Grows K c (parameters_of told) → Step due.NextParameter K l c ls
      go [] e m = none_left (sym e)
      go (t ∷ ts) e m =
          let f = first_line l items (word parameter_word) ls (named t ts) line e in
          record {
            form = form.ParameterWord;
            is = rw (spoken_parameter l (word_trim l parameter_word f.line.fields));
            pass = line_passes K l items line form.ParameterWord refl (room_passes K c t.parameter (parameters_of ts) h m) none_passes refl refl;
            left = record { told = t; more = ts; lines = f.rest; made = m; no_parts = x.no_parts };
            begun = tt;
          }

  -- ---- the names

  names_passes : (p : Parameter) (ps : List Parameter) → Grows K c (p ∷ ps) → NameRead l p → names_test form.NameLine K l ≡ Ok tt
  names_passes p ps m r =
      let a = middle_apart c h K.parameters p ps m.list in
      let w : Each (λ q. NamedApart q (named_of l)) no_parameter K.parameters =
      λ k i.
      let b = a k i in
      record {
        name = rw r.name b.name;
        mnemonic = rw r.mnemonic b.mnemonic;
        identification = rw r.identification b.identification;
      }
      in
      let t : not (apart_from K.parameters (named_of l)) ≡ false = rw (each_apart K.parameters (named_of l) w) in
      false_when _ _ t

  pub reads_name : NameLeft K c (items ∷ ls) → Step due.NameLine K l c ls
  unfolding form_of
  reads_name x =
      let p = x.told.parameter in
      let m = x.made in
      let f = first_line l items (name_line p) ls _ line x.lines in
      let q = middle_law c h K.parameters p (parameters_of x.more) m.list in
      let r = name_read l p q.named q.name q.mnemonic q.identification f.line.fields in
      record {
        form = form.NameLine;
        is = count_form_lem l 7 form.NameLine (rw r.count);
        pass = line_passes K l items line form.NameLine refl refl r.pass refl (names_passes p (parameters_of x.more) m r);
        left =
            record {
              left =
                  record {
                    samples = p.samples;
                    closing =
                        record {
                          signed = p.signed;
                          value = p.value;
                          source = x.told.source;
                          others = x.told.more;
                          more = x.more;
                        };
                    lines = rw r.identifier f.rest;
                    made =
                        regrown (rw (r.name, r.mnemonic, r.identification, r.identifier) m.list) m;
                    no_parts = x.no_parts;
                  };
              some = q.some;
            };
        begun = tt;
      }
