-- Backwards: the lines after a parameter's samples. Assumes nothing.
use mathlib.Core.Path.{◌≡◌, refl, sym}
use mathlib.Core.Logic.{inl, inr}
use mathlib.Core.Bool.{Bool, true, false, cond}
use mathlib.Core.List.{List, [], ◌∷◌, append_assoc}
use Prim.Native.Nat.{ℕ}
use Rattle.text.specs.Fields.{field_count}
use Rattle.lineforms.specs.Forms.{form_of}
use Rattle.lineforms.specs.Said.{value_in}
use Rattle.lineforms.specs.declared.due.Due.TheVariants as due
use Rattle.lineforms.specs.declared.due.Form.TheVariants as form
use Rattle.model.specs.Content.{Content}
use Rattle.model.specs.Forms.{sheet_limits}
use Rattle.model.specs.Meaning.{Lawful}
use Rattle.gather.specs.Book.{Book}
use Rattle.grammar.specs.Items.{Item}
use Rattle.grammar.specs.Written.{Line}
use Rattle.grammar.specs.Says.{blank, signed_line, range_line, Source, plain, labelled, source_line, label_line, Told, parameters_of, parameter_lines}
use Rattle.grammar.proofs.Partings.{blank_count}
use Rattle.grammar.proofs.ClosingKinds.{RangeRead, SourceRead, signed_read, range_read, source_read, label_read}
use Rattle.grammar.proofs.Left.{regrown, Grows, finished, sourced, SignedLeft, RangeLeft, SourceLeft, SourceEndsLeft, SourceBlankLeft, AfterSourceLeft}
use Rattle.grammar.proofs.Middles.{middle_law}
use Rattle.grammar.proofs.Passings.{none_passes}
use Rattle.grammar.proofs.ReadLines.{Step, first_line, line_passes, count_form_lem, either_form_lem, other_form}

-- an identifier's value, else 0
value_kept : (i : Bool) (l : List ℕ) (v : ℕ) → (i ≡ false → v ≡ 0) → RangeRead i l v → cond i (value_in l) 0 ≡ v
value_kept true l v z r = r.says refl
value_kept false l v z r = sym (z refl)

module _ (K : Book) (l : List ℕ) (c : Content) (items : List Item) (ls : List (List Item)) (h : Lawful sheet_limits c) (line : Line l items) where
  -- ---- signed or not, and the range

  pub reads_signed : SignedLeft K c (items ∷ ls) → Step due.SignedLine K l c ls
  unfolding form_of
  reads_signed x =
      let e = x.closing in
      let m = x.made in
      let f = first_line l items (signed_line e.signed) ls _ line x.lines in
      let r = signed_read l e.signed f.line.fields in
      record {
        form = form.SignedLine;
        is = count_form_lem l 5 form.SignedLine (rw r.count);
        pass = line_passes K l items line form.SignedLine refl refl r.pass refl refl;
        left =
            record {
              value = e.value;
              source = e.source;
              others = e.others;
              more = e.more;
              lines = f.rest;
              made =
                  regrown (rw r.says m.list) m;
              no_parts = x.no_parts;
            };
        begun = tt;
      }

  pub reads_range : RangeLeft K c (items ∷ ls) → Step due.RangeLine K l c ls
  unfolding form_of
  reads_range x =
      let i = K.opened.identifier in
      let m = x.made in
      let p = finished K.opened K.opened.signed x.value in
      let a = middle_law c h K.parameters p (parameters_of x.more) m.list in
      let f = first_line l items (range_line i x.value) ls (sourced (x.source ∷ x.others) x.more) line x.lines in
      let r = range_read i l x.value a.value f.line.fields in
      record {
        form = form.RangeLine;
        is = count_form_lem l 4 form.RangeLine (rw r.count);
        pass = line_passes K l items line form.RangeLine refl refl r.pass refl refl;
        left =
            record {
              source = x.source;
              others = x.others;
              more = x.more;
              lines = f.rest;
              made =
                  regrown (rw (value_kept i l x.value a.plain r) m.list) m;
              no_parts = x.no_parts;
            };
        begun = tt;
      }

  -- ---- the sources

  -- after the line of 3 fields: the label line, or the blank one
  source_line_lem : (s : Source) (others : List Source) (more : List Told) → items ∷ ls ≡ sourced (s ∷ others) more
      → Grows K c (K.opened ∷ parameters_of more) → K.parts ≡ [] → SourceRead l × AfterSourceLeft K c ls
  source_line_lem plain others more e m n =
      let f = first_line l items source_line ls (blank ∷ sourced others more) line e in
      (source_read l f.line.fields, inl (record { sources = others; more = more; lines = f.rest; made = m; no_parts = n }))
  source_line_lem labelled others more e m n =
      let f = first_line l items source_line ls (label_line ∷ blank ∷ sourced others more) line e in
      (source_read l f.line.fields, inr (record { sources = others; more = more; lines = f.rest; made = m; no_parts = n }))

  pub reads_source : SourceLeft K c (items ∷ ls) → Step due.SourceLine K l c ls
  unfolding form_of
  reads_source x =
      let r = source_line_lem x.source x.others x.more x.lines x.made x.no_parts in
      record {
        form = form.SourceLine;
        is = count_form_lem l 3 form.SourceLine (rw r.0.count);
        pass = line_passes K l items line form.SourceLine refl refl r.0.pass refl refl;
        left = r.1;
        begun = tt;
      }

  -- a blank line ends a source
  source_blank : SourceBlankLeft K c (items ∷ ls) → (field_count l ≡ 0) × SourceEndsLeft K c ls
  source_blank x =
      let f = first_line l items blank ls (sourced x.sources x.more) line x.lines in
      (blank_count l f.line.fields, record { sources = x.sources; more = x.more; lines = f.rest; made = x.made; no_parts = x.no_parts })

  pub reads_source_blank : SourceBlankLeft K c (items ∷ ls) → Step due.SourceBlank K l c ls
  unfolding form_of
  reads_source_blank x =
      let r = source_blank x in
      record {
        form = form.SourceEnd;
        is = count_form_lem l 0 form.SourceEnd (rw r.0);
        pass = line_passes K l items line form.SourceEnd refl refl none_passes refl refl;
        left = r.1;
        begun = tt;
      }

  pub reads_after_source : AfterSourceLeft K c (items ∷ ls) → Step due.AfterSource K l c ls
  unfolding form_of
  reads_after_source (inl x) =
      let r = source_blank x in
      record {
        form = form.SourceEnd;
        is = other_form l 4 form.LabelLine 0 form.SourceEnd (rw r.0) (rw r.0);
        pass = line_passes K l items line form.SourceEnd refl refl none_passes refl refl;
        left = r.1;
        begun = tt;
      }
  reads_after_source (inr x) =
      let f = first_line l items label_line ls (blank ∷ sourced x.sources x.more) line x.lines in
      let r = label_read l f.line.fields in
      record {
        form = form.LabelLine;
        is = either_form_lem l 4 form.LabelLine 0 form.SourceEnd (rw r.count);
        pass = line_passes K l items line form.LabelLine refl refl r.pass refl refl;
        left = record { sources = x.sources; more = x.more; lines = f.rest; made = x.made; no_parts = x.no_parts };
        begun = tt;
      }

  -- ---- one source more, or the blank line that ends the parameter

  pub reads_source_ends : SourceEndsLeft K c (items ∷ ls) → Step due.AfterSourceBlank K l c ls
  unfolding form_of
  reads_source_ends x = go x.sources x.lines
    where
      go : (sources : List Source) → items ∷ ls ≡ sourced sources x.more → Step due.AfterSourceBlank K l c ls
      go [] e =
          let m = x.made in
          let f = first_line l items blank ls (parameter_lines x.more) line e in
          let n = blank_count l f.line.fields in
          record {
            form = form.ParameterEnd;
            is = other_form l 3 form.SourceLine 0 form.ParameterEnd (rw n) (rw n);
            pass = line_passes K l items line form.ParameterEnd refl refl none_passes refl refl;
            left =
                record {
                  told = x.more;
                  lines = f.rest;
                  made =
                      regrown (rw (append_assoc K.parameters (K.opened ∷ []) (parameters_of x.more)) m.list) m;
                  no_parts = x.no_parts;
                };
            begun = tt;
          }
      go (s ∷ others) e =
          let r = source_line_lem s others x.more e x.made x.no_parts in
          record {
            form = form.SourceLine;
            is = either_form_lem l 3 form.SourceLine 0 form.ParameterEnd (rw r.0.count);
            pass = line_passes K l items line form.SourceLine refl refl r.0.pass refl refl;
            left = r.1;
            begun = tt;
          }
