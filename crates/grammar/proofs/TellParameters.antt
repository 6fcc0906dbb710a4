-- Forwards: the lines of a parameter. Assumes nothing.
use mathlib.Core.Path.{◌≡◌, sym, ap, ◌∙◌}
use mathlib.Core.Logic.{inl, inr}
use mathlib.Core.Bool.{cond}
use mathlib.Core.List.{List, [], ◌∷◌, ◌++◌, append_assoc, append-nil}
use Prim.Native.Nat.{ℕ}
use native.Mathlib.Omega.{arith}
use Rattle.text.specs.Fields.{field_count}
use Rattle.lineforms.specs.Said.{time_in, signed_in, value_in}
use Rattle.lineforms.specs.declared.due.Due.TheVariants as due
use Rattle.lineforms.specs.declared.due.Form.TheVariants as form
use Rattle.model.specs.Content.{Content, Sample, Component}
use Rattle.gather.specs.Book.{Book, named_of, component_of, parting, words_of, bits_of}
use Rattle.grammar.specs.Items.{Item, time}
use Rattle.grammar.specs.Written.{Line}
use Rattle.grammar.specs.Says.{blank, name_line, component_line, component_lines, sample_lines, signed_line, range_line, plain, labelled, source_line, label_line, parameters_of}
use Rattle.grammar.proofs.ParameterKinds.{name_told, component_told, time_told}
use Rattle.grammar.proofs.ClosingKinds.{signed_told, range_told, source_told, label_told}
use Rattle.grammar.proofs.Left.{regrown, SamplesLeft, PartsLeft, SourceLeft, SourceEndsLeft, SourceBlankLeft, AfterSourceLeft, filled, completed, closed, whole}
use Rattle.grammar.proofs.Passings.{Passing}
use Rattle.grammar.proofs.Tells.{Tells, blank_line_lem}

module _ (K : Book) (l : List ℕ) (c : Content) (ls : List (List Item)) where
  pub tells_names : field_count l ≡ 7 → Tells due.NameLine K l c ls form.NameLine
  tells_names e s p x =
      let y = x.left in
      let q = completed (named_of l) y.samples y.closing.signed y.closing.value in
      record {
        items = name_line q;
        line = record { short = p.short; fields = name_told l p.clean e p.fields };
        left =
            record {
              told = record { parameter = q; source = y.closing.source; more = y.closing.others };
              more = y.closing.more;
              lines = ap (λ (k : List (List Item)). name_line q ∷ k) y.lines;
              made =
                  y.made;
              no_parts = s.between.no_parts;
            };
      }

  -- ---- components and times

  opened_sample : K.parts ≡ [] → PartsLeft (parting K (K.parts ++ (component_of l ∷ []))) c ls → SamplesLeft K c (component_line (component_of l) ∷ ls)
  opened_sample z x =
      let t : Sample = record { time = x.at; components = component_of l ∷ x.parts } in
      let w : whole (parting K (K.parts ++ (component_of l ∷ []))) x.parts x.at ≡ t =
      ap (λ (k : List Component). record { time = x.at; components = (k ++ (component_of l ∷ [])) ++ x.parts }) z in
      record {
        samples = t ∷ x.samples;
        closing = x.closing;
        lines =
            ap (λ (k : List (List Item)). component_line (component_of l) ∷ k)
            (x.lines ∙ sym (append_assoc (component_lines x.parts) ((time x.at ∷ []) ∷ sample_lines x.samples) (closed K x.closing)));
        made =
            regrown (x.made.list
            ∙ ap
            (λ (k : Sample). K.parameters ++ (completed K.opened (k ∷ x.samples) x.closing.signed x.closing.value ∷ parameters_of x.closing.more))
            w) x.made;
        no_parts = z;
      }

  pub tells_first_part : field_count l ≡ 4 → Tells due.FirstComponent K l c ls form.OpeningComponent
  unfolding opened_sample
  tells_first_part e s p x =
      record {
        items = component_line (component_of l);
        line = record { short = p.short; fields = component_told K.declared (words_of K.pairs) (bits_of K.pairs) l p.clean e p.fields };
        left = record { left = opened_sample s.no_parts x; some = omega arith };
      }

  pub tells_opening_part : field_count l ≡ 4 → Tells due.AfterSample K l c ls form.OpeningComponent
  tells_opening_part e s p x =
      record {
        items = component_line (component_of l);
        line = record { short = p.short; fields = component_told K.declared (words_of K.pairs) (bits_of K.pairs) l p.clean e p.fields };
        left = opened_sample s.closed.no_parts x;
      }

  pub tells_part : field_count l ≡ 4 → Tells due.NextComponent K l c ls form.ComponentLine
  tells_part e s p x =
      record {
        items = component_line (component_of l);
        line = record { short = p.short; fields = component_told K.declared (words_of K.pairs) (bits_of K.pairs) l p.clean e p.fields };
        left =
            record {
              parts = component_of l ∷ x.parts;
              at = x.at;
              samples = x.samples;
              closing = x.closing;
              lines = ap (λ (k : List (List Item)). component_line (component_of l) ∷ k) x.lines;
              made =
                  regrown (x.made.list
                  ∙ ap
                  (λ (k : List Component). K.parameters ++ (completed K.opened (record { time = x.at; components = k } ∷ x.samples) x.closing.signed x.closing.value ∷ parameters_of x.closing.more))
                  (append_assoc K.parts (component_of l ∷ []) x.parts)) x.made;
            };
      }

  pub tells_time : field_count l ≡ 1 → Tells due.NextComponent K l c ls form.TimeLine
  tells_time e s p x =
      let t : Sample = record { time = time_in l; components = K.parts } in
      record {
        items = time (time_in l) ∷ [];
        line = record { short = p.short; fields = time_told l p.clean e p.fields };
        left =
            record {
              parts = [];
              at = time_in l;
              samples = x.samples;
              closing = x.closing;
              lines = ap (λ (k : List (List Item)). (time (time_in l) ∷ []) ∷ k) x.lines;
              made =
                  regrown (x.made.list
                  ∙ ap (λ (k : List Sample). K.parameters ++ (filled K.opened x.closing.signed x.closing.value k ∷ parameters_of x.closing.more))
                  (append_assoc K.opened.samples (t ∷ []) x.samples
                  ∙ ap (λ (k : List Component). K.opened.samples ++ (record { time = time_in l; components = k } ∷ x.samples)) (sym (append-nil K.parts)))) x.made;
            };
      }

  pub tells_samples_end : field_count l ≡ 0 → Tells due.AfterSample K l c ls form.SamplesEnd
  tells_samples_end e s p x =
      record {
        items = blank;
        line = blank_line_lem K l c ls e p.short;
        left =
            record {
              samples = [];
              closing = x.closing;
              lines = ap (λ (k : List (List Item)). blank ∷ k) x.lines;
              made = regrown (x.made.list ∙ ap (λ (k : List Sample). K.parameters ++ (filled K.opened x.closing.signed x.closing.value k ∷ parameters_of x.closing.more)) (sym (append-nil K.opened.samples))) x.made;
              no_parts = x.no_parts;
            };
      }

  -- ---- the two lines

  pub tells_signed : field_count l ≡ 5 → Tells due.SignedLine K l c ls form.SignedLine
  tells_signed e s p x =
      record {
        items = signed_line (signed_in l);
        line = record { short = p.short; fields = signed_told l p.clean e p.fields };
        left =
            record {
              closing = record { signed = signed_in l; value = x.value; source = x.source; others = x.others; more = x.more };
              lines = ap (λ (k : List (List Item)). signed_line (signed_in l) ∷ k) x.lines;
              made = x.made;
              no_parts = x.no_parts;
            };
      }

  pub tells_range : field_count l ≡ 4 → Tells due.RangeLine K l c ls form.RangeLine
  tells_range e s p x =
      let i = K.opened.identifier in
      let v = cond i (value_in l) 0 in
      record {
        items = range_line i v;
        line = record { short = p.short; fields = range_told i l p.clean e p.fields };
        left =
            record {
              value = v;
              source = x.source;
              others = x.others;
              more = x.more;
              lines = ap (λ (k : List (List Item)). range_line i v ∷ k) x.lines;
              made = x.made;
              no_parts = x.no_parts;
            };
      }

  -- ---- the sources

  source_line_lem : field_count l ≡ 3 → Passing form.SourceLine K l → Line l source_line
  source_line_lem e p = record { short = p.short; fields = source_told l p.clean e p.fields }

  -- one source more before those that are left
  sourced_left : AfterSourceLeft K c ls → SourceLeft K c (source_line ∷ ls)
  sourced_left (inl x) =
      record { source = plain; others = x.sources; more = x.more; lines = ap (λ (k : List (List Item)). source_line ∷ k) x.lines; made = x.made; no_parts = x.no_parts }
  sourced_left (inr x) =
      record { source = labelled; others = x.sources; more = x.more; lines = ap (λ (k : List (List Item)). source_line ∷ k) x.lines; made = x.made; no_parts = x.no_parts }

  pub tells_source : field_count l ≡ 3 → Tells due.SourceLine K l c ls form.SourceLine
  tells_source e s p x = record { items = source_line; line = source_line_lem e p; left = sourced_left x }

  pub tells_more_source : field_count l ≡ 3 → Tells due.AfterSourceBlank K l c ls form.SourceLine
  tells_more_source e s p x =
      let y = sourced_left x in
      record {
        items = source_line;
        line = source_line_lem e p;
        left = record { sources = y.source ∷ y.others; more = y.more; lines = y.lines; made = y.made; no_parts = y.no_parts };
      }

  pub tells_label : field_count l ≡ 4 → Tells due.AfterSource K l c ls form.LabelLine
  tells_label e s p x =
      record {
        items = label_line;
        line = record { short = p.short; fields = label_told l p.clean e p.fields };
        left =
            inr
            (record {
              sources = x.sources;
              more = x.more;
              lines = ap (λ (k : List (List Item)). label_line ∷ k) x.lines;
              made = x.made;
              no_parts = x.no_parts;
            });
      }

  blanked : SourceEndsLeft K c ls → SourceBlankLeft K c (blank ∷ ls)
  blanked x =
      record {
        sources = x.sources;
        more = x.more;
        lines = ap (λ (k : List (List Item)). blank ∷ k) x.lines;
        made = x.made;
        no_parts = x.no_parts;
      }

  pub tells_source_end : field_count l ≡ 0 → Tells due.AfterSource K l c ls form.SourceEnd
  tells_source_end e s p x = record { items = blank; line = blank_line_lem K l c ls e p.short; left = inl (blanked x) }

  pub tells_label_end : field_count l ≡ 0 → Tells due.SourceBlank K l c ls form.SourceEnd
  tells_label_end e s p x = record { items = blank; line = blank_line_lem K l c ls e p.short; left = blanked x }

  pub tells_parameter_end : field_count l ≡ 0 → Tells due.AfterSourceBlank K l c ls form.ParameterEnd
  tells_parameter_end e s p x =
      record {
        items = blank;
        line = blank_line_lem K l c ls e p.short;
        left =
            record {
              sources = [];
              more = x.told;
              lines = ap (λ (k : List (List Item)). blank ∷ k) x.lines;
              made =
                  regrown (x.made.list ∙ append_assoc K.parameters (K.opened ∷ []) (parameters_of x.told)) x.made;
              no_parts = x.no_parts;
            };
      }
