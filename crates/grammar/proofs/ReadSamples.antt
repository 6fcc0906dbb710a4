-- Backwards: the lines of a parameter's samples. Assumes nothing.
use mathlib.Core.Path.{◌≡◌, refl}
use mathlib.Core.List.{List, [], ◌∷◌, ◌++◌, append_assoc, append-nil}
use Prim.Native.Nat.{ℕ, ◌≤◌, ◌<◌}
use native.Mathlib.Omega.{arith}
use borrow.Author.Tests.{lt-leb, ne_eqb}
use lib.ListN.{length, length-append}
use Rattle.std.specs.Prelude.{Ok}
use Rattle.text.specs.Fields.{field_count}
use Rattle.lineforms.specs.Forms.{either_form, after_sample_form, form_of}
use Rattle.lineforms.specs.declared.due.Due.TheVariants as due
use Rattle.lineforms.specs.declared.due.Form.{Form}
use Rattle.lineforms.specs.declared.due.Form.TheVariants as form
use Rattle.model.specs.Content.{Content, Parameter, Sample, Component}
use Rattle.model.specs.Forms.{sheet_limits}
use Rattle.model.specs.Meaning.{Lawful, ParameterLaw, SampleLaw, ComponentLaw}
use Rattle.gather.specs.Book.{Book, component_of, words_of, bits_of, components_of, samples_so_far, components_so_far, parting}
use Rattle.gather.specs.Tests.{room_for_sample, room_for_component, joined_test}
use Rattle.gather.proofs.Spreads.{declared_words, declared_bits}
use Rattle.grammar.specs.Items.{Item, time}
use Rattle.grammar.specs.Written.{Line}
use Rattle.grammar.specs.Says.{component_line, component_lines, sample_lines, parameters_of}
use Rattle.grammar.proofs.Partings.{blank_count}
use Rattle.grammar.proofs.ParameterKinds.{Within, ComponentRead, component_read, time_read}
use Rattle.grammar.proofs.Left.{regrown, Grows, Closing, completed, closed, whole, SamplesLeft, FirstSampleLeft, PartsLeft}
use Rattle.grammar.proofs.Middles.{components_join, middle_law, middle_samples, middle_components, sample_law, sample_room, width_passes, part_law, part_room, joined_passes}
use Rattle.grammar.proofs.Passings.{Passing, none_passes}
use Rattle.grammar.proofs.ReadLines.{Step, First, first_line, line_passes, count_form_lem, either_form_lem, other_form}

-- ---- the open parameter, with a component of the sample in its middle

-- parts of the open sample, a component, and more of them and of samples
record Middle (K : Book) (c : Content) (k : Component) : Type 0 where
  parts : List Component
  at : ℕ
  samples : List Sample
  closing : Closing
  made : Grows K c (completed K.opened (whole K (k ∷ parts) at ∷ samples) closing.signed closing.value ∷ parameters_of closing.more)

module _ (K : Book) (c : Content) (h : Lawful sheet_limits c) (k : Component) (x : Middle K c k) where
  abbrev sample : Sample
  sample = whole K (k ∷ x.parts) x.at

  abbrev parameter : Parameter
  parameter = completed K.opened (sample ∷ x.samples) x.closing.signed x.closing.value

  open_law : ParameterLaw sheet_limits c.subframes parameter
  open_law = middle_law c h K.parameters parameter (parameters_of x.closing.more) x.made.list

  open_sample : SampleLaw sheet_limits c.subframes sample
  open_sample = sample_law c.subframes parameter open_law K.opened.samples sample x.samples refl

  component_law : ComponentLaw c.subframes k
  component_law = part_law c.subframes (λ i l. (h.each_subframe i l).few_words) sample open_sample K.parts k x.parts refl

  -- the fields' limits are what the record pairs declare
  component_within : Within K.declared (words_of K.pairs) (bits_of K.pairs) k
  component_within =
      let a = component_law in
      let m = x.made in
      let n : k.subframe ≤ K.declared = omega (arith, a.declared, m.count) in
      let w = declared_words K.declared K.pairs k.subframe a.some_home n in
      let b = declared_bits K.declared K.pairs k.subframe a.some_home n in
      record {
        some_home = a.some_home;
        home = n;
        some_word = a.some_word;
        word = rw (w, ← m.subframes) a.word;
        some_bit = a.some_bit;
        rising = a.rising;
        bit = rw (b, ← m.subframes) a.in_word;
      }

  -- 14
  component_joins : joined_test K.parts k ≡ Ok tt
  component_joins = joined_passes c.subframes (λ i l. (h.each_subframe i l).few_words) sample open_sample K.parts k x.parts refl

  -- 12
  some_samples : samples_so_far K < sheet_limits.samples
  some_samples =
      omega
      (arith, middle_samples c h K.parameters parameter (parameters_of x.closing.more) x.made.list, length-append K.opened.samples (sample ∷ x.samples))

  some_components : components_so_far K < sheet_limits.components
  unfolding components_of
  some_components =
      omega (
        arith,
        middle_components c h K.parameters parameter (parameters_of x.closing.more) x.made.list,
        components_join K.opened.samples (sample ∷ x.samples),
        length-append K.parts (k ∷ x.parts),
      )

  sample_passes : room_for_sample K ≡ Ok tt
  unfolding room_for_sample
  sample_passes =
      let n = sample_room c.subframes parameter open_law K.opened.samples sample x.samples refl in
      rw (
        lt-leb sheet_limits.samples_each (length K.opened.samples) n,
        lt-leb sheet_limits.samples (samples_so_far K) some_samples,
        lt-leb sheet_limits.components (components_so_far K) some_components,
      )

  component_passes : room_for_component K ≡ Ok tt
  unfolding room_for_component
  component_passes =
      let n = part_room c.subframes (λ i l. (h.each_subframe i l).few_words) sample open_sample K.parts k x.parts refl in
      rw (lt-leb sheet_limits.components_each (length K.parts) n, lt-leb sheet_limits.components (components_so_far K) some_components)

-- ---- a component line

-- what comes after a component
abbrev rest : Book → List Component → ℕ → List Sample → Closing → List (List Item)
rest K parts at samples closing = component_lines parts ++ ((time at ∷ []) ∷ (sample_lines samples ++ closed K closing))

-- the line is one component more
record Comes (K : Book) (l : List ℕ) (c : Content) (ls : List (List Item)) : Type 0 where
  component : Component
  middle : Middle K c component
  first : First l (component_line component) ls (rest K middle.parts middle.at middle.samples middle.closing)

-- the line is the open sample's time
record Timed (K : Book) (l : List ℕ) (c : Content) (ls : List (List Item)) : Type 0 where
  at : ℕ
  samples : List Sample
  closing : Closing
  first : First l (time at ∷ []) ls (sample_lines samples ++ closed K closing)
  made : Grows K c (completed K.opened (record { time = at; components = K.parts } ∷ samples) closing.signed closing.value ∷ parameters_of closing.more)

module _ (K : Book) (l : List ℕ) (c : Content) (ls : List (List Item)) (h : Lawful sheet_limits c) (x : Comes K l c ls) where
  comes_read : ComponentRead K.declared (words_of K.pairs) (bits_of K.pairs) l x.component
  comes_read =
      component_read K.declared (words_of K.pairs) (bits_of K.pairs) l x.component (component_within K c h x.component x.middle)
      x.first.line.fields

  comes_joins : joined_test K.parts (component_of l) ≡ Ok tt
  comes_joins = rw comes_read.says (component_joins K c h x.component x.middle)

  comes_left : PartsLeft (parting K (K.parts ++ (component_of l ∷ []))) c ls
  comes_left =
      let w = x.middle in
      let m = w.made in
      record {
        parts = w.parts;
        at = w.at;
        samples = w.samples;
        closing = w.closing;
        lines = x.first.rest;
        made =
            regrown (rw (comes_read.says, append_assoc K.parts (x.component ∷ []) w.parts) m.list) m;
      }

  opens_passes : Passing form.OpeningComponent K l
  opens_passes =
      line_passes K l (component_line x.component) x.first.line form.OpeningComponent refl (sample_passes K c h x.component x.middle)
      comes_read.pass comes_joins refl

module _ (K : Book) (l : List ℕ) (c : Content) (items : List Item) (ls : List (List Item)) (h : Lawful sheet_limits c) (line : Line l items) where
  -- a sample begins with a component
  sample_comes : (s : Sample) (ss : List Sample) (e : Closing) → Grows K c (completed K.opened (s ∷ ss) e.signed e.value ∷ parameters_of e.more)
      → K.parts ≡ [] → items ∷ ls ≡ sample_lines (s ∷ ss) ++ closed K e → Comes K l c ls
  sample_comes s ss e m n q =
      let p = completed K.opened (s ∷ ss) e.signed e.value in
      let a = middle_law c h K.parameters p (parameters_of e.more) m.list in
      let b = sample_law c.subframes p a K.opened.samples s ss refl in
      go s.components refl b.some q
    where
      go : (cs : List Component) → s.components ≡ cs → 1 ≤ length cs → items ∷ ls ≡ (component_lines cs ++ ((time s.time ∷ []) ∷ sample_lines ss)) ++ closed K e → Comes K l c ls
      go [] r z q = absurd (omega arith)
      go (k ∷ ks) r z q =
          let a = append_assoc (component_lines ks) ((time s.time ∷ []) ∷ sample_lines ss) (closed K e) in
          record {
            component = k;
            middle =
                record {
                  parts = ks;
                  at = s.time;
                  samples = ss;
                  closing = e;
                  made =
                      regrown (rw (n, ← r) m.list) m;
                };
            first = first_line l items (component_line k) ls (rest K ks s.time ss e) line (rw a at q);
          }

  pub reads_first_component : FirstSampleLeft K c (items ∷ ls) → Step due.FirstComponent K l c ls
  unfolding form_of
  reads_first_component x = go x.left.samples x.some x.left.lines x.left.made
    where
      go : (ss : List Sample) → 1 ≤ length ss → items ∷ ls ≡ sample_lines ss ++ closed K x.left.closing
          → Grows K c (completed K.opened ss x.left.closing.signed x.left.closing.value ∷ parameters_of x.left.closing.more)
          → Step due.FirstComponent K l c ls
      go [] z q m = absurd (omega arith)
      go (s ∷ ss) z q m =
          let w = sample_comes s ss x.left.closing m x.left.no_parts q in
          record {
            form = form.OpeningComponent;
            is = count_form_lem l 4 form.OpeningComponent (rw (comes_read K l c ls h w).count);
            pass = opens_passes K l c ls h w;
            left = comes_left K l c ls h w;
            begun = tt;
          }

  -- ---- after a sample: one more, or the blank line

  after_count : (n : ℕ) (f : Form) → field_count l ≡ n → (n ≡ 2 → ⊥) → either_form l 4 form.OpeningComponent 0 form.SamplesEnd ≡ f → after_sample_form l ≡ f
  unfolding after_sample_form
  after_count n f e z w = rw (e, ne_eqb n 2 z) w

  pub reads_after_sample : SamplesLeft K c (items ∷ ls) → Step due.AfterSample K l c ls
  unfolding form_of
  reads_after_sample x = go x.samples x.lines x.made
    where
      go : (ss : List Sample) → items ∷ ls ≡ sample_lines ss ++ closed K x.closing
          → Grows K c (completed K.opened ss x.closing.signed x.closing.value ∷ parameters_of x.closing.more)
          → Step due.AfterSample K l c ls
      go [] q m =
          let f = first_line l items [] ls _ line q in
          let n = blank_count l f.line.fields in
          record {
            form = form.SamplesEnd;
            is = after_count 0 form.SamplesEnd n (λ z. omega arith) (other_form l 4 form.OpeningComponent 0 form.SamplesEnd (rw n) (rw n));
            pass = line_passes K l items line form.SamplesEnd refl refl none_passes refl refl;
            left =
                record {
                  closing = x.closing;
                  lines = f.rest;
                  made =
                      regrown (rw (append-nil K.opened.samples) at m.list) m;
                  no_parts = x.no_parts;
                };
            begun = tt;
          }
      go (s ∷ ss) q m =
          let w = sample_comes s ss x.closing m x.no_parts q in
          let n = (comes_read K l c ls h w).count in
          record {
            form = form.OpeningComponent;
            is = after_count 4 form.OpeningComponent n (λ z. omega arith) (either_form_lem l 4 form.OpeningComponent 0 form.SamplesEnd (rw n));
            pass = opens_passes K l c ls h w;
            left = comes_left K l c ls h w;
            begun = tt;
          }

  -- ---- in a sample: one component more, or its time

  next_component : (x : Comes K l c ls) → Step due.NextComponent K l c ls
  unfolding form_of
  next_component x =
      let r = comes_read K l c ls h x in
      record {
        form = form.ComponentLine;
        is = either_form_lem l 4 form.ComponentLine 1 form.TimeLine (rw r.count);
        pass =
            line_passes K l items line form.ComponentLine refl (component_passes K c h x.component x.middle) r.pass
            (comes_joins K l c ls h x) refl;
        left = comes_left K l c ls h x;
        begun = tt;
      }

  sample_time : Timed K l c ls → Step due.NextComponent K l c ls
  unfolding form_of
  sample_time x =
      let m = x.made in
      let s : Sample = record { time = x.at; components = K.parts } in
      let p = completed K.opened (s ∷ x.samples) x.closing.signed x.closing.value in
      let a = middle_law c h K.parameters p (parameters_of x.closing.more) m.list in
      let r = time_read l x.at x.first.line.fields in
      record {
        form = form.TimeLine;
        is = other_form l 4 form.ComponentLine 1 form.TimeLine (rw r.count) (rw r.count);
        pass =
            line_passes K l items line form.TimeLine refl refl r.pass
            (width_passes c.subframes p a K.opened.samples s x.samples refl) refl;
        left =
            record {
              samples = x.samples;
              closing = x.closing;
              lines = x.first.rest;
              made =
                  regrown (rw (r.says, append_assoc K.opened.samples (s ∷ []) x.samples) m.list) m;
              no_parts = refl;
            };
        begun = tt;
      }

  pub reads_next_component : PartsLeft K c (items ∷ ls) → Step due.NextComponent K l c ls
  reads_next_component x = go x.parts x.lines x.made
    where
      go : (parts : List Component) → items ∷ ls ≡ rest K parts x.at x.samples x.closing
          → Grows K c (completed K.opened (whole K parts x.at ∷ x.samples) x.closing.signed x.closing.value ∷ parameters_of x.closing.more)
          → Step due.NextComponent K l c ls
      go [] q m =
          sample_time
          (record {
            at = x.at;
            samples = x.samples;
            closing = x.closing;
            first = first_line l items (time x.at ∷ []) ls (sample_lines x.samples ++ closed K x.closing) line q;
            made =
                regrown (rw (append-nil K.parts) at m.list) m;
          })
      go (k ∷ parts) q m =
          next_component
          (record {
            component = k;
            middle = record { parts = parts; at = x.at; samples = x.samples; closing = x.closing; made = m };
            first = first_line l items (component_line k) ls (rest K parts x.at x.samples x.closing) line q;
          })
