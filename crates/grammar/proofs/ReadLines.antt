-- Backwards: a line that is written where it is due passes, and leaves one line less. What a step is, and the lines up to the
-- record pairs. Assumes nothing.
use mathlib.Core.Path.{◌≡◌, refl, sym, ap, ◌∙◌, subst}
use mathlib.Core.Logic.{◌⊎◌, inl, inr}
use mathlib.Core.Bool.{Bool, true, false, cond}
use mathlib.Core.List.{List, [], ◌∷◌, ◌++◌, append_assoc}
use Prim.Native.Nat.{ℕ, ◌≤◌}
use native.Mathlib.Omega.{arith}
use borrow.Author.Tests.{eqb-true, ne_eqb}
use lib.Dec.{eqb}
use lib.ListN.{length, get_or, length-append}
use Rattle.std.specs.Prelude.{Ok}
use Rattle.lay.specs.Below.{tab}
use Rattle.lay.proofs.Below.{length_tab, get_or_tab}
use Rattle.text.specs.Fields.{field_count}
use Rattle.text.specs.Keywords.{header_word, record_word}
use Rattle.text.specs.Refusals.{first}
use Rattle.lineforms.specs.Forms.{word_form, count_form, either_form, form_of, due_after}
use Rattle.lineforms.specs.declared.due.Due.{Due}
use Rattle.lineforms.specs.declared.due.Due.TheVariants as due
use Rattle.lineforms.specs.declared.due.Form.{Form}
use Rattle.lineforms.specs.declared.due.Form.TheVariants as form
use Rattle.model.specs.Content.{Content, Subframe, no_subframe, subframes}
use Rattle.model.specs.Forms.{sheet_limits}
use Rattle.model.specs.Meaning.{Lawful, SubframeLaw}
use Rattle.gather.specs.Book.{Book, subframe_of, grow, spread}
use Rattle.gather.specs.Tests.{due_test, room_test, field_tests, sample_test, names_test}
use Rattle.gather.specs.Ruling.{form_at}
use Rattle.gather.proofs.Rows.{length_more}
use Rattle.grammar.specs.Items.{Item}
use Rattle.grammar.specs.Written.{Line}
use Rattle.grammar.specs.Says.{word, header_line, record_line, record_lines, body_lines, Declare}
use Rattle.grammar.proofs.Partings.{fields_clean, word_trim}
use Rattle.grammar.proofs.HeadKinds.{header_read, record_read}
use Rattle.grammar.proofs.Left.{Left, SheetLeft, HeaderLeft, Pairs, FirstRecordLeft, PairLeft}
use Rattle.grammar.proofs.Middles.{at_middle}
use Rattle.grammar.proofs.Passings.{Passing, none_passes}
use Rattle.grammar.proofs.Worded.{spoken_header, spoken_record}

-- there is a record pair where a parameter may come
abbrev pub Begun : Due → Book → Type 0
Begun due.HeaderWord K = Unit {0}
Begun due.HeaderLine K = Unit {0}
Begun due.RecordWord K = Unit {0}
Begun due.RecordLine K = Unit {0}
Begun due.Opening K = 1 ≤ length K.pairs
Begun due.NameLine K = Unit {0}
Begun due.FirstComponent K = Unit {0}
Begun due.NextComponent K = Unit {0}
Begun due.AfterSample K = Unit {0}
Begun due.SignedLine K = Unit {0}
Begun due.RangeLine K = Unit {0}
Begun due.SourceLine K = Unit {0}
Begun due.AfterSource K = Unit {0}
Begun due.SourceBlank K = Unit {0}
Begun due.AfterSourceBlank K = Unit {0}
Begun due.NextParameter K = Unit {0}
Begun due.Nothing K = Unit {0}

-- a line as it is due: its form, its tests, and what is left after it
pub record Step (d : Due) (K : Book) (l : List ℕ) (c : Content) (ls : List (List Item)) : Type 0 where
  pub form : Form
  pub is : form_at d K l ≡ form
  pub pass : Passing form K l
  pub left : Left (due_after form) (grow form l K) c ls
  pub begun : Begun (due_after form) (grow form l K)

-- ---- a first line

pub none_left : {A : Type 0} {items : List Item} {ls : List (List Item)} → [] ≡ items ∷ ls → A
none_left e = absurd (cc)

pub record First (l : List ℕ) (items : List Item) (ls others : List (List Item)) : Type 0 where
  pub line : Line l items
  pub rest : ls ≡ others

pub first_line : (l : List ℕ) (items is : List Item) (ls others : List (List Item)) → Line l items → items ∷ ls ≡ is ∷ others → First l is ls others
first_line l items is ls others h e =
    let p : items ≡ is = cc in
    record { line = rw p at h; rest = cc }

module _ (K : Book) (l : List ℕ) (items : List Item) (h : Line l items) where
  -- a line that is written is short and clean; its other tests go by its form
  pub line_passes : (f : Form) → due_test f ≡ Ok tt → room_test f K ≡ Ok tt → first (field_tests f K l) ≡ Ok tt → sample_test f K l ≡ Ok tt → names_test f K l ≡ Ok tt → Passing f K l
  line_passes f d r w s n =
      record {
        short = h.short;
        clean = fields_clean l items h.fields;
        due = d;
        room = r;
        fields = w;
        sample = s;
        names = n;
      }

-- ---- forms

pub count_form_lem : (l : List ℕ) (n : ℕ) (f : Form) → eqb (field_count l) n ≡ true → count_form l n f ≡ f
unfolding count_form
count_form_lem l n f e = rw e

pub either_form_lem : (l : List ℕ) (n : ℕ) (f : Form) (m : ℕ) (g : Form) → eqb (field_count l) n ≡ true → either_form l n f m g ≡ f
unfolding either_form
either_form_lem l n f m g e = rw e

pub other_form : (l : List ℕ) (n : ℕ) (f : Form) (m : ℕ) (g : Form) → eqb (field_count l) n ≡ false → eqb (field_count l) m ≡ true → either_form l n f m g ≡ g
unfolding either_form
other_form l n f m g e q = rw e (count_form_lem l m g q)

-- ---- what one pair, or one each, declare

pub record Declares (pairs subs : List Subframe) : Type 0 where
  pub spread : subs ≡ spread (length subs) pairs
  pub number : (length pairs ≡ 1) ⊎ (length pairs ≡ length subs)
  pub some : 1 ≤ length pairs

one_spread : (ps : List Subframe) → ps ≡ spread (length ps) ps
unfolding spread
one_spread [] = refl
one_spread (p ∷ []) = refl
one_spread (p ∷ q ∷ ps) = rw (ne_eqb (length (p ∷ q ∷ ps)) 1 (λ e. omega arith))

pub declare_spread : (pairs subs : List Subframe) → 1 ≤ length subs → Declare pairs subs → Declares pairs subs
unfolding spread
declare_spread pairs subs h (inl e) =
    let n = ap length e in
    record { spread = rw e (one_spread subs); number = inr n; some = omega arith }
declare_spread pairs subs h (inr w) =
    let n = ap length w.1 in
    record {
      spread = w.2 ∙ sym (ap (λ (ps : List Subframe). spread (length subs) ps) w.1);
      number = inl n;
      some = omega arith;
    }

-- each pair is within its limits: it stands for a subframe
module _ (c : Content) (s : ℕ) (ps : List Subframe) (p : Subframe) (qs : List Subframe) (h : Lawful sheet_limits c) where
  abbrev pairs : List Subframe
  pairs = ps ++ (p ∷ qs)

  pub pair_law : c.subframes ≡ spread s (ps ++ (p ∷ qs)) → SubframeLaw sheet_limits p
  unfolding spread
  pair_law e = go (eqb (length pairs) 1) refl e
    where
      go : (t : Bool) → eqb (length pairs) 1 ≡ t → c.subframes ≡ cond t (tab s (λ i. get_or pairs 0 no_subframe)) pairs → SubframeLaw sheet_limits p
      go true q e =
          let n = length-append ps (p ∷ qs) in
          let m = eqb-true (length pairs) 1 q in
          let z : length ps ≡ 0 = omega arith in
          let t = length_tab s (λ i. get_or pairs 0 no_subframe) in
          let w : get_or c.subframes 0 no_subframe ≡ get_or pairs 0 no_subframe =
          ap (λ (l : List Subframe). get_or l 0 no_subframe) e
          ∙ get_or_tab s (λ i. get_or pairs 0 no_subframe) no_subframe 0 (omega (arith, h.some_subframes, ap length e)) in
          let v : get_or pairs 0 no_subframe ≡ p = rw z at (at_middle ps p qs no_subframe) in
          subst (λ (f : Subframe). SubframeLaw sheet_limits f) (w ∙ v) (h.each_subframe 0 h.some_subframes)
      go false q e =
          let n = length-append ps (p ∷ qs) in
          let w : get_or c.subframes (length ps) no_subframe ≡ p =
          ap (λ (l : List Subframe). get_or l (length ps) no_subframe) e ∙ at_middle ps p qs no_subframe in
          subst (λ (f : Subframe). SubframeLaw sheet_limits f) w (h.each_subframe (length ps) (omega (arith, ap length e)))

module _ (K : Book) (l : List ℕ) (c : Content) (items : List Item) (ls : List (List Item)) (h : Lawful sheet_limits c) (line : Line l items) where
  -- ---- the header

  pub reads_header_word : SheetLeft K c (items ∷ ls) → Step due.HeaderWord K l c ls
  unfolding form_of word_form
  reads_header_word x =
      let f = first_line l items (word header_word) ls x.rest line x.lines in
      record {
        form = form.HeaderWord;
        is = rw (spoken_header l (word_trim l header_word f.line.fields));
        pass = line_passes K l items line form.HeaderWord refl refl none_passes refl refl;
        left = rw f.rest x.left;
        begun = tt;
      }

  pub reads_header : HeaderLeft K c (items ∷ ls) → Step due.HeaderLine K l c ls
  unfolding form_of
  reads_header x =
      let f = first_line l items (header_line c.sequential (subframes c)) ls (record_lines x.pairs ++ body_lines x.told) line x.lines in
      let r = header_read l c.sequential (subframes c) h.some_subframes h.few_subframes f.line.fields in
      let d = declare_spread x.pairs c.subframes h.some_subframes x.declare in
      record {
        form = form.HeaderLine;
        is = count_form_lem l 14 form.HeaderLine (rw r.count);
        pass = line_passes K l items line form.HeaderLine refl refl r.pass refl refl;
        left =
            record {
              left =
                  record {
                    pairs = x.pairs;
                    told = x.told;
                    lines = f.rest;
                    made =
                        record {
                          sequential = sym r.sequential;
                          count = sym r.subframes;
                          subframes = rw (r.subframes, x.no_pairs) d.spread;
                          number = rw (r.subframes, x.no_pairs) d.number;
                          list = rw x.no_parameters (sym x.list);
                          no_parts = x.no_parts;
                        };
                  };
              some = d.some;
            };
        begun = tt;
      }

  -- ---- the record pairs

  pub reads_record_word : FirstRecordLeft K c (items ∷ ls) → Step due.RecordWord K l c ls
  unfolding form_of word_form
  reads_record_word x = go x.left.pairs x.some x.left.lines x.left.made
    where
      go : (pairs : List Subframe) → 1 ≤ length pairs → items ∷ ls ≡ record_lines pairs ++ body_lines x.left.told → Pairs K c pairs x.left.told → Step due.RecordWord K l c ls
      go [] n e m = absurd (omega arith)
      go (p ∷ pairs) n e m =
          let f = first_line l items (word record_word) ls (record_line p ∷ (record_lines pairs ++ body_lines x.left.told)) line e in
          record {
            form = form.RecordWord;
            is = rw (spoken_record l (word_trim l record_word f.line.fields));
            pass = line_passes K l items line form.RecordWord refl refl none_passes refl refl;
            left = record { pair = p; pairs = pairs; told = x.left.told; lines = f.rest; made = m };
            begun = tt;
          }

  pub reads_record : PairLeft K c (items ∷ ls) → Step due.RecordLine K l c ls
  unfolding form_of
  reads_record x =
      let m = x.made in
      let f = first_line l items (record_line x.pair) ls (record_lines x.pairs ++ body_lines x.told) line x.lines in
      let r = record_read l x.pair (pair_law c K.declared K.pairs x.pair x.pairs h m.subframes) f.line.fields in
      let a = append_assoc K.pairs (x.pair ∷ []) x.pairs in
      record {
        form = form.RecordLine;
        is = count_form_lem l 5 form.RecordLine (rw r.count);
        pass = line_passes K l items line form.RecordLine refl refl r.pass refl refl;
        left =
            record {
              pairs = x.pairs;
              told = x.told;
              lines = f.rest;
              made =
                  record {
                    sequential = m.sequential;
                    count = m.count;
                    subframes = rw (r.says, a) m.subframes;
                    number = rw (r.says, a) m.number;
                    list = m.list;
                    no_parts = m.no_parts;
                  };
            };
        begun = omega (arith, length_more K.pairs (subframe_of l));
      }
