-- Fields that are written are the fields that are found, and fields that are found are written. Assumes nothing.
use native.Mathlib.Omega.{arith}
use mathlib.Core.Path.{◌≡◌, refl, sym, ap, ◌∙◌, subst}
use mathlib.Core.Logic.{⊎_elim}
use mathlib.Core.Bool.{Bool, true, false, cond}
use mathlib.Core.List.{List, [], ◌∷◌, ◌++◌, append-nil}
use Prim.Native.Nat.{ℕ, zero, suc, ◌+◌, ◌≤◌, ◌<◌}
use lib.ListN.{length, get_or}
use lib.Dec.{eqb}
use borrow.Author.Tests.{eq-eqb, ne_eqb, eqb-false}
use Rattle.lay.proofs.Tests.{and_both}
use Rattle.text.specs.Blanks.{trim}
use Rattle.text.specs.Parts.{count_of, up_to, past, holds}
use Rattle.text.specs.Fields.{comma, blank_line, field_count, piece_of, field_of}
use Rattle.lines.specs.Line.{is_clean, all_clean}
use Rattle.written.specs.Words.{Without}
use Rattle.written.proofs.Marks.{without_up_to, mark_up_to, mark_past, holds_without, cut_again, up_to_without, without_join}
use Rattle.gather.proofs.Rows.{Each}
use Rattle.grammar.specs.Items.{Item, exactly, text, Text, Spelled}
use Rattle.grammar.specs.Written.{Blanks, Field, Fields}
use Rattle.grammar.proofs.Tidy.{Tidy}
use Rattle.grammar.proofs.Tidies.{each_join, each_cons, none_tidy, spelled_tidy}
use Rattle.grammar.proofs.Padding.{blanks_none, blanks_join, padded_trim, trim_padded}

-- ---- counting a mark

without_count : (b : ℕ) (l : List ℕ) → Without b l → count_of b l ≡ 0
unfolding count_of
without_count b [] h = refl
without_count b (x ∷ l) h = rw (ne_eqb x b (h 0 (omega arith))) (without_count b l (λ i k. h (suc i) (omega arith)))

count_without : (b : ℕ) (l : List ℕ) → count_of b l ≡ 0 → Without b l
unfolding count_of
count_without b [] e i h q = omega arith
count_without b (x ∷ l) e i h q = go (count_without b l) (eqb x b) refl e i h q
  where
    go : (count_of b l ≡ 0 → Without b l) → (t : Bool) → eqb x b ≡ t → cond t (suc (count_of b l)) (count_of b l) ≡ 0 → (i : ℕ) → i < suc (length l) → get_or (x ∷ l) i 0 ≡ b → ⊥
    go ih true p e i h q = omega arith
    go ih false p e zero h q = eqb-false x b p q
    go ih false p e (suc i) h q = ih e i (omega arith) q

mark_count : (b : ℕ) (w p : List ℕ) → Without b w → count_of b (w ++ (b ∷ p)) ≡ suc (count_of b p)
unfolding count_of
mark_count b [] p h = rw (eq-eqb b b refl)
mark_count b (x ∷ w) p h = rw (ne_eqb x b (h 0 (omega arith))) (mark_count b w p (λ i k. h (suc i) (omega arith)))

count_holds : (b : ℕ) (l : List ℕ) → 1 ≤ count_of b l → holds b l ≡ true
count_holds b l h = go (holds b l) refl
  where
    go : (t : Bool) → holds b l ≡ t → t ≡ true
    go true e = refl
    go false e = absurd (omega (arith, without_count b l (holds_without b l e)))

-- ---- blanks

blanks_without : (l : List ℕ) → Blanks l → Without comma l
blanks_without l h i m e =
    ⊎_elim (λ p. omega arith) (λ p. omega arith) (h i m)

abbrev Clean : ℕ → Type 0
Clean b = is_clean b ≡ true

blanks_clean : (l : List ℕ) → Blanks l → Each Clean 0 l
blanks_clean l h i m = ⊎_elim (λ e. rw e) (λ e. rw e) (h i m)

blanks_trim : (l : List ℕ) → Blanks l → trim l ≡ []
blanks_trim l h = ap trim (sym (append-nil l)) ∙ padded_trim l [] [] h (none_tidy [] refl) blanks_none

trim_blanks : (l : List ℕ) → trim l ≡ [] → Blanks l
trim_blanks l e =
    let p = trim_padded l in
    let w : l ≡ p.before ++ p.after = p.written ∙ ap (λ (m : List ℕ). p.before ++ (m ++ p.after)) e in
    subst Blanks (sym w) (blanks_join p.before p.after p.blanks_before p.blanks_after)

-- ---- a field

module _ (x : List ℕ) (i : Item) (r : Field x i) where
  field_tidy : Tidy r.field
  field_tidy = spelled_tidy i r.field r.spelled

  field_trim : trim x ≡ r.field
  field_trim = ap trim r.written ∙ padded_trim r.before r.field r.after r.blanks_before field_tidy r.blanks_after

  field_spelled : Spelled i (trim x)
  field_spelled = subst (Spelled i) (sym field_trim) r.spelled

  field_without : Without comma x
  field_without =
      subst (Without comma) (sym r.written)
      (without_join comma r.before (r.field ++ r.after) (blanks_without r.before r.blanks_before)
      (without_join comma r.field r.after field_tidy.comma (blanks_without r.after r.blanks_after)))

  field_clean : Each Clean 0 x
  field_clean =
      subst (Each Clean 0) (sym r.written)
      (each_join Clean r.before (r.field ++ r.after) (blanks_clean r.before r.blanks_before)
      (each_join Clean r.field r.after field_tidy.clean (blanks_clean r.after r.blanks_after)))

trim_field : (x : List ℕ) (i : Item) → Spelled i (trim x) → Field x i
trim_field x i s =
    let p = trim_padded x in
    record {
      before = p.before;
      field = trim x;
      after = p.after;
      written = p.written;
      blanks_before = p.blanks_before;
      spelled = s;
      blanks_after = p.blanks_after;
    }

-- ---- fields that are written

-- with one comma less than items
fields_commas : (l : List ℕ) (is : List Item) → 1 ≤ length is → Fields l is → count_of comma l + 1 ≡ length is
fields_commas l [] h f = absurd (omega arith)
fields_commas l (i ∷ []) h f = omega (arith, without_count comma l (field_without l i f))
fields_commas l (i ∷ j ∷ is) h f =
    let x = f.0 in
    let y = f.1 in
    let c : count_of comma l ≡ suc (count_of comma y) = ap (count_of comma) f.2 ∙ mark_count comma x y (field_without x i f.3) in
    omega (arith, fields_commas y (j ∷ is) (omega arith) f.4)

some_bytes : (b : ℕ) (m : List ℕ) → eqb (length (b ∷ m)) 0 ≡ false
some_bytes b m = ne_eqb (length (b ∷ m)) 0 (λ e. omega arith)

-- a line with a comma is not blank
count_line : (l : List ℕ) (n : ℕ) → 2 ≤ n → count_of comma l + 1 ≡ n → field_count l ≡ n
unfolding field_count blank_line
count_line l n h e = go (trim l) refl
  where
    go : (m : List ℕ) → trim l ≡ m → cond (eqb (length m) 0) 0 (count_of comma l + 1) ≡ n
    go [] p = absurd (omega (arith, without_count comma l (blanks_without l (trim_blanks l p))))
    go (b ∷ m) p = rw (some_bytes b m) e

count_commas : (l : List ℕ) (n : ℕ) → 1 ≤ n → field_count l ≡ n → count_of comma l + 1 ≡ n
unfolding field_count
count_commas l n h e = go (blank_line l) e
  where
    go : (t : Bool) → cond t 0 (count_of comma l + 1) ≡ n → count_of comma l + 1 ≡ n
    go true e = absurd (omega arith)
    go false e = e

pub fields_count : (l : List ℕ) (is : List Item) → 2 ≤ length is → Fields l is → field_count l ≡ length is
fields_count l is h f = count_line l (length is) h (fields_commas l is (omega arith) f)

solid_count : (l w : List ℕ) → trim l ≡ w → 1 ≤ length w → count_of comma l ≡ 0 → field_count l ≡ 1
unfolding field_count blank_line
solid_count l [] p h e = absurd (omega arith)
solid_count l (b ∷ w) p h e = rw (p, e, some_bytes b w)

pub one_count : (l : List ℕ) (i : Item) (r : Field l i) → 1 ≤ length r.field → field_count l ≡ 1
one_count l i r h = solid_count l r.field (field_trim l i r) h (without_count comma l (field_without l i r))

pub fields_at : (l : List ℕ) (is : List Item) → 1 ≤ length is → Fields l is → (k : ℕ) → k < length is → Spelled (get_or is k text) (field_of k l)
unfolding field_of piece_of
fields_at l [] h f k m = absurd (omega arith)
fields_at l (i ∷ []) h f zero m = rw (without_up_to comma l (field_without l i f)) (field_spelled l i f)
fields_at l (i ∷ []) h f (suc k) m = absurd (omega arith)
fields_at l (i ∷ j ∷ is) h f zero m =
    let e : up_to comma l ≡ f.0 = ap (up_to comma) f.2 ∙ mark_up_to comma f.0 f.1 (field_without f.0 i f.3) in
    rw e (field_spelled f.0 i f.3)
fields_at l (i ∷ j ∷ is) h f (suc k) m =
    let e : past comma l ≡ f.1 = ap (past comma) f.2 ∙ mark_past comma f.0 f.1 (field_without f.0 i f.3) in
    rw e (fields_at f.1 (j ∷ is) (omega arith) f.4 k (omega arith))

each_clean : (l : List ℕ) → Each Clean 0 l → all_clean l ≡ true
unfolding all_clean
each_clean [] h = refl
each_clean (b ∷ l) h = and_both (h 0 (omega arith)) (each_clean l (λ i m. h (suc i) (omega arith)))

fields_each : (l : List ℕ) (is : List Item) → Fields l is → Each Clean 0 l
fields_each l [] f = blanks_clean l f
fields_each l (i ∷ []) f = field_clean l i f
fields_each l (i ∷ j ∷ is) f =
    subst (Each Clean 0) (sym f.2)
    (each_join Clean f.0 (comma ∷ f.1) (field_clean f.0 i f.3) (each_cons Clean comma f.1 refl (fields_each f.1 (j ∷ is) f.4)))

pub fields_clean : (l : List ℕ) (is : List Item) → Fields l is → all_clean l ≡ true
fields_clean l is f = each_clean l (fields_each l is f)

-- ---- fields that are found

commas_fields : (l : List ℕ) (is : List Item) → 1 ≤ length is → count_of comma l + 1 ≡ length is → ((k : ℕ) → k < length is → Spelled (get_or is k text) (field_of k l)) → Fields l is
unfolding field_of piece_of
commas_fields l [] h e s = absurd (omega arith)
commas_fields l (i ∷ []) h e s =
    trim_field l i (rw (without_up_to comma l (count_without comma l (omega arith))) at (s 0 (omega arith)))
commas_fields l (i ∷ j ∷ is) h e s =
    let w = cut_again comma l (count_holds comma l (omega arith)) in
    let c : count_of comma l ≡ suc (count_of comma (past comma l)) = ap (count_of comma) w ∙ mark_count comma (up_to comma l) (past comma l) (up_to_without comma l) in
    (up_to comma l, past comma l, w, trim_field (up_to comma l) i (s 0 (omega arith)), commas_fields (past comma l) (j ∷ is) (omega arith) (omega arith) (λ k m. s (suc k) (omega arith)))

pub at_fields : (l : List ℕ) (is : List Item) → 1 ≤ length is → field_count l ≡ length is → ((k : ℕ) → k < length is → Spelled (get_or is k text) (field_of k l)) → Fields l is
at_fields l is h e s = commas_fields l is h (count_commas l (length is) h e) s

-- ---- blank lines

pub blank_count : (l : List ℕ) → Blanks l → field_count l ≡ 0
unfolding field_count blank_line
blank_count l h = rw (blanks_trim l h)

pub count_blank : (l : List ℕ) → field_count l ≡ 0 → Blanks l
unfolding field_count blank_line
count_blank l e = go (trim l) refl e
  where
    go : (m : List ℕ) → trim l ≡ m → cond (eqb (length m) 0) 0 (count_of comma l + 1) ≡ 0 → Blanks l
    go [] p e = trim_blanks l p
    go (b ∷ m) p e = absurd (omega (arith, rw (some_bytes b m) at e))

-- ---- words

pub word_trim : (l w : List ℕ) → Field l (exactly w) → trim l ≡ w
word_trim l w r = field_trim l (exactly w) r ∙ r.spelled.0

pub trim_word : (l w : List ℕ) → trim l ≡ w → Text w → Field l (exactly w)
trim_word l w e t = trim_field l (exactly w) (e, subst Text (sym e) t)

pub word_one : (l w : List ℕ) → 1 ≤ length w → Field l (exactly w) → field_count l ≡ 1
word_one l w h r = one_count l (exactly w) r (rw r.spelled.0 h)
