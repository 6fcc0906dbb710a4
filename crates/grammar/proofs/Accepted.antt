-- Forwards: whatever sheet the judge accepts says the Content that it accepts. Assumes nothing.
use mathlib.Core.Path.{◌≡◌, refl, sym, ap, ◌∙◌, subst}
use mathlib.Core.Logic.{◌⊎◌, inl, inr}
use mathlib.Core.Bool.{Bool, true, false, cond}
use mathlib.Core.List.{List, [], ◌∷◌, append-nil}
use Prim.Native.Nat.{ℕ, ◌+◌}
use borrow.Author.Tests.{eqb-true, ltb-false}
use lib.Dec.{eqb, ltb}
use lib.ListN.{length}
use Rattle.std.specs.Prelude.{Ok, Err}
use Rattle.text.specs.Refusals.{Judged}
use Rattle.text.specs.Fields.{field_count}
use Rattle.text.specs.Keywords.{header_word, keyword_of}
use Rattle.text.specs.declared.keyword.Keyword.{Keyword}
use Rattle.text.specs.declared.keyword.Keyword.TheVariants as keyword
use Rattle.text.specs.declared.refusal.Refusal.TheVariants.{SheetTooLong, Unended}
use Rattle.lines.specs.Lines.{Lines, none, unended, line, lines_of}
use Rattle.lines.specs.Order.{line_judged}
use Rattle.lineforms.specs.Forms.{by_keyword, word_form, count_form, either_form, opening_form, after_sample_form, form_of, due_after}
use Rattle.lineforms.specs.declared.due.Due.{Due}
use Rattle.lineforms.specs.declared.due.Due.TheVariants as due
use Rattle.lineforms.specs.declared.due.Form.{Form}
use Rattle.lineforms.specs.declared.due.Form.TheVariants as form
use Rattle.model.specs.Content.{Content}
use Rattle.gather.specs.Book.{Book, empty_book, grow, content_of}
use Rattle.gather.specs.Tests.{tests_of}
use Rattle.gather.specs.Ruling.{Accepted, Refused, identified, at_end, form_at, opens, on_judged, run, longest_sheet, judge_of}
use Rattle.gather.proofs.Sound.{Between, Sound}
use Rattle.gather.proofs.Steps.{sound_step}
use Rattle.gather.proofs.Stages.{unended_run}
use Rattle.gather.proofs.AcceptedLawful.{never, identified_accepted, at_end_only, accepted_lawful}
use Rattle.grammar.specs.Items.{Item}
use Rattle.grammar.specs.Written.{Written}
use Rattle.grammar.specs.Says.{word, Says}
use Rattle.grammar.proofs.Ended.{lines_none, lines_line}
use Rattle.grammar.proofs.Left.{Left, Grows}
use Rattle.grammar.proofs.Passings.{passed}
use Rattle.grammar.proofs.Worded.{Spoken, keyword_spoken}
use Rattle.grammar.proofs.Tells.{Tells, tells_stray, tells_superframe, tells_header_word, tells_header, tells_record_word, tells_next_word, tells_record, tells_none, tells_first, tells_next}
use Rattle.grammar.proofs.TellParameters.{tells_names, tells_first_part, tells_opening_part, tells_part, tells_time, tells_samples_end, tells_signed, tells_range, tells_source, tells_more_source, tells_label, tells_source_end, tells_label_end, tells_parameter_end}

-- ---- one line, whatever is due

module _ (K : Book) (l : List ℕ) (c : Content) (ls : List (List Item)) where
  tells_if : (d : Due) (t : Bool) (f g : Form) → (t ≡ true → Tells d K l c ls f) → (t ≡ false → Tells d K l c ls g) → Tells d K l c ls (cond t f g)
  tells_if d true f g p q = p refl
  tells_if d false f g p q = q refl

  tells_count : (d : Due) (n : ℕ) (f : Form) → (field_count l ≡ n → Tells d K l c ls f) → Tells d K l c ls (count_form l n f)
  unfolding count_form
  tells_count d n f p = tells_if d (eqb (field_count l) n) f form.Stray (λ e. p (eqb-true (field_count l) n e)) (λ e. tells_stray K l c ls d)

  tells_either : (d : Due) (n : ℕ) (f : Form) (m : ℕ) (g : Form) → (field_count l ≡ n → Tells d K l c ls f) → (field_count l ≡ m → Tells d K l c ls g) → Tells d K l c ls (either_form l n f m g)
  unfolding either_form
  tells_either d n f m g p q =
      tells_if d (eqb (field_count l) n) f (count_form l m g) (λ e. p (eqb-true (field_count l) n e)) (λ e. tells_count d m g q)

  tells_word : (d : Due) (h r n p : Form) → (Spoken keyword.Header l → Tells d K l c ls h) → (Spoken keyword.Record l → Tells d K l c ls r)
      → (Spoken keyword.Nothing l → Tells d K l c ls n) → (Spoken keyword.Parameter l → Tells d K l c ls p) → Tells d K l c ls (word_form l h r n p)
  unfolding word_form
  tells_word d h r n p a b e f = go (keyword_of l) (keyword_spoken l)
    where
      go : (w : Keyword) → Spoken w l → Tells d K l c ls (by_keyword w h r n p)
      go keyword.Header z = a z
      go keyword.Record z = b z
      go keyword.Nothing z = e z
      go keyword.Parameter z = f z
      go keyword.Other z = tells_stray K l c ls d

  tells_opening : Tells due.Opening K l c ls (opening_form l (length K.pairs) K.declared)
  unfolding opening_form
  tells_opening =
      let n = length K.pairs in
      let s = K.declared in
      let A = word_form l form.Stray form.Stray form.NoneWord form.ParameterWord in
      let B = word_form l form.Stray form.RecordWord form.NoneWord form.ParameterWord in
      let C = word_form l form.Stray form.RecordWord form.Stray form.Stray in
      tells_if due.Opening (eqb n s) A (cond (eqb n 1) B C)
      (λ e.
      let k : (n ≡ 1) ⊎ (n ≡ s) = inr (eqb-true n s e) in
      tells_word due.Opening form.Stray form.Stray form.NoneWord form.ParameterWord (λ z. tells_stray K l c ls due.Opening) (λ z. tells_stray K l c ls due.Opening) (tells_none K l c ls k) (tells_first K l c ls k))
      (λ e.
      tells_if due.Opening (eqb n 1) B C
      (λ e.
      let k : (n ≡ 1) ⊎ (n ≡ s) = inl (eqb-true n 1 e) in
      tells_word due.Opening form.Stray form.RecordWord form.NoneWord form.ParameterWord (λ z. tells_stray K l c ls due.Opening) (tells_next_word K l c ls) (tells_none K l c ls k) (tells_first K l c ls k))
      (λ e.
      tells_word due.Opening form.Stray form.RecordWord form.Stray form.Stray (λ z. tells_stray K l c ls due.Opening) (tells_next_word K l c ls) (λ z. tells_stray K l c ls due.Opening) (λ z. tells_stray K l c ls due.Opening)))

  tells : (d : Due) → Tells d K l c ls (form_at d K l)
  unfolding form_of after_sample_form
  tells due.HeaderWord =
      tells_word due.HeaderWord form.HeaderWord form.Stray form.Stray form.Stray (tells_header_word K l c ls) (λ z. tells_stray K l c ls due.HeaderWord) (λ z. tells_stray K l c ls due.HeaderWord) (λ z. tells_stray K l c ls due.HeaderWord)
  tells due.HeaderLine = tells_count due.HeaderLine 14 form.HeaderLine (tells_header K l c ls)
  tells due.RecordWord =
      tells_word due.RecordWord form.Stray form.RecordWord form.Stray form.Stray (λ z. tells_stray K l c ls due.RecordWord) (tells_record_word K l c ls) (λ z. tells_stray K l c ls due.RecordWord) (λ z. tells_stray K l c ls due.RecordWord)
  tells due.RecordLine = tells_count due.RecordLine 5 form.RecordLine (tells_record K l c ls)
  tells due.Opening = tells_opening
  tells due.NameLine = tells_count due.NameLine 7 form.NameLine (tells_names K l c ls)
  tells due.FirstComponent = tells_count due.FirstComponent 4 form.OpeningComponent (tells_first_part K l c ls)
  tells due.NextComponent = tells_either due.NextComponent 4 form.ComponentLine 1 form.TimeLine (tells_part K l c ls) (tells_time K l c ls)
  tells due.AfterSample =
      tells_if due.AfterSample (eqb (field_count l) 2) form.Superframe (either_form l 4 form.OpeningComponent 0 form.SamplesEnd)
      (λ e. tells_superframe K l c ls due.AfterSample)
      (λ e. tells_either due.AfterSample 4 form.OpeningComponent 0 form.SamplesEnd (tells_opening_part K l c ls) (tells_samples_end K l c ls))
  tells due.SignedLine = tells_count due.SignedLine 5 form.SignedLine (tells_signed K l c ls)
  tells due.RangeLine = tells_count due.RangeLine 4 form.RangeLine (tells_range K l c ls)
  tells due.SourceLine = tells_count due.SourceLine 3 form.SourceLine (tells_source K l c ls)
  tells due.AfterSource = tells_either due.AfterSource 4 form.LabelLine 0 form.SourceEnd (tells_label K l c ls) (tells_source_end K l c ls)
  tells due.SourceBlank = tells_count due.SourceBlank 0 form.SourceEnd (tells_label_end K l c ls)
  tells due.AfterSourceBlank = tells_either due.AfterSourceBlank 3 form.SourceLine 0 form.ParameterEnd (tells_more_source K l c ls) (tells_parameter_end K l c ls)
  tells due.NextParameter =
      tells_word due.NextParameter form.Stray form.Stray form.Stray form.ParameterWord (λ z. tells_stray K l c ls due.NextParameter) (λ z. tells_stray K l c ls due.NextParameter) (λ z. tells_stray K l c ls due.NextParameter) (tells_next K l c ls)
  tells due.Nothing = tells_stray K l c ls due.Nothing

-- ---- the end

ends : (K : Book) (os : List ℕ) (c : Content) → Between K → identified (content_of K) os ≡ Accepted c → Grows K c []
ends K os c h e =
    let q = (identified_accepted (content_of K) os c e).same in
    record {
      sequential = ap (λ (d : Content). d.sequential) q;
      count = ap (λ (d : Content). length d.subframes) q ∙ h.ground.long;
      subframes = ap (λ (d : Content). d.subframes) q;
      list = ap (λ (d : Content). d.parameters) q ∙ sym (append-nil K.parameters);
    }

at_end_lem : (d : Due) (K : Book) (os : List ℕ) (k : ℕ) (c : Content) → Sound d K → at_end d K os k ≡ Accepted c → Left d K c []
at_end_lem d K os k c h e =
    at_end_only d K os k c (λ f. Sound f K → Left f K c [])
    (λ r g. record { told = []; lines = refl; made = ends K os c g r; no_parts = g.no_parts })
    (λ r g. record { lines = refl; made = ends K os c g r })
    e h

-- ---- the lines

-- lines written as these items, and what is left
record Said (d : Due) (K : Book) (c : Content) (x : List ℕ) : Type 0 where
  lines : List (List Item)
  written : Written x lines
  left : Left d K c lines

run_said : (d : Due) (K : Book) (os : List ℕ) (k : ℕ) (ls : Lines) (c : Content) → Sound d K → run d K os k ls ≡ Accepted c → (x : List ℕ) → lines_of x ≡ ls → Said d K c x
unfolding run
run_said d K os k none c h e x q = record { lines = []; written = lines_none x q; left = at_end_lem d K os (k + 1) c h e }
run_said d K os k (unended l) c h e x q = never Unended (k + 1) c (sym (unended_run d K os k l) ∙ e)
run_said d K os k (line l ls) c h e x q =
    go (line_judged true l (tests_of (form_at d K l) K l)) refl
    (λ w r y z. run_said (due_after (form_at d K l)) (grow (form_at d K l) l K) (opens (form_at d K l) (k + 1) os) (k + 1) ls c w r y z)
    e
  where
    go : (j : Judged) → line_judged true l (tests_of (form_at d K l) K l) ≡ j
        → (Sound (due_after (form_at d K l)) (grow (form_at d K l) l K) → run (due_after (form_at d K l)) (grow (form_at d K l) l K) (opens (form_at d K l) (k + 1) os) (k + 1) ls ≡ Accepted c → (y : List ℕ) → lines_of y ≡ ls → Said (due_after (form_at d K l)) (grow (form_at d K l) l K) c y)
        → on_judged j (k + 1) (run (due_after (form_at d K l)) (grow (form_at d K l) l K) (opens (form_at d K l) (k + 1) os) (k + 1) ls) ≡ Accepted c
        → Said d K c x
    go (Ok _) p ih r =
        let u = lines_line x l ls q in
        let s = ih (sound_step d K l h p) r u.rest (sym u.left) in
        let t = tells K l c s.lines d h (passed (form_at d K l) K l p) s.left in
        record { lines = t.items ∷ s.lines; written = (l, u.rest, u.written, t.line, s.written); left = t.left }
    go (Err r) p ih s = never r (k + 1) c s

-- ---- the sheet

pub accepted_says : (x : List ℕ) (c : Content) → judge_of x ≡ Accepted c → Says x c
unfolding judge_of
accepted_says x c e = go (ltb longest_sheet (length x)) refl e
  where
    go : (t : Bool) → ltb longest_sheet (length x) ≡ t → cond t (Refused SheetTooLong 0) (run due.HeaderWord empty_book [] 0 (lines_of x)) ≡ Accepted c → Says x c
    go true p q = never SheetTooLong 0 c q
    go false p q =
        let s = run_said due.HeaderWord empty_book [] 0 (lines_of x) c (record { no_pairs = refl; no_parameters = refl; no_parts = refl }) q x refl in
        let h = s.left.left in
        record {
          pairs = h.pairs;
          told = h.told;
          declare = h.declare;
          list = h.list;
          written = subst (λ (k : List (List Item)). Written x k) (s.left.lines ∙ ap (λ (k : List (List Item)). word header_word ∷ k) h.lines) s.written;
          short = ltb-false longest_sheet (length x) p;
          lawful = accepted_lawful x c e;
        }
