-- The walk over an accepted sheet, step by step. Assumes nothing.
use mathlib.Core.Path.{◌≡◌, refl, sym, ap, subst, ◌∙◌}
use mathlib.Core.Bool.{Bool, true, false}
use mathlib.Core.List.{List}
use mathlib.Core.Logic.{◌⊎◌, inl, inr, ⊎_elim}
use Prim.Native.Nat.{ℕ, ◌+◌, ◌<◌}
use native.Mathlib.Omega.{arith}
use lib.Dec.{ltb}
use lib.ListN.{length, drop, length-drop}
use borrow.Author.Tests.{ltb-true, ltb-false}
use Rattle.std.specs.Prelude.{Ok, Err}
use Rattle.text.specs.Refusals.{first, or_else, Judged}
use Rattle.text.specs.declared.refusal.Refusal.{Refusal}
use Rattle.text.specs.Parts.{index_of}
use Rattle.lines.specs.Line.{end_byte, raw_hits}
use Rattle.lines.specs.Lines.{Lines, none, unended, line, lines_of}
use Rattle.lines.specs.Order.{hits, line_judged}
use Rattle.lines.proofs.Orders.{first_none, first_append}
use Rattle.lines.proofs.Cuts.{head_judged, lines_cut, lines_open}
use Rattle.lineforms.specs.Forms.{due_after}
use Rattle.lineforms.specs.declared.due.Due.{Due}
use Rattle.lineforms.specs.declared.due.Due.TheVariants as due
use Rattle.lineforms.specs.declared.due.Form.{Form}
use Rattle.lineforms.specs.declared.due.Form.TheVariants as form
use Rattle.model.specs.Content.{Content, no_parameter}
use Rattle.gather.specs.Book.{Book, grow}
use Rattle.gather.specs.Tests.{due_test, tests_of}
use Rattle.gather.proofs.Stages.{unended_run}
use Rattle.gather.specs.Ruling.{Ruling, Accepted, form_at, opens, at_end, on_judged, run}
use Rattle.judge.specs.Walk.{onward, end_book}
use Rattle.laying.proofs.Clear.{Clear, Kept, clear_at, clear_step}
use Rattle.laying.proofs.Rising.{Rises, rises_same, rises_on, rises_grow}

-- ---- a line of an accepted sheet passes

pub goes : (j : Judged) (k : ℕ) (r : Ruling) (c : Content) → on_judged j k r ≡ Accepted c → j ≡ Ok tt
goes (Ok _) k r c e = refl
goes (Err q) k r c e = absurd (cc)

-- a form that passes is not stray
kept : (f : Form) → due_test f ≡ Ok tt → Kept f
kept form.Stray e = absurd (cc)
kept form.Superframe e = absurd (cc)
kept form.HeaderWord e = tt
kept form.HeaderLine e = tt
kept form.RecordWord e = tt
kept form.RecordLine e = tt
kept form.NoneWord e = tt
kept form.ParameterWord e = tt
kept form.NameLine e = tt
kept form.OpeningComponent e = tt
kept form.ComponentLine e = tt
kept form.TimeLine e = tt
kept form.SamplesEnd e = tt
kept form.SignedLine e = tt
kept form.RangeLine e = tt
kept form.SourceLine e = tt
kept form.LabelLine e = tt
kept form.SourceEnd e = tt
kept form.ParameterEnd e = tt

module _ (d : Due) (K : Book) (l : List ℕ) (h : line_judged true l (tests_of (form_at d K l) K l) ≡ Ok tt) where
  pub line_kept : Kept (form_at d K l)
  unfolding line_judged
  line_kept = kept (form_at d K l) (first_none _ h 3)

-- ---- the rest of an accepted run

-- what an accepted run still has before it
pub record On (d : Due) (K : Book) (os : List ℕ) (k : ℕ) (l : List ℕ) (ls : Lines) (c : Content) : Type 0 where
  pub passes : line_judged true l (tests_of (form_at d K l) K l) ≡ Ok tt
  pub says : run (due_after (form_at d K l)) (grow (form_at d K l) l K) (opens (form_at d K l) (k + 1) os) (k + 1) ls ≡ Accepted c

pub accepted_on : (d : Due) (K : Book) (os : List ℕ) (k : ℕ) (l : List ℕ) (ls : Lines) (c : Content) → run d K os k (line l ls) ≡ Accepted c → On d K os k l ls c
unfolding run
accepted_on d K os k l ls c e =
    let p = goes (line_judged true l (tests_of (form_at d K l) K l)) (k + 1) (run (due_after (form_at d K l)) (grow (form_at d K l) l K) (opens (form_at d K l) (k + 1) os) (k + 1) ls) c e in
    record { passes = p; says = subst (λ (j : Judged). on_judged j (k + 1) (run (due_after (form_at d K l)) (grow (form_at d K l) l K) (opens (form_at d K l) (k + 1) os) (k + 1) ls) ≡ Accepted c) p e }

pub end_on : (d : Due) (K : Book) (l : List ℕ) (ls : Lines) → line_judged true l (tests_of (form_at d K l) K l) ≡ Ok tt → end_book d K (line l ls) ≡ end_book (due_after (form_at d K l)) (grow (form_at d K l) l K) ls
unfolding end_book
end_on d K l ls p = ap (λ (j : Judged). onward j K (end_book (due_after (form_at d K l)) (grow (form_at d K l) l K) ls)) p

-- lines only add, to the end
pub rises_end : (n : ℕ) (d : Due) (K : Book) (os : List ℕ) (k : ℕ) (ls : Lines) (c : Content) → Clear d K → run d K os k ls ≡ Accepted c → Rises n K (end_book d K ls)
unfolding end_book
rises_end n d K os k none c h e = rises_same n K
rises_end n d K os k (unended l) c h e = rises_same n K
rises_end n d K os k (line l ls) c h e =
    let o = accepted_on d K os k l ls c e in
    let at = clear_at K l d h in
    let G = grow (form_at d K l) l K in
    let s = clear_step (form_at d K l) l K (line_kept d K l o.passes) at in
    subst (λ (B : Book). Rises n K B) (sym (unfold end_book in end_on d K l ls o.passes))
    (rises_on n K G (end_book (due_after (form_at d K l)) G ls) (rises_grow n (form_at d K l) l K at)
    (rises_end n (due_after (form_at d K l)) G (opens (form_at d K l) (k + 1) os) (k + 1) ls c s o.says))

-- ---- the end of an accepted run

-- it ends where a parameter may begin, or where nothing is due
pub end_due : (P : Due → Type 0) (d : Due) (K : Book) (os : List ℕ) (k : ℕ) (c : Content) → P d → at_end d K os k ≡ Accepted c → P due.NextParameter ⊎ P due.Nothing
end_due P due.HeaderWord K os k c h e = absurd (cc)
end_due P due.HeaderLine K os k c h e = absurd (cc)
end_due P due.RecordWord K os k c h e = absurd (cc)
end_due P due.RecordLine K os k c h e = absurd (cc)
end_due P due.Opening K os k c h e = absurd (cc)
end_due P due.NameLine K os k c h e = absurd (cc)
end_due P due.FirstComponent K os k c h e = absurd (cc)
end_due P due.NextComponent K os k c h e = absurd (cc)
end_due P due.AfterSample K os k c h e = absurd (cc)
end_due P due.SignedLine K os k c h e = absurd (cc)
end_due P due.RangeLine K os k c h e = absurd (cc)
end_due P due.SourceLine K os k c h e = absurd (cc)
end_due P due.AfterSource K os k c h e = absurd (cc)
end_due P due.SourceBlank K os k c h e = absurd (cc)
end_due P due.AfterSourceBlank K os k c h e = absurd (cc)
end_due P due.NextParameter K os k c h e = inl h
end_due P due.Nothing K os k c h e = inr h

-- no parameter is open there
pub end_clear : (d : Due) (K : Book) (os : List ℕ) (k : ℕ) (ls : Lines) (c : Content) → Clear d K → run d K os k ls ≡ Accepted c → (end_book d K ls).opened ≡ no_parameter
unfolding end_book run
end_clear d K os k none c h e = ⊎_elim (λ p. p) (λ p. p) (end_due (λ x. Clear x K) d K os (k + 1) c h e)
end_clear d K os k (unended l) c h e = let q = sym (unended_run d K os k l) ∙ e in absurd (cc)
end_clear d K os k (line l ls) c h e =
    let o = accepted_on d K os k l ls c e in
    let at = clear_at K l d h in
    let s = clear_step (form_at d K l) l K (line_kept d K l o.passes) at in
    ap (λ (B : Book). B.opened) (end_on d K l ls o.passes)
    ∙ end_clear (due_after (form_at d K l)) (grow (form_at d K l) l K) (opens (form_at d K l) (k + 1) os) (k + 1) ls c s o.says

-- ---- a cursor in an accepted sheet finds a line

some_line : (t : List ℕ) → 0 < length t → lines_of t ≡ none → ⊥
some_line t h e = go (ltb (index_of end_byte t) (length t)) refl
  where
    go : (b : Bool) → ltb (index_of end_byte t) (length t) ≡ b → ⊥
    go true p =
        let q = sym (lines_cut t (ltb-true (index_of end_byte t) (length t) p)) ∙ e in
        cc
    go false p =
        let q = sym (lines_open t (ltb-false (index_of end_byte t) (length t) p) h) ∙ e in
        cc

pub refused_not : (d : Due) (K : Book) (os : List ℕ) (k : ℕ) (ls : Lines) (c : Content) (r : Refusal) → (ls ≡ none → ⊥) → run d K os k ls ≡ Accepted c → head_judged ls ≡ Err r → ⊥
unfolding run head_judged line_judged
refused_not d K os k none c r m e h = m refl
refused_not d K os k (unended l) c r m e h = let q = sym (unended_run d K os k l) ∙ e in cc
refused_not d K os k (line l ls) c r m e h =
    let o = accepted_on d K os k l ls c e in
    let q : or_else (first (raw_hits true l)) (first (hits (tests_of (form_at d K l) K l))) ≡ Ok tt = sym (first_append (raw_hits true l) (hits (tests_of (form_at d K l) K l))) ∙ o.passes in
    let t : Err r ≡ Ok tt = subst (λ (j : Judged). or_else j (first (hits (tests_of (form_at d K l) K l))) ≡ Ok tt) h q in
    cc

pub line_there : (s : List ℕ) (at : ℕ) → at < length s → lines_of (drop at s) ≡ none → ⊥
line_there s at h e = some_line (drop at s) (simp length-drop (omega arith)) e
