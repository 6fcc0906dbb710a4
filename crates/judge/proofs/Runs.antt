-- The judge's answer line by line, and at the end of the sheet. Assumes nothing.
use mathlib.Core.Path.{◌≡◌, refl, sym, ap, ◌∙◌}
use mathlib.Core.Bool.{Bool, true, false, cond}
use mathlib.Core.List.{List, [], ◌∷◌}
use Prim.Native.Nat.{ℕ, ◌+◌, ◌≤◌, ◌<◌}
use native.Mathlib.Omega.{arith}
use borrow.Author.Tests.{lt-ltb, le-ltb}
use lib.Dec.{eqb, ltb}
use lib.ListN.{length, drop, length-drop}
use Rattle.std.specs.Prelude.{Ok, Err}
use Rattle.text.specs.Refusals.{Judged, first, or_else}
use Rattle.text.specs.declared.refusal.Refusal.{Refusal}
use Rattle.text.specs.declared.refusal.Refusal.TheVariants.{SheetTooLong, Unended}
use Rattle.text.proofs.Cuts.{drop_end}
use Rattle.lines.specs.Line.{end_byte, raw_hits}
use Rattle.lines.specs.Lines.{Lines, none, unended, line, push, lines_of}
use Rattle.lines.specs.Order.{hits, line_judged}
use Rattle.lines.proofs.Cuts.{head_judged}
use Rattle.lines.proofs.Orders.{first_append}
use Rattle.lineforms.specs.Forms.{due_after}
use Rattle.lineforms.specs.declared.due.Due.{Due}
use Rattle.lineforms.specs.declared.due.Due.TheVariants as due
use Rattle.lineforms.specs.declared.due.Form.{Form}
use Rattle.model.specs.Content.{Content}
use Rattle.gather.specs.Book.{Book, empty_book, grow, content_of}
use Rattle.gather.specs.Tests.{due_test, room_test, field_tests, sample_test, names_test, tests_of}
use Rattle.gather.specs.Ruling.{Ruling, Accepted, Refused, identified, at_end, form_at, opens, on_judged, run, longest_sheet, judge_of}
use Rattle.gather.proofs.AcceptedLawful.{identified_accepted}
use Rattle.gather.proofs.Stages.{unended_run}
use Rattle.judge.specs.Counts.{tally_of}
use Rattle.judge.specs.Walk.{onward, end_book, book_of, Verdict, refused, verdict_of, may_end}

-- the answer of the lines from here on
unfoldable pub answer : Due → Book → List ℕ → ℕ → Lines → Verdict
answer d K os k ls = verdict_of (run d K os k ls) (tally_of (end_book d K ls))

-- ---- a line

two : (j k : Judged) → first (j ∷ k ∷ []) ≡ or_else j k
unfolding first
two (Ok _) (Ok _) = refl
two (Ok _) (Err r) = refl
two (Err r) k = refl

regroup : (a b c : Judged) → or_else a (or_else b c) ≡ or_else (or_else a b) c
regroup (Ok _) b c = refl
regroup (Err r) b c = refl

-- what a line is refused for: the raw line, then 5, 12 and the fields, then 14, then 15
pub line_tests : (l : List ℕ) (f : Form) (K : Book) → line_judged true l (tests_of f K l) ≡ or_else (first (raw_hits true l)) (or_else (or_else (first (due_test f ∷ room_test f K ∷ field_tests f K l)) (sample_test f K l)) (names_test f K l))
unfolding line_judged
line_tests l f K =
    first_append (raw_hits true l) (hits (tests_of f K l))
    ∙ ap (or_else (first (raw_hits true l)))
    (first_append (due_test f ∷ room_test f K ∷ field_tests f K l) (sample_test f K l ∷ names_test f K l ∷ [])
    ∙ (ap (or_else (first (due_test f ∷ room_test f K ∷ field_tests f K l))) (two (sample_test f K l) (names_test f K l))
    ∙ regroup (first (due_test f ∷ room_test f K ∷ field_tests f K l)) (sample_test f K l) (names_test f K l)))

module _ (d : Due) (K : Book) (os : List ℕ) (k : ℕ) (l : List ℕ) (ls : Lines) where
  pub answer_passes : line_judged true l (tests_of (form_at d K l) K l) ≡ Ok tt → answer d K os k (line l ls) ≡ answer (due_after (form_at d K l)) (grow (form_at d K l) l K) (opens (form_at d K l) (k + 1) os) (k + 1) ls
  unfolding answer run end_book
  answer_passes e = rw e

  pub answer_refused : (q : Refusal) → line_judged true l (tests_of (form_at d K l) K l) ≡ Err q → answer d K os k (line l ls) ≡ refused q (k + 1)
  unfolding answer run end_book
  answer_refused q e = rw e

-- a raw line that is refused: of one that lacks its end byte, for that
pub answer_raw : (d : Due) (K : Book) (os : List ℕ) (k : ℕ) (ls : Lines) (q : Refusal) → (ls ≡ none → ⊥) → head_judged ls ≡ Err q → answer d K os k ls ≡ refused q (k + 1)
unfolding head_judged answer first
answer_raw d K os k none q n e = absurd (n refl)
answer_raw d K os k (unended l) q n e =
    let z : Unended ≡ q = cc in
    ap (λ (r : Ruling). verdict_of r (tally_of (end_book d K (unended l)))) (unended_run d K os k l) ∙ ap (λ (r : Refusal). refused r (k + 1)) z
answer_raw d K os k (line l ls) q n e =
    answer_refused d K os k l ls q
    (line_tests l (form_at d K l) K
    ∙ ap (λ (j : Judged). or_else j (or_else (or_else (first (due_test (form_at d K l) ∷ room_test (form_at d K l) K ∷ field_tests (form_at d K l) K l)) (sample_test (form_at d K l) K l)) (names_test (form_at d K l) K l))) e)

-- ---- the end of the sheet

count : Lines → ℕ
count none = 0
count (unended l) = 1
count (line l ls) = 1

push_some : (b : ℕ) (ls : Lines) → count (push b ls) ≡ 1
unfolding count
push_some b none = refl
push_some b (unended l) = refl
push_some b (line l ls) = refl

lines_some : (s : List ℕ) → 0 < length s → lines_of s ≡ none → ⊥
unfolding lines_of count
lines_some [] h e = omega arith
lines_some (b ∷ s) h e = go (eqb b end_byte) e
  where
    go : (t : Bool) → cond t (line [] (lines_of s)) (push b (lines_of s)) ≡ none → ⊥
    go true q = let z : ◌≡◌ {A = ℕ} 1 0 = ap count q in omega arith
    go false q = let z : ◌≡◌ {A = ℕ} 1 0 = sym (push_some b (lines_of s)) ∙ ap count q in omega arith

pub lines_left : (s : List ℕ) (at : ℕ) → at < length s → lines_of (drop at s) ≡ none → ⊥
lines_left s at h = lines_some (drop at s) (omega (arith, length-drop at s))

pub lines_none : (s : List ℕ) (at : ℕ) → length s ≤ at → lines_of (drop at s) ≡ none
unfolding lines_of
lines_none s at h = rw (drop_end s at h)

pub answer_due : (d : Due) (K : Book) (os : List ℕ) (k : ℕ) → may_end d ≡ false → answer d K os k none ≡ refused Unended (k + 1)
unfolding answer run
answer_due due.HeaderWord K os k e = refl
answer_due due.HeaderLine K os k e = refl
answer_due due.RecordWord K os k e = refl
answer_due due.RecordLine K os k e = refl
answer_due due.Opening K os k e = refl
answer_due due.NameLine K os k e = refl
answer_due due.FirstComponent K os k e = refl
answer_due due.NextComponent K os k e = refl
answer_due due.AfterSample K os k e = refl
answer_due due.SignedLine K os k e = refl
answer_due due.RangeLine K os k e = refl
answer_due due.SourceLine K os k e = refl
answer_due due.AfterSource K os k e = refl
answer_due due.SourceBlank K os k e = refl
answer_due due.AfterSourceBlank K os k e = refl
answer_due due.NextParameter K os k e = absurd (cc)
answer_due due.Nothing K os k e = absurd (cc)

pub answer_end : (d : Due) (K : Book) (os : List ℕ) (k : ℕ) → may_end d ≡ true → answer d K os k none ≡ verdict_of (identified (content_of K) os) (tally_of K)
unfolding answer run end_book
answer_end due.HeaderWord K os k e = absurd (cc)
answer_end due.HeaderLine K os k e = absurd (cc)
answer_end due.RecordWord K os k e = absurd (cc)
answer_end due.RecordLine K os k e = absurd (cc)
answer_end due.Opening K os k e = absurd (cc)
answer_end due.NameLine K os k e = absurd (cc)
answer_end due.FirstComponent K os k e = absurd (cc)
answer_end due.NextComponent K os k e = absurd (cc)
answer_end due.AfterSample K os k e = absurd (cc)
answer_end due.SignedLine K os k e = absurd (cc)
answer_end due.RangeLine K os k e = absurd (cc)
answer_end due.SourceLine K os k e = absurd (cc)
answer_end due.AfterSource K os k e = absurd (cc)
answer_end due.SourceBlank K os k e = absurd (cc)
answer_end due.AfterSourceBlank K os k e = absurd (cc)
answer_end due.NextParameter K os k e = refl
answer_end due.Nothing K os k e = refl

-- ---- the sheet

abbrev pub answer_of : List ℕ → Verdict
answer_of s = verdict_of (judge_of s) (tally_of (book_of s))

pub answer_long : (s : List ℕ) → longest_sheet < length s → refused SheetTooLong 0 ≡ answer_of s
unfolding judge_of
answer_long s h = rw (lt-ltb longest_sheet (length s) h)

pub answer_start : (s : List ℕ) → length s ≤ longest_sheet → answer due.HeaderWord empty_book [] 0 (lines_of s) ≡ answer_of s
unfolding answer judge_of book_of
answer_start s h = rw (le-ltb longest_sheet (length s) h)

-- ---- what is accepted is what the lines gathered to

never : {A : Type 0} (r : Refusal) (k : ℕ) (c : Content) → Refused r k ≡ Accepted c → A
never r k c e = absurd (cc)

end_book_lem : (d : Due) (K : Book) (os : List ℕ) (k : ℕ) (c : Content) → at_end d K os k ≡ Accepted c → c ≡ content_of K
end_book_lem due.HeaderWord K os k c e = never Unended k c e
end_book_lem due.HeaderLine K os k c e = never Unended k c e
end_book_lem due.RecordWord K os k c e = never Unended k c e
end_book_lem due.RecordLine K os k c e = never Unended k c e
end_book_lem due.Opening K os k c e = never Unended k c e
end_book_lem due.NameLine K os k c e = never Unended k c e
end_book_lem due.FirstComponent K os k c e = never Unended k c e
end_book_lem due.NextComponent K os k c e = never Unended k c e
end_book_lem due.AfterSample K os k c e = never Unended k c e
end_book_lem due.SignedLine K os k c e = never Unended k c e
end_book_lem due.RangeLine K os k c e = never Unended k c e
end_book_lem due.SourceLine K os k c e = never Unended k c e
end_book_lem due.AfterSource K os k c e = never Unended k c e
end_book_lem due.SourceBlank K os k c e = never Unended k c e
end_book_lem due.AfterSourceBlank K os k c e = never Unended k c e
end_book_lem due.NextParameter K os k c e = (identified_accepted (content_of K) os c e).same
end_book_lem due.Nothing K os k c e = (identified_accepted (content_of K) os c e).same

run_book : (d : Due) (K : Book) (os : List ℕ) (k : ℕ) (ls : Lines) (c : Content) → run d K os k ls ≡ Accepted c → c ≡ content_of (end_book d K ls)
unfolding run end_book
run_book d K os k none c e = end_book_lem d K os (k + 1) c e
run_book d K os k (unended l) c e = never Unended (k + 1) c (sym (unended_run d K os k l) ∙ e)
run_book d K os k (line l ls) c e =
    go (line_judged true l (tests_of (form_at d K l) K l))
    (λ q. run_book (due_after (form_at d K l)) (grow (form_at d K l) l K) (opens (form_at d K l) (k + 1) os) (k + 1) ls c q)
    e
  where
    go : (j : Judged) → (run (due_after (form_at d K l)) (grow (form_at d K l) l K) (opens (form_at d K l) (k + 1) os) (k + 1) ls ≡ Accepted c → c ≡ content_of (end_book (due_after (form_at d K l)) (grow (form_at d K l) l K) ls))
        → on_judged j (k + 1) (run (due_after (form_at d K l)) (grow (form_at d K l) l K) (opens (form_at d K l) (k + 1) os) (k + 1) ls) ≡ Accepted c
        → c ≡ content_of (onward j K (end_book (due_after (form_at d K l)) (grow (form_at d K l) l K) ls))
    go (Ok _) ih q = ih q
    go (Err r) ih q = never r (k + 1) c q

pub accepted_book : (s : List ℕ) (c : Content) → judge_of s ≡ Accepted c → c ≡ content_of (book_of s)
unfolding judge_of book_of
accepted_book s c e = go (ltb longest_sheet (length s)) e
  where
    go : (t : Bool) → cond t (Refused SheetTooLong 0) (run due.HeaderWord empty_book [] 0 (lines_of s)) ≡ Accepted c → c ≡ content_of (end_book due.HeaderWord empty_book (lines_of s))
    go true q = never SheetTooLong 0 c q
    go false q = run_book due.HeaderWord empty_book [] 0 (lines_of s) c q
