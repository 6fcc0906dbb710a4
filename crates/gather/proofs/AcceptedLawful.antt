-- Whatever sheet the judge accepts, its Content obeys every limit and every rule of 13 to 16; so its writing is a table, and
-- the table says it. Assumes nothing.
use mathlib.Core.Path.{◌≡◌, refl, sym, ◌∙◌}
use mathlib.Core.Bool.{Bool, true, false, cond, not}
use mathlib.Core.Logic.{◌⊎◌, inl, inr}
use mathlib.Core.List.{List, []}
use Prim.Native.Nat.{ℕ, ◌+◌, ◌<◌}
use native.Mathlib.Omega.{arith}
use borrow.Author.Tests.{eqb-true, ltb-false}
use lib.Dec.{eqb, ltb}
use lib.ListN.{length, get_or}
use Rattle.std.specs.Prelude.{Ok, Err}
use Rattle.lay.specs.Below.{all, find}
use Rattle.lay.proofs.Tests.{both, none, holds_not}
use Rattle.lay.proofs.Below.{all_made, find_least}
use Rattle.text.specs.Refusals.{Judged}
use Rattle.text.specs.declared.refusal.Refusal.{Refusal}
use Rattle.text.specs.declared.refusal.Refusal.TheVariants.{BadIdentifiers, SheetTooLong, Unended}
use Rattle.lines.specs.Lines.{Lines, none as noLines, unended, line, lines_of}
use Rattle.lines.specs.Order.{line_judged}
use Rattle.lineforms.specs.Forms.{due_after}
use Rattle.lineforms.specs.declared.due.Due.{Due}
use Rattle.lineforms.specs.declared.due.Due.TheVariants as due
use Rattle.model.specs.Content.{Content, parameters, subframes}
use Rattle.model.specs.Forms.{newest, sheet_limits}
use Rattle.model.specs.Lawful.{lawful}
use Rattle.model.specs.Identifiers.{identifies, taken, identifiers_ok}
use Rattle.model.specs.Meaning.{IdentifiersLaw}
use Rattle.model.specs.Write.{write}
use Rattle.model.specs.View.{view}
use Rattle.model.specs.Accepts.{accepts}
use Rattle.model.proofs.Meanings.{lawful_made, identifiers_law}
use Rattle.model.proofs.Statements.{view_new, new_accepted, one_content}
use Rattle.gather.specs.Book.{Book, empty_book, grow, content_of}
use Rattle.gather.specs.Tests.{tests_of}
use Rattle.gather.specs.Ruling.{Accepted, Refused, first_bad, identified, at_end, form_at, opens, on_judged, run, longest_sheet, judge_of}
use Rattle.gather.proofs.Counts.{samples_counted, components_counted}
use Rattle.gather.proofs.Sound.{Between, Sound}
use Rattle.gather.proofs.Steps.{sound_step}
use Rattle.gather.proofs.Stages.{unended_run}

pub never : {A : Type 0} (r : Refusal) (k : ℕ) (c : Content) → Refused r k ≡ Accepted c → A
never r k c e = absurd (cc)

-- ---- 16, after the last line

-- no identifier breaks a rule where the first that does is none
none_bad : (c : Content) → ltb (first_bad c) (parameters c) ≡ false → all (parameters c) (identifies c) ≡ true
unfolding first_bad
none_bad c e = all_made (parameters c) (identifies c) (λ k l. go k l (identifies c k) refl)
  where
    go : (k : ℕ) → k < parameters c → (t : Bool) → identifies c k ≡ t → t ≡ true
    go k l true q = refl
    go k l false q =
        absurd
        (let f = find_least (parameters c) (λ i. not (identifies c i)) k l (holds_not (identifies c k) q) in
        omega (arith, ltb-false (find (parameters c) (λ i. not (identifies c i))) (parameters c) e))

pub record Identified (c d : Content) : Type 0 where
  pub same : d ≡ c
  pub obeys : (parameters c ≡ 0) ⊎ IdentifiersLaw c

pub identified_accepted : (c : Content) (os : List ℕ) (d : Content) → identified c os ≡ Accepted d → Identified c d
unfolding identified
identified_accepted c os d e =
    go (eqb (parameters c) 0) (ltb (first_bad c) (parameters c)) (all (subframes c) (λ s. taken c (s + 1))) refl refl refl e
  where
    go : (x y z : Bool) → eqb (parameters c) 0 ≡ x → ltb (first_bad c) (parameters c) ≡ y → all (subframes c) (λ s. taken c (s + 1)) ≡ z
        → cond x (Accepted c) (cond y (Refused BadIdentifiers (get_or os (first_bad c) 0)) (cond z (Accepted c) (Refused BadIdentifiers 0))) ≡ Accepted d
        → Identified c d
    go true y z p q r e = record { same = cc; obeys = inl (eqb-true (parameters c) 0 p) }
    go false true z p q r e = never BadIdentifiers (get_or os (first_bad c) 0) d e
    go false false true p q r e =
        record { same = cc; obeys = inr (identifiers_law c (unfold identifiers_ok in both _ (none_bad c q) (both _ r none))) }
    go false false false p q r e = never BadIdentifiers 0 d e

-- ---- the end of the sheet

between_lawful : (K : Book) → Between K → (parameters (content_of K) ≡ 0) ⊎ IdentifiersLaw (content_of K) → lawful sheet_limits (content_of K) ≡ true
between_lawful K h i =
    let g = h.ground in
    let s = samples_counted (content_of K) in
    let c = components_counted (content_of K) in
    lawful_made sheet_limits (content_of K)
    (record {
      some_subframes = omega (arith, g.some, g.long);
      few_subframes = omega (arith, g.few, g.long);
      few_parameters = h.whole.few;
      few_samples = rw s h.few_samples;
      few_components = rw c h.few_components;
      each_subframe = g.each;
      each_parameter = h.whole.each;
      apart = h.whole.apart;
      identifiers = i;
    })

end_lawful : (K : Book) (os : List ℕ) (c : Content) → Between K → identified (content_of K) os ≡ Accepted c → lawful sheet_limits c ≡ true
end_lawful K os c h e =
    let r = identified_accepted (content_of K) os c e in
    rw r.same (between_lawful K h r.obeys)

-- the end rules only where no line is due
pub at_end_only : (d : Due) (K : Book) (os : List ℕ) (k : ℕ) (c : Content) (P : Due → Type 0) → (identified (content_of K) os ≡ Accepted c → P due.NextParameter) → (identified (content_of K) os ≡ Accepted c → P due.Nothing) → at_end d K os k ≡ Accepted c → P d
at_end_only due.HeaderWord K os k c P p q e = never Unended k c e
at_end_only due.HeaderLine K os k c P p q e = never Unended k c e
at_end_only due.RecordWord K os k c P p q e = never Unended k c e
at_end_only due.RecordLine K os k c P p q e = never Unended k c e
at_end_only due.Opening K os k c P p q e = never Unended k c e
at_end_only due.NameLine K os k c P p q e = never Unended k c e
at_end_only due.FirstComponent K os k c P p q e = never Unended k c e
at_end_only due.NextComponent K os k c P p q e = never Unended k c e
at_end_only due.AfterSample K os k c P p q e = never Unended k c e
at_end_only due.SignedLine K os k c P p q e = never Unended k c e
at_end_only due.RangeLine K os k c P p q e = never Unended k c e
at_end_only due.SourceLine K os k c P p q e = never Unended k c e
at_end_only due.AfterSource K os k c P p q e = never Unended k c e
at_end_only due.SourceBlank K os k c P p q e = never Unended k c e
at_end_only due.AfterSourceBlank K os k c P p q e = never Unended k c e
at_end_only due.NextParameter K os k c P p q e = p e
at_end_only due.Nothing K os k c P p q e = q e

at_end_lawful : (d : Due) (K : Book) (os : List ℕ) (k : ℕ) (c : Content) → Sound d K → at_end d K os k ≡ Accepted c → lawful sheet_limits c ≡ true
at_end_lawful d K os k c h e =
    at_end_only d K os k c (λ f. Sound f K → lawful sheet_limits c ≡ true) (λ r g. end_lawful K os c g r) (λ r g. end_lawful K os c g r) e h

-- ---- the lines

pub run_lawful : (d : Due) (K : Book) (os : List ℕ) (k : ℕ) (ls : Lines) (c : Content) → Sound d K → run d K os k ls ≡ Accepted c → lawful sheet_limits c ≡ true
unfolding run
run_lawful d K os k noLines c h e = at_end_lawful d K os (k + 1) c h e
run_lawful d K os k (unended l) c h e = never Unended (k + 1) c (sym (unended_run d K os k l) ∙ e)
run_lawful d K os k (line l ls) c h e =
    go (line_judged true l (tests_of (form_at d K l) K l)) refl
    (λ w q. run_lawful (due_after (form_at d K l)) (grow (form_at d K l) l K) (opens (form_at d K l) (k + 1) os) (k + 1) ls c w q)
    e
  where
    go : (j : Judged) → line_judged true l (tests_of (form_at d K l) K l) ≡ j
        → (Sound (due_after (form_at d K l)) (grow (form_at d K l) l K) → run (due_after (form_at d K l)) (grow (form_at d K l) l K) (opens (form_at d K l) (k + 1) os) (k + 1) ls ≡ Accepted c → lawful sheet_limits c ≡ true)
        → on_judged j (k + 1) (run (due_after (form_at d K l)) (grow (form_at d K l) l K) (opens (form_at d K l) (k + 1) os) (k + 1) ls) ≡ Accepted c
        → lawful sheet_limits c ≡ true
    go (Ok _) p ih q = ih (sound_step d K l h p) q
    go (Err r) p ih q = never r (k + 1) c q

-- ---- the sheet

pub accepted_lawful : (s : List ℕ) (c : Content) → judge_of s ≡ Accepted c → lawful sheet_limits c ≡ true
unfolding judge_of
accepted_lawful s c e = go (ltb longest_sheet (length s)) e
  where
    go : (t : Bool) → cond t (Refused SheetTooLong 0) (run due.HeaderWord empty_book [] 0 (lines_of s)) ≡ Accepted c → lawful sheet_limits c ≡ true
    go true q = never SheetTooLong 0 c q
    go false q = run_lawful due.HeaderWord empty_book [] 0 (lines_of s) c (record { no_pairs = refl; no_parameters = refl; no_parts = refl }) q

-- the table written of it is accepted, and says it
pub accepted_table : (s : List ℕ) (c : Content) → judge_of s ≡ Accepted c → accepts (write newest c) ≡ true
accepted_table s c e = new_accepted c (accepted_lawful s c e)

pub accepted_view : (s : List ℕ) (c : Content) → judge_of s ≡ Accepted c → view (write newest c) ≡ c
accepted_view s c e = view_new c (accepted_lawful s c e)

-- two sheets with one table say one Content
pub accepted_one : (s t : List ℕ) (c d : Content) → judge_of s ≡ Accepted c → judge_of t ≡ Accepted d → write newest c ≡ write newest d → c ≡ d
accepted_one s t c d e f = one_content c d (accepted_lawful s c e) (accepted_lawful t d f)
