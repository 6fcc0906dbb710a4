-- What is known of an accepted sheet, once it is read to its end. Assumes nothing.
use mathlib.Core.Path.{◌≡◌, refl, sym, subst, ◌∙◌}
use mathlib.Core.Bool.{Bool, true, false, cond}
use mathlib.Core.List.{List, []}
use Prim.Native.Nat.{ℕ, ◌+◌, ◌≤◌}
use borrow.Author.Tests.{ltb-false}
use lib.Dec.{ltb}
use lib.ListN.{length}
use Rattle.text.specs.declared.refusal.Refusal.TheVariants.{SheetTooLong}
use Rattle.lines.specs.Lines.{Lines, none, unended, line, lines_of}
use Rattle.lineforms.specs.Forms.{due_after}
use Rattle.lineforms.specs.declared.due.Due.{Due}
use Rattle.lineforms.specs.declared.due.Due.TheVariants as due
use Rattle.model.specs.Content.{Content, no_parameter}
use Rattle.gather.specs.Book.{Book, empty_book, grow, content_of}
use Rattle.gather.specs.Ruling.{Accepted, Refused, longest_sheet, form_at, opens, run, judge_of}
use Rattle.gather.proofs.Sound.{Between, Sound}
use Rattle.gather.proofs.Steps.{sound_step}
use Rattle.gather.proofs.Stages.{unended_run}
use Rattle.gather.proofs.Tellings.{told}
use Rattle.judge.specs.Counts.{most_count, Small, tally_of}
use Rattle.judge.specs.Walk.{end_book, book_of}
use Rattle.judge.proofs.Bounds.{few, small}
use Rattle.judge.proofs.Runs.{accepted_book}
use Rattle.judge.proofs.Standing.{Stands, held, stands_step}
use Rattle.maker.proofs.Ended.{end_between}
use Rattle.maker.proofs.Walks.{accepted_on, end_on, end_clear}

-- no count is too high for a number of the code
end_small : (d : Due) (K : Book) (os : List ℕ) (k : ℕ) (ls : Lines) (c : Content) → Sound d K → Stands d K os → run d K os k ls ≡ Accepted c → Small (tally_of (end_book d K ls)) most_count
unfolding end_book run
end_small d K os k none c h v e = small K os (few d K os h v)
end_small d K os k (unended l) c h v e = let q = sym (unended_run d K os k l) ∙ e in absurd (cc)
end_small d K os k (line l ls) c h v e =
    let o = accepted_on d K os k l ls c e in
    let n = sound_step d K l h o.passes in
    subst (λ (B : Book). Small (tally_of B) most_count) (sym (end_on d K l ls o.passes))
    (end_small (due_after (form_at d K l)) (grow (form_at d K l) l K) (opens (form_at d K l) (k + 1) os) (k + 1) ls c n
    (stands_step (form_at d K l) K os l (k + 1) (held d K os l v) (told K l d h) o.passes n) o.says)

-- a sheet read to its end: nothing is open, and each subframe has its pair
pub record Ended (s : List ℕ) (c : Content) : Type 0 where
  pub short : length s ≤ 65536
  pub same : c ≡ content_of (book_of s)
  pub clear : (book_of s).opened ≡ no_parameter
  pub between : Between (book_of s)
  pub small : Small (tally_of (book_of s)) most_count

pub accepted_ended : (s : List ℕ) (c : Content) → judge_of s ≡ Accepted c → Ended s c
unfolding judge_of book_of
accepted_ended s c e = go (ltb longest_sheet (length s)) refl e
  where
    fresh : Sound due.HeaderWord empty_book
    fresh = record { no_pairs = refl; no_parameters = refl; no_parts = refl }

    go : (t : Bool) → ltb longest_sheet (length s) ≡ t → cond t (Refused SheetTooLong 0) (run due.HeaderWord empty_book [] 0 (lines_of s)) ≡ Accepted c → Ended s c
    go true p q = absurd (cc)
    go false p q =
        record {
          short = ltb-false longest_sheet (length s) p;
          same = accepted_book s c e;
          clear = end_clear due.HeaderWord empty_book [] 0 (lines_of s) c refl q;
          between = end_between due.HeaderWord empty_book [] 0 (lines_of s) c fresh q;
          small = end_small due.HeaderWord empty_book [] 0 (lines_of s) c fresh (record { shut = refl; count = refl }) q;
        }
