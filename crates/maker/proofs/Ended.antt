-- What is known where an accepted sheet ends. Assumes nothing.
use mathlib.Core.Path.{◌≡◌, sym, subst, ◌∙◌}
use mathlib.Core.List.{List}
use mathlib.Core.Logic.{⊎_elim}
use Prim.Native.Nat.{ℕ, ◌+◌}
use Rattle.lines.specs.Lines.{Lines, none, unended, line}
use Rattle.lineforms.specs.Forms.{due_after}
use Rattle.lineforms.specs.declared.due.Due.{Due}
use Rattle.model.specs.Content.{Content}
use Rattle.gather.specs.Book.{Book, grow}
use Rattle.gather.specs.Ruling.{Accepted, form_at, opens, run}
use Rattle.gather.proofs.Sound.{Between, Sound}
use Rattle.gather.proofs.Steps.{sound_step}
use Rattle.gather.proofs.Stages.{unended_run}
use Rattle.judge.specs.Walk.{end_book}
use Rattle.maker.proofs.Walks.{accepted_on, end_on, end_due}

pub end_between : (d : Due) (K : Book) (os : List ℕ) (k : ℕ) (ls : Lines) (c : Content) → Sound d K → run d K os k ls ≡ Accepted c → Between (end_book d K ls)
unfolding end_book run
end_between d K os k none c h e = ⊎_elim (λ p. p) (λ p. p) (end_due (λ x. Sound x K) d K os (k + 1) c h e)
end_between d K os k (unended l) c h e = let q = sym (unended_run d K os k l) ∙ e in absurd (cc)
end_between d K os k (line l ls) c h e =
    let o = accepted_on d K os k l ls c e in
    subst (λ (B : Book). Between B) (sym (end_on d K l ls o.passes))
    (end_between (due_after (form_at d K l)) (grow (form_at d K l) l K) (opens (form_at d K l) (k + 1) os) (k + 1) ls c (sound_step d K l h o.passes) o.says)
