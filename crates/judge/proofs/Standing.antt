-- How many record pairs and `PARAMETER:` words there are where something is due, and that no parameter is open between
-- parameters. Assumes nothing.
use mathlib.Core.Path.{◌≡◌, refl, sym, ap, ◌∙◌}
use mathlib.Core.Bool.{Bool, true, false, cond}
use mathlib.Core.List.{List}
use Prim.Native.Nat.{ℕ, ◌+◌, ◌≤◌, ◌<◌}
use native.Mathlib.Omega.{arith}
use borrow.Author.Tests.{eqb-false}
use lib.Dec.{eqb}
use lib.ListN.{length}
use Rattle.std.specs.Prelude.{Ok}
use Rattle.text.specs.Fields.{field_count}
use Rattle.text.specs.Keywords.{keyword_of}
use Rattle.text.specs.declared.keyword.Keyword.{Keyword}
use Rattle.text.specs.declared.keyword.Keyword.TheVariants as keyword
use Rattle.lines.specs.Order.{line_judged}
use Rattle.lineforms.specs.Forms.{by_keyword, word_form, count_form, either_form, opening_form, after_sample_form, form_of, due_after}
use Rattle.lineforms.specs.declared.due.Due.{Due}
use Rattle.lineforms.specs.declared.due.Due.TheVariants as due
use Rattle.lineforms.specs.declared.due.Form.{Form}
use Rattle.lineforms.specs.declared.due.Form.TheVariants as form
use Rattle.model.specs.Content.{no_parameter}
use Rattle.gather.specs.Book.{Book, grow, subframe_of}
use Rattle.gather.specs.Tests.{tests_of}
use Rattle.gather.specs.Ruling.{form_at, opens}
use Rattle.gather.proofs.Sound.{Sound, Told}
use Rattle.gather.proofs.Headings.{passed}
use Rattle.judge.proofs.Growing.{length_snoc}
use Rattle.judge.proofs.FittingLaws.{never_passes}

-- no parameter is open, and the `PARAMETER:` words are those of the whole ones
pub record Level (K : Book) (os : List ℕ) : Type 0 where
  pub shut : K.opened ≡ no_parameter
  pub count : length os ≡ length K.parameters

-- and record pairs may follow
pub record Rising (K : Book) (os : List ℕ) : Type 0 where
  pub level : Level K os
  pub few : length K.pairs < K.declared

pub record Resting (K : Book) (os : List ℕ) : Type 0 where
  pub level : Level K os
  pub few : length K.pairs ≤ K.declared

-- a parameter's word is behind
pub record Within (K : Book) (os : List ℕ) : Type 0 where
  pub count : length os ≡ length K.parameters + 1
  pub few : length K.pairs ≤ K.declared

pub record Naming (K : Book) (os : List ℕ) : Type 0 where
  pub shut : K.opened ≡ no_parameter
  pub within : Within K os

abbrev pub Stands : Due → Book → List ℕ → Type 0
Stands due.HeaderWord K os = Level K os
Stands due.HeaderLine K os = Level K os
Stands due.RecordWord K os = Rising K os
Stands due.RecordLine K os = Rising K os
Stands due.Opening K os = Resting K os
Stands due.NameLine K os = Naming K os
Stands due.FirstComponent K os = Within K os
Stands due.NextComponent K os = Within K os
Stands due.AfterSample K os = Within K os
Stands due.SignedLine K os = Within K os
Stands due.RangeLine K os = Within K os
Stands due.SourceLine K os = Within K os
Stands due.AfterSource K os = Within K os
Stands due.SourceBlank K os = Within K os
Stands due.AfterSourceBlank K os = Within K os
Stands due.NextParameter K os = Resting K os
Stands due.Nothing K os = Resting K os

abbrev pub Held : Form → Book → List ℕ → Type 0
Held form.Stray K os = Unit {0}
Held form.Superframe K os = Unit {0}
Held form.HeaderWord K os = Level K os
Held form.HeaderLine K os = Level K os
Held form.RecordWord K os = Rising K os
Held form.RecordLine K os = Rising K os
Held form.NoneWord K os = Resting K os
Held form.ParameterWord K os = Resting K os
Held form.NameLine K os = Naming K os
Held form.OpeningComponent K os = Within K os
Held form.ComponentLine K os = Within K os
Held form.TimeLine K os = Within K os
Held form.SamplesEnd K os = Within K os
Held form.SignedLine K os = Within K os
Held form.RangeLine K os = Within K os
Held form.SourceLine K os = Within K os
Held form.LabelLine K os = Within K os
Held form.SourceEnd K os = Within K os
Held form.ParameterEnd K os = Within K os

-- ---- what a line turns out to be

module _ (P : Form → Type 0) (stray : P form.Stray) (l : List ℕ) where
  by_cond : (t : Bool) (f g : Form) → (t ≡ true → P f) → (t ≡ false → P g) → P (cond t f g)
  by_cond true f g p q = p refl
  by_cond false f g p q = q refl

  by_word : (h r n p : Form) → P h → P r → P n → P p → P (word_form l h r n p)
  unfolding word_form
  by_word h r n p a b c d = go (keyword_of l)
    where
      go : (w : Keyword) → P (by_keyword w h r n p)
      go keyword.Header = a
      go keyword.Record = b
      go keyword.Nothing = c
      go keyword.Parameter = d
      go keyword.Other = stray

  by_count : (n : ℕ) (f : Form) → P f → P (count_form l n f)
  unfolding count_form
  by_count n f a = by_cond (eqb (field_count l) n) f form.Stray (λ e. a) (λ e. stray)

  by_either : (n : ℕ) (f : Form) (m : ℕ) (g : Form) → P f → P g → P (either_form l n f m g)
  unfolding either_form
  by_either n f m g a b = by_cond (eqb (field_count l) n) f (count_form l m g) (λ e. a) (λ e. by_count m g b)

  by_opening : (n s : ℕ) → P form.NoneWord → P form.ParameterWord → ((n ≡ s → ⊥) → P form.RecordWord) → P (opening_form l n s)
  unfolding opening_form
  by_opening n s a b r =
      let A = word_form l form.Stray form.Stray form.NoneWord form.ParameterWord in
      let B = word_form l form.Stray form.RecordWord form.NoneWord form.ParameterWord in
      let C = word_form l form.Stray form.RecordWord form.Stray form.Stray in
      by_cond (eqb n s) A (cond (eqb n 1) B C)
      (λ e. by_word form.Stray form.Stray form.NoneWord form.ParameterWord stray stray a b)
      (λ e.
      let w = r (eqb-false n s e) in
      by_cond (eqb n 1) B C
      (λ d. by_word form.Stray form.RecordWord form.NoneWord form.ParameterWord stray w a b)
      (λ d. by_word form.Stray form.RecordWord form.Stray form.Stray stray w stray stray))

pub held : (d : Due) (K : Book) (os l : List ℕ) → Stands d K os → Held (form_at d K l) K os
unfolding form_of after_sample_form
held due.HeaderWord K os l h = by_word (λ f. Held f K os) tt l form.HeaderWord form.Stray form.Stray form.Stray h tt tt tt
held due.HeaderLine K os l h = by_count (λ f. Held f K os) tt l 14 form.HeaderLine h
held due.RecordWord K os l h = by_word (λ f. Held f K os) tt l form.Stray form.RecordWord form.Stray form.Stray tt h tt tt
held due.RecordLine K os l h = by_count (λ f. Held f K os) tt l 5 form.RecordLine h
held due.Opening K os l h =
    by_opening (λ f. Held f K os) tt l (length K.pairs) K.declared h h
    (λ e. record { level = h.level; few = less (length K.pairs) K.declared h.few e })
  where
    less : (n s : ℕ) → n ≤ s → (n ≡ s → ⊥) → n < s
    less n s a b = omega arith
held due.NameLine K os l h = by_count (λ f. Held f K os) tt l 7 form.NameLine h
held due.FirstComponent K os l h = by_count (λ f. Held f K os) tt l 4 form.OpeningComponent h
held due.NextComponent K os l h = by_either (λ f. Held f K os) tt l 4 form.ComponentLine 1 form.TimeLine h h
held due.AfterSample K os l h =
    by_cond (λ f. Held f K os) tt l (eqb (field_count l) 2) form.Superframe (either_form l 4 form.OpeningComponent 0 form.SamplesEnd) (λ e. tt)
    (λ e. by_either (λ f. Held f K os) tt l 4 form.OpeningComponent 0 form.SamplesEnd h h)
held due.SignedLine K os l h = by_count (λ f. Held f K os) tt l 5 form.SignedLine h
held due.RangeLine K os l h = by_count (λ f. Held f K os) tt l 4 form.RangeLine h
held due.SourceLine K os l h = by_count (λ f. Held f K os) tt l 3 form.SourceLine h
held due.AfterSource K os l h = by_either (λ f. Held f K os) tt l 4 form.LabelLine 0 form.SourceEnd h h
held due.SourceBlank K os l h = by_count (λ f. Held f K os) tt l 0 form.SourceEnd h
held due.AfterSourceBlank K os l h = by_either (λ f. Held f K os) tt l 3 form.SourceLine 0 form.ParameterEnd h h
held due.NextParameter K os l h = by_word (λ f. Held f K os) tt l form.Stray form.Stray form.Stray form.ParameterWord tt tt tt h
held due.Nothing K os l h = tt

-- ---- after it

pub stands_step : (f : Form) (K : Book) (os l : List ℕ) (k : ℕ) → Held f K os → Told f K → line_judged true l (tests_of f K l) ≡ Ok tt → Sound (due_after f) (grow f l K) → Stands (due_after f) (grow f l K) (opens f k os)
stands_step form.Stray K os l k h t e n = never_passes _ (passed form.Stray K l e 3)
stands_step form.Superframe K os l k h t e n = never_passes _ (passed form.Superframe K l e 3)
stands_step form.HeaderWord K os l k h t e n = h
stands_step form.HeaderLine K os l k h t e n = record { level = record { shut = h.shut; count = h.count }; few = omega (arith, n.some, ap length t.no_pairs) }
stands_step form.RecordWord K os l k h t e n = h
stands_step form.RecordLine K os l k h t e n = record { level = record { shut = h.level.shut; count = h.level.count }; few = omega (arith, h.few, length_snoc K.pairs (subframe_of l)) }
stands_step form.NoneWord K os l k h t e n = h
stands_step form.ParameterWord K os l k h t e n = record { shut = h.level.shut; within = record { count = omega (arith, h.level.count, length_snoc os k); few = h.few } }
stands_step form.NameLine K os l k h t e n = record { count = h.within.count; few = h.within.few }
stands_step form.OpeningComponent K os l k h t e n = record { count = h.count; few = h.few }
stands_step form.ComponentLine K os l k h t e n = record { count = h.count; few = h.few }
stands_step form.TimeLine K os l k h t e n = record { count = h.count; few = h.few }
stands_step form.SamplesEnd K os l k h t e n = h
stands_step form.SignedLine K os l k h t e n = record { count = h.count; few = h.few }
stands_step form.RangeLine K os l k h t e n = record { count = h.count; few = h.few }
stands_step form.SourceLine K os l k h t e n = h
stands_step form.LabelLine K os l k h t e n = h
stands_step form.SourceEnd K os l k h t e n = h
stands_step form.ParameterEnd K os l k h t e n = record { level = record { shut = refl; count = h.count ∙ sym (length_snoc K.parameters K.opened) }; few = h.few }
