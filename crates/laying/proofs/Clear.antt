-- Where no parameter is open, nothing of one is kept. Assumes nothing.
use mathlib.Core.Path.{◌≡◌, refl}
use mathlib.Core.Bool.{Bool, true, false, cond}
use mathlib.Core.List.{List}
use Prim.Native.Nat.{ℕ}
use lib.Dec.{eqb}
use lib.ListN.{length}
use Rattle.text.specs.Fields.{field_count}
use Rattle.text.specs.Keywords.{keyword_of}
use Rattle.text.specs.declared.keyword.Keyword.{Keyword}
use Rattle.text.specs.declared.keyword.Keyword.TheVariants as keyword
use Rattle.lineforms.specs.Forms.{by_keyword, word_form, count_form, either_form, opening_form, after_sample_form, form_of, due_after}
use Rattle.lineforms.specs.declared.due.Due.{Due}
use Rattle.lineforms.specs.declared.due.Due.TheVariants as due
use Rattle.lineforms.specs.declared.due.Form.{Form}
use Rattle.lineforms.specs.declared.due.Form.TheVariants as form
use Rattle.model.specs.Content.{no_parameter}
use Rattle.gather.specs.Book.{Book, grow}
use Rattle.gather.specs.Ruling.{form_at}

abbrev pub Clear : Due → Book → Type 0
Clear due.HeaderWord K = K.opened ≡ no_parameter
Clear due.HeaderLine K = K.opened ≡ no_parameter
Clear due.RecordWord K = K.opened ≡ no_parameter
Clear due.RecordLine K = K.opened ≡ no_parameter
Clear due.Opening K = K.opened ≡ no_parameter
Clear due.NameLine K = K.opened ≡ no_parameter
Clear due.FirstComponent K = Unit {0}
Clear due.NextComponent K = Unit {0}
Clear due.AfterSample K = Unit {0}
Clear due.SignedLine K = Unit {0}
Clear due.RangeLine K = Unit {0}
Clear due.SourceLine K = Unit {0}
Clear due.AfterSource K = Unit {0}
Clear due.SourceBlank K = Unit {0}
Clear due.AfterSourceBlank K = Unit {0}
Clear due.NextParameter K = K.opened ≡ no_parameter
Clear due.Nothing K = K.opened ≡ no_parameter

-- the same where a line has turned out to be something
abbrev pub ClearAt : Form → Book → Type 0
ClearAt form.Stray K = Unit {0}
ClearAt form.Superframe K = Unit {0}
ClearAt form.HeaderWord K = K.opened ≡ no_parameter
ClearAt form.HeaderLine K = K.opened ≡ no_parameter
ClearAt form.RecordWord K = K.opened ≡ no_parameter
ClearAt form.RecordLine K = K.opened ≡ no_parameter
ClearAt form.NoneWord K = K.opened ≡ no_parameter
ClearAt form.ParameterWord K = K.opened ≡ no_parameter
ClearAt form.NameLine K = K.opened ≡ no_parameter
ClearAt form.OpeningComponent K = Unit {0}
ClearAt form.ComponentLine K = Unit {0}
ClearAt form.TimeLine K = Unit {0}
ClearAt form.SamplesEnd K = Unit {0}
ClearAt form.SignedLine K = Unit {0}
ClearAt form.RangeLine K = Unit {0}
ClearAt form.SourceLine K = Unit {0}
ClearAt form.LabelLine K = Unit {0}
ClearAt form.SourceEnd K = Unit {0}
ClearAt form.ParameterEnd K = Unit {0}

module _ (K : Book) (l : List ℕ) where
  at_cond : (t : Bool) (f g : Form) → ClearAt f K → ClearAt g K → ClearAt (cond t f g) K
  at_cond true f g p q = p
  at_cond false f g p q = q

  at_word : (h r n p : Form) → ClearAt h K → ClearAt r K → ClearAt n K → ClearAt p K → ClearAt (word_form l h r n p) K
  unfolding word_form
  at_word h r n p a b c d = go (keyword_of l)
    where
      go : (w : Keyword) → ClearAt (by_keyword w h r n p) K
      go keyword.Header = a
      go keyword.Record = b
      go keyword.Nothing = c
      go keyword.Parameter = d
      go keyword.Other = tt

  at_count : (n : ℕ) (f : Form) → ClearAt f K → ClearAt (count_form l n f) K
  unfolding count_form
  at_count n f a = at_cond (eqb (field_count l) n) f form.Stray a tt

  at_either : (n : ℕ) (f : Form) (m : ℕ) (g : Form) → ClearAt f K → ClearAt g K → ClearAt (either_form l n f m g) K
  unfolding either_form
  at_either n f m g a b = at_cond (eqb (field_count l) n) f (count_form l m g) a (at_count m g b)

  at_opening : K.opened ≡ no_parameter → ClearAt (opening_form l (length K.pairs) K.declared) K
  unfolding opening_form
  at_opening h =
      let n = length K.pairs in
      let s = K.declared in
      at_cond (eqb n s)
      (word_form l form.Stray form.Stray form.NoneWord form.ParameterWord)
      (cond (eqb n 1) (word_form l form.Stray form.RecordWord form.NoneWord form.ParameterWord) (word_form l form.Stray form.RecordWord form.Stray form.Stray))
      (at_word form.Stray form.Stray form.NoneWord form.ParameterWord tt tt h h)
      (at_cond (eqb n 1)
      (word_form l form.Stray form.RecordWord form.NoneWord form.ParameterWord)
      (word_form l form.Stray form.RecordWord form.Stray form.Stray)
      (at_word form.Stray form.RecordWord form.NoneWord form.ParameterWord tt h h h)
      (at_word form.Stray form.RecordWord form.Stray form.Stray tt h tt tt))

  pub clear_at : (d : Due) → Clear d K → ClearAt (form_at d K l) K
  unfolding form_of after_sample_form
  clear_at due.HeaderWord h = at_word form.HeaderWord form.Stray form.Stray form.Stray h tt tt tt
  clear_at due.HeaderLine h = at_count 14 form.HeaderLine h
  clear_at due.RecordWord h = at_word form.Stray form.RecordWord form.Stray form.Stray tt h tt tt
  clear_at due.RecordLine h = at_count 5 form.RecordLine h
  clear_at due.Opening h = at_opening h
  clear_at due.NameLine h = at_count 7 form.NameLine h
  clear_at due.FirstComponent h = at_count 4 form.OpeningComponent tt
  clear_at due.NextComponent h = at_either 4 form.ComponentLine 1 form.TimeLine tt tt
  clear_at due.AfterSample h =
      at_cond (eqb (field_count l) 2) form.Superframe (either_form l 4 form.OpeningComponent 0 form.SamplesEnd) tt
      (at_either 4 form.OpeningComponent 0 form.SamplesEnd tt tt)
  clear_at due.SignedLine h = at_count 5 form.SignedLine tt
  clear_at due.RangeLine h = at_count 4 form.RangeLine tt
  clear_at due.SourceLine h = at_count 3 form.SourceLine tt
  clear_at due.AfterSource h = at_either 4 form.LabelLine 0 form.SourceEnd tt tt
  clear_at due.SourceBlank h = at_count 0 form.SourceEnd tt
  clear_at due.AfterSourceBlank h = at_either 3 form.SourceLine 0 form.ParameterEnd tt tt
  clear_at due.NextParameter h = at_word form.Stray form.Stray form.Stray form.ParameterWord tt tt tt h
  clear_at due.Nothing h = tt

-- a line that is not stray keeps it
abbrev pub Kept : Form → Type 0
Kept form.Stray = ⊥
Kept form.Superframe = ⊥
Kept form.HeaderWord = Unit {0}
Kept form.HeaderLine = Unit {0}
Kept form.RecordWord = Unit {0}
Kept form.RecordLine = Unit {0}
Kept form.NoneWord = Unit {0}
Kept form.ParameterWord = Unit {0}
Kept form.NameLine = Unit {0}
Kept form.OpeningComponent = Unit {0}
Kept form.ComponentLine = Unit {0}
Kept form.TimeLine = Unit {0}
Kept form.SamplesEnd = Unit {0}
Kept form.SignedLine = Unit {0}
Kept form.RangeLine = Unit {0}
Kept form.SourceLine = Unit {0}
Kept form.LabelLine = Unit {0}
Kept form.SourceEnd = Unit {0}
Kept form.ParameterEnd = Unit {0}

pub clear_step : (f : Form) (l : List ℕ) (K : Book) → Kept f → ClearAt f K → Clear (due_after f) (grow f l K)
clear_step form.Stray l K k h = absurd k
clear_step form.Superframe l K k h = absurd k
clear_step form.HeaderWord l K k h = h
clear_step form.HeaderLine l K k h = h
clear_step form.RecordWord l K k h = h
clear_step form.RecordLine l K k h = h
clear_step form.NoneWord l K k h = h
clear_step form.ParameterWord l K k h = h
clear_step form.NameLine l K k h = tt
clear_step form.OpeningComponent l K k h = tt
clear_step form.ComponentLine l K k h = tt
clear_step form.TimeLine l K k h = tt
clear_step form.SamplesEnd l K k h = tt
clear_step form.SignedLine l K k h = tt
clear_step form.RangeLine l K k h = tt
clear_step form.SourceLine l K k h = tt
clear_step form.LabelLine l K k h = tt
clear_step form.SourceEnd l K k h = tt
clear_step form.ParameterEnd l K k h = refl
