-- What was known where something was due is known of what the line turns out to be. Assumes nothing.
use mathlib.Core.Path.{◌≡◌, refl, ap}
use mathlib.Core.Bool.{Bool, true, false, cond}
use mathlib.Core.Logic.{◌⊎◌, inl, inr}
use mathlib.Core.List.{List}
use Prim.Native.Nat.{ℕ}
use native.Mathlib.Omega.{arith}
use borrow.Author.Tests.{eqb-true}
use lib.Dec.{eqb}
use lib.ListN.{length}
use Rattle.text.specs.Fields.{field_count}
use Rattle.text.specs.Keywords.{keyword_of}
use Rattle.text.specs.declared.keyword.Keyword.{Keyword}
use Rattle.text.specs.declared.keyword.Keyword.TheVariants as keyword
use Rattle.lineforms.specs.Forms.{by_keyword, word_form, count_form, either_form, opening_form, after_sample_form, form_of}
use Rattle.lineforms.specs.declared.due.Due.{Due}
use Rattle.lineforms.specs.declared.due.Due.TheVariants as due
use Rattle.lineforms.specs.declared.due.Form.{Form}
use Rattle.lineforms.specs.declared.due.Form.TheVariants as form
use Rattle.model.specs.Content.{no_parameter}
use Rattle.model.specs.Forms.{sheet_limits}
use Rattle.model.specs.Meaning.{SubframeLaw, ParameterLaw}
use Rattle.gather.specs.Book.{Book, samples_of, all_components_of}
use Rattle.gather.specs.Ruling.{form_at}
use Rattle.gather.proofs.Rows.{each_none}
use Rattle.gather.proofs.Spreads.{spread_long, spread_each}
use Rattle.gather.proofs.Sound.{subs_of, Headed, Between, Sound, Told}

-- one pair for all subframes, or one each: then parameters may come
headed_between : (K : Book) → Headed K → (length K.pairs ≡ 1) ⊎ (length K.pairs ≡ K.declared) → Between K
unfolding samples_of all_components_of
headed_between K h n =
    let e = ap length h.no_parameters in
    record {
      ground =
          record {
            some = h.some;
            few = h.few;
            long = spread_long K.declared K.pairs n;
            each = spread_each K.declared K.pairs (SubframeLaw sheet_limits) h.each;
          };
      whole =
          record {
            few = omega arith;
            each = each_none (ParameterLaw sheet_limits (subs_of K)) no_parameter K.parameters h.no_parameters;
            apart = λ i k l m. absurd (omega arith);
          };
      no_parts = h.no_parts;
      few_samples = rw h.no_parameters (omega arith);
      few_components = rw h.no_parameters (omega arith);
    }

module _ (K : Book) (l : List ℕ) where
  told_cond : (t : Bool) (f g : Form) → (t ≡ true → Told f K) → (t ≡ false → Told g K) → Told (cond t f g) K
  told_cond true f g p q = p refl
  told_cond false f g p q = q refl

  told_word : (h r n p : Form) → Told h K → Told r K → Told n K → Told p K → Told (word_form l h r n p) K
  unfolding word_form
  told_word h r n p a b c d = go (keyword_of l)
    where
      go : (w : Keyword) → Told (by_keyword w h r n p) K
      go keyword.Header = a
      go keyword.Record = b
      go keyword.Nothing = c
      go keyword.Parameter = d
      go keyword.Other = tt

  told_count : (n : ℕ) (f : Form) → Told f K → Told (count_form l n f) K
  unfolding count_form
  told_count n f a = told_cond (eqb (field_count l) n) f form.Stray (λ e. a) (λ e. tt)

  told_either : (n : ℕ) (f : Form) (m : ℕ) (g : Form) → Told f K → Told g K → Told (either_form l n f m g) K
  unfolding either_form
  told_either n f m g a b = told_cond (eqb (field_count l) n) f (count_form l m g) (λ e. a) (λ e. told_count m g b)

  told_opening : Headed K → Told (opening_form l (length K.pairs) K.declared) K
  unfolding opening_form
  told_opening h =
      let n = length K.pairs in
      let s = K.declared in
      let A = word_form l form.Stray form.Stray form.NoneWord form.ParameterWord in
      let B = word_form l form.Stray form.RecordWord form.NoneWord form.ParameterWord in
      let C = word_form l form.Stray form.RecordWord form.Stray form.Stray in
      told_cond (eqb n s) A (cond (eqb n 1) B C)
      (λ e.
      let k = headed_between K h (inr (eqb-true n s e)) in
      told_word form.Stray form.Stray form.NoneWord form.ParameterWord tt tt k k)
      (λ e.
      told_cond (eqb n 1) B C
      (λ e.
      let k = headed_between K h (inl (eqb-true n 1 e)) in
      told_word form.Stray form.RecordWord form.NoneWord form.ParameterWord tt h k k)
      (λ e. told_word form.Stray form.RecordWord form.Stray form.Stray tt h tt tt))

  pub told : (d : Due) → Sound d K → Told (form_at d K l) K
  unfolding form_of after_sample_form
  told due.HeaderWord h = told_word form.HeaderWord form.Stray form.Stray form.Stray h tt tt tt
  told due.HeaderLine h = told_count 14 form.HeaderLine h
  told due.RecordWord h = told_word form.Stray form.RecordWord form.Stray form.Stray tt h tt tt
  told due.RecordLine h = told_count 5 form.RecordLine h
  told due.Opening h = told_opening h
  told due.NameLine h = told_count 7 form.NameLine h
  told due.FirstComponent h = told_count 4 form.OpeningComponent h
  told due.NextComponent h = told_either 4 form.ComponentLine 1 form.TimeLine h h
  told due.AfterSample h =
      told_cond (eqb (field_count l) 2) form.Superframe (either_form l 4 form.OpeningComponent 0 form.SamplesEnd) (λ e. tt)
      (λ e. told_either 4 form.OpeningComponent 0 form.SamplesEnd h.closed h)
  told due.SignedLine h = told_count 5 form.SignedLine h
  told due.RangeLine h = told_count 4 form.RangeLine h
  told due.SourceLine h = told_count 3 form.SourceLine h
  told due.AfterSource h = told_either 4 form.LabelLine 0 form.SourceEnd h h
  told due.SourceBlank h = told_count 0 form.SourceEnd h
  told due.AfterSourceBlank h = told_either 3 form.SourceLine 0 form.ParameterEnd h h
  told due.NextParameter h = told_word form.Stray form.Stray form.Stray form.ParameterWord tt tt tt h
  told due.Nothing h = tt
