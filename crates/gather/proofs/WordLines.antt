-- A line that passes where it stands is a parameter's opening exactly where it is the word `PARAMETER:`. Assumes nothing.
use Prim.Native.Nat.{ℕ, suc}
use native.Mathlib.Omega.{arith}
use mathlib.Core.Path.{◌≡◌, refl, sym, ap, ◌∙◌}
use mathlib.Core.Bool.{Bool, true, false, cond}
use mathlib.Core.List.{List, [], ◌∷◌}
use mathlib.Core.Logic.{⊎_elim}
use borrow.Author.Tests.{eqb-true}
use lib.Dec.{eqb}
use lib.ListN.{length}
use lib.Seq.{take_all}
use Rattle.std.specs.Prelude.{Err}
use Rattle.lay.specs.Bytes.{same}
use Rattle.lay.proofs.Bytes.{same_eq}
use Rattle.lay.proofs.Tests.{or_either}
use Rattle.text.specs.Refusals.{first}
use Rattle.text.specs.declared.refusal.Refusal.TheVariants.{Misspelt}
use Rattle.text.specs.Blanks.{is_blank, trim_start, before, trim_end, trim}
use Rattle.text.specs.Parts.{index_of, count_of, holds, up_to, past}
use Rattle.text.specs.Fields.{comma, blank_line, field_count, piece_of, field_of}
use Rattle.text.specs.Keywords.{header_word, record_word, none_word, parameter_word, keyword_of}
use Rattle.text.specs.declared.keyword.Keyword.{Keyword}
use Rattle.text.specs.declared.keyword.Keyword.TheVariants as keyword
use Rattle.spell.specs.Digits.{all_digits, digits_up_to, is_marked}
use Rattle.spell.specs.Decimals.{decimal_judged}
use Rattle.lineforms.specs.Forms.{by_keyword, word_form, count_form, either_form, opening_form, after_sample_form, form_of}
use Rattle.lineforms.specs.declared.due.Due.{Due}
use Rattle.lineforms.specs.declared.due.Due.TheVariants as due
use Rattle.lineforms.specs.declared.due.Form.{Form}
use Rattle.lineforms.specs.declared.due.Form.TheVariants.{Stray, Superframe, RecordWord, NoneWord, ParameterWord, TimeLine}
use Rattle.gather.specs.Ruling.{opens}
use Rattle.gather.proofs.Stages.{Stage, form_in, tests_in, AllPass}

-- ---- the word has one field, which is the word

blank_no_comma : (b : ℕ) → is_blank b ≡ true → eqb b comma ≡ false
blank_no_comma b h =
    ⊎_elim
    (λ e. let k = eqb-true b 32 e in rw k)
    (λ e. let k = eqb-true b 9 e in rw k)
    (or_either (eqb b 32) (eqb b 9) h)

count_start : (l : List ℕ) → count_of comma (trim_start l) ≡ count_of comma l
unfolding trim_start count_of
count_start [] = refl
count_start (b ∷ l) = go (is_blank b) refl (count_start l)
  where
    go : (t : Bool) → is_blank b ≡ t → count_of comma (trim_start l) ≡ count_of comma l
        → count_of comma (cond t (trim_start l) (b ∷ l)) ≡ count_of comma (b ∷ l)
    go true h e = rw (blank_no_comma b h) e
    go false h e = refl

count_before : (b : ℕ) (l : List ℕ) → count_of comma (before b l) ≡ count_of comma (b ∷ l)
unfolding count_of
count_before b [] = go (is_blank b) refl
  where
    go : (t : Bool) → is_blank b ≡ t → count_of comma (cond t [] (b ∷ [])) ≡ count_of comma (b ∷ [])
    go true h = rw (blank_no_comma b h)
    go false h = refl
count_before b (x ∷ l) = refl

count_end : (l : List ℕ) → count_of comma (trim_end l) ≡ count_of comma l
unfolding trim_end count_of
count_end [] = refl
count_end (b ∷ l) = count_before b (trim_end l) ∙ ap (λ (n : ℕ). cond (eqb b comma) (suc n) n) (count_end l)

count_trim : (l : List ℕ) → count_of comma (trim l) ≡ count_of comma l
unfolding trim
count_trim l = count_end (trim_start l) ∙ count_start l

index_none : (b : ℕ) (l : List ℕ) → count_of b l ≡ 0 → index_of b l ≡ length l
unfolding count_of index_of
index_none b [] e = refl
index_none b (x ∷ l) e = go (eqb x b) e (index_none b l)
  where
    go : (t : Bool) → cond t (suc (count_of b l)) (count_of b l) ≡ 0 → (count_of b l ≡ 0 → index_of b l ≡ length l)
        → cond t 0 (suc (index_of b l)) ≡ suc (length l)
    go true h f = absurd (omega arith)
    go false h f = ap suc (f h)

up_to_none : (b : ℕ) (l : List ℕ) → count_of b l ≡ 0 → up_to b l ≡ l
unfolding up_to
up_to_none b l e = rw (index_none b l e) (take_all (length l) l (omega arith))

pub keyword_trim : (l : List ℕ) → keyword_of l ≡ keyword.Parameter → trim l ≡ parameter_word
unfolding keyword_of
keyword_trim l e = go (same (trim l) header_word) (same (trim l) record_word) (same (trim l) none_word) (same (trim l) parameter_word) refl e
  where
    go : (a b c d : Bool) → same (trim l) parameter_word ≡ d
        → cond a keyword.Header (cond b keyword.Record (cond c keyword.Nothing (cond d keyword.Parameter keyword.Other))) ≡ keyword.Parameter
        → trim l ≡ parameter_word
    go true b c d p h = absurd (cc)
    go false true c d p h = absurd (cc)
    go false false true d p h = absurd (cc)
    go false false false true p h = same_eq (trim l) parameter_word p
    go false false false false p h = absurd (cc)

module _ (l : List ℕ) (e : keyword_of l ≡ keyword.Parameter) where
  no_commas : count_of comma l ≡ 0
  unfolding count_of
  no_commas = sym (count_trim l) ∙ ap (count_of comma) (keyword_trim l e)

  one_field : field_count l ≡ 1
  unfolding field_count blank_line
  one_field = rw (keyword_trim l e, no_commas)

  whole_field : field_of 0 l ≡ parameter_word
  unfolding field_of piece_of
  whole_field = rw (up_to_none comma l no_commas) (keyword_trim l e)

  no_time : decimal_judged 3 (field_of 0 l) ≡ Err Misspelt
  unfolding decimal_judged is_marked digits_up_to all_digits up_to index_of holds past first
  no_time = rw whole_field

-- ---- what the word is where something is due

-- the opening of a parameter; not due; or, where a time is due, a time
data Worded : Form → Type 0 where
  opening : Worded ParameterWord
  stray : Worded Stray
  time : Worded TimeLine

module _ (l : List ℕ) (e : keyword_of l ≡ keyword.Parameter) (k s : ℕ) where
  worded : (d : Due) → Worded (form_of d k s l)
  unfolding form_of word_form count_form either_form opening_form after_sample_form
  worded due.HeaderWord = rw e stray
  worded due.HeaderLine = rw (one_field l e) stray
  worded due.RecordWord = rw e stray
  worded due.RecordLine = rw (one_field l e) stray
  worded due.Opening = rw e (go (eqb k s) (eqb k 1))
    where
      go : (a b : Bool) → Worded (cond a ParameterWord (cond b ParameterWord Stray))
      go true b = opening
      go false true = opening
      go false false = stray
  worded due.NameLine = rw (one_field l e) stray
  worded due.FirstComponent = rw (one_field l e) stray
  worded due.NextComponent = rw (one_field l e) time
  worded due.AfterSample = rw (one_field l e) stray
  worded due.SignedLine = rw (one_field l e) stray
  worded due.RangeLine = rw (one_field l e) stray
  worded due.SourceLine = rw (one_field l e) stray
  worded due.AfterSource = rw (one_field l e) stray
  worded due.SourceBlank = rw (one_field l e) stray
  worded due.AfterSourceBlank = rw (one_field l e) stray
  worded due.NextParameter = rw e opening
  worded due.Nothing = stray

pub word_opens : (g : Stage) (l : List ℕ) → keyword_of l ≡ keyword.Parameter → AllPass (tests_in g l) → form_in g l ≡ ParameterWord
word_opens g l e h = go (worded l e (length g.book.pairs) g.book.declared g.due) refl
  where
    go : {f : Form} → Worded f → form_in g l ≡ f → f ≡ ParameterWord
    go opening p = refl
    go stray p = let z = rw p at (h 3) in absurd (cc)
    go time p = let z = sym (no_time l e) ∙ (rw p at (h 5)) in absurd (cc)

-- ---- what other lines are

-- no parameter is opened
abbrev Plain : Form → Type 0
Plain f = (k : ℕ) (os : List ℕ) → opens f k os ≡ os

abbrev pub is_parameter : Keyword → Bool
is_parameter keyword.Header = false
is_parameter keyword.Record = false
is_parameter keyword.Nothing = false
is_parameter keyword.Parameter = true
is_parameter keyword.Other = false

plain_if : (t : Bool) (f g : Form) → Plain f → Plain g → Plain (cond t f g)
plain_if true f g p q = p
plain_if false f g p q = q

plain_word : (w : Keyword) → is_parameter w ≡ false → (h r n p : Form) → Plain h → Plain r → Plain n → Plain (by_keyword w h r n p)
plain_word keyword.Header e h r n p a b c = a
plain_word keyword.Record e h r n p a b c = b
plain_word keyword.Nothing e h r n p a b c = c
plain_word keyword.Parameter e h r n p a b c = absurd (cc)
plain_word keyword.Other e h r n p a b c = λ k os. refl

module _ (l : List ℕ) (e : is_parameter (keyword_of l) ≡ false) (k s : ℕ) where
  plain_count : (n : ℕ) (f : Form) → Plain f → Plain (count_form l n f)
  unfolding count_form
  plain_count n f p = plain_if (eqb (field_count l) n) f Stray p (λ k os. refl)

  plain_either : (n : ℕ) (f : Form) (m : ℕ) (g : Form) → Plain f → Plain g → Plain (either_form l n f m g)
  unfolding either_form
  plain_either n f m g p q = plain_if (eqb (field_count l) n) f (count_form l m g) p (plain_count m g q)

  plain_words : (h r n p : Form) → Plain h → Plain r → Plain n → Plain (word_form l h r n p)
  unfolding word_form
  plain_words h r n p = plain_word (keyword_of l) e h r n p

  pub plain_form : (d : Due) → Plain (form_of d k s l)
  unfolding form_of opening_form after_sample_form
  plain_form due.HeaderWord = plain_words _ _ _ _ (λ k os. refl) (λ k os. refl) (λ k os. refl)
  plain_form due.HeaderLine = plain_count _ _ (λ k os. refl)
  plain_form due.RecordWord = plain_words _ _ _ _ (λ k os. refl) (λ k os. refl) (λ k os. refl)
  plain_form due.RecordLine = plain_count _ _ (λ k os. refl)
  plain_form due.Opening = plain_if (eqb k s) _ _ (plain_words Stray Stray NoneWord ParameterWord (λ k os. refl) (λ k os. refl) (λ k os. refl)) (plain_if (eqb k 1) _ _ (plain_words Stray RecordWord NoneWord ParameterWord (λ k os. refl) (λ k os. refl) (λ k os. refl)) (plain_words Stray RecordWord Stray Stray (λ k os. refl) (λ k os. refl) (λ k os. refl)))
  plain_form due.NameLine = plain_count _ _ (λ k os. refl)
  plain_form due.FirstComponent = plain_count _ _ (λ k os. refl)
  plain_form due.NextComponent = plain_either _ _ _ _ (λ k os. refl) (λ k os. refl)
  plain_form due.AfterSample = plain_if (eqb (field_count l) 2) Superframe _ (λ k os. refl) (plain_either _ _ _ _ (λ k os. refl) (λ k os. refl))
  plain_form due.SignedLine = plain_count _ _ (λ k os. refl)
  plain_form due.RangeLine = plain_count _ _ (λ k os. refl)
  plain_form due.SourceLine = plain_count _ _ (λ k os. refl)
  plain_form due.AfterSource = plain_either _ _ _ _ (λ k os. refl) (λ k os. refl)
  plain_form due.SourceBlank = plain_count _ _ (λ k os. refl)
  plain_form due.AfterSourceBlank = plain_either _ _ _ _ (λ k os. refl) (λ k os. refl)
  plain_form due.NextParameter = plain_words _ _ _ _ (λ k os. refl) (λ k os. refl) (λ k os. refl)
  plain_form due.Nothing = λ k os. refl
