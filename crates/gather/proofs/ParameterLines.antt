-- 16 is given at a parameter's own `PARAMETER:` line: of a sheet whose lines all pass there are as many such lines as
-- parameters, in their order. Assumes nothing.
use Prim.Native.Nat.{ℕ, zero, suc, ◌+◌, ◌<◌}
use native.Mathlib.Omega.{arith}
use mathlib.Core.Path.{◌≡◌, refl, sym, ◌∙◌}
use mathlib.Core.Bool.{Bool, true, false, cond}
use mathlib.Core.List.{List, [], ◌∷◌, ◌++◌, append_assoc, append-nil}
use lib.Dec.{eqb}
use lib.ListN.{length, get_or, length-append}
use Rattle.std.specs.Prelude.{Ok}
use Rattle.text.specs.Blanks.{trim}
use Rattle.text.specs.Fields.{field_count}
use Rattle.text.specs.Keywords.{parameter_word, keyword_of}
use Rattle.text.specs.declared.keyword.Keyword.{Keyword}
use Rattle.text.specs.declared.keyword.Keyword.TheVariants as keyword
use Rattle.lines.specs.Lines.{Lines, none, unended, line}
use Rattle.lineforms.specs.Forms.{by_keyword, word_form, count_form, either_form, opening_form, after_sample_form, form_of, due_after}
use Rattle.lineforms.specs.declared.due.Due.{Due}
use Rattle.lineforms.specs.declared.due.Due.TheVariants as due
use Rattle.lineforms.specs.declared.due.Form.{Form}
use Rattle.lineforms.specs.declared.due.Form.TheVariants.{Stray, Superframe, HeaderWord, HeaderLine, RecordWord, RecordLine, NoneWord, ParameterWord, NameLine, OpeningComponent, ComponentLine, TimeLine, SamplesEnd, SignedLine, RangeLine, SourceLine, LabelLine, SourceEnd, ParameterEnd}
use Rattle.gather.specs.Book.{Book, grow}
use Rattle.gather.specs.Tests.{due_test}
use Rattle.gather.specs.Ruling.{opens}
use Rattle.gather.proofs.Stages.{lines, line_of, Stage, form_in, tests_in, next, reached, tests_at, AllPass, opened}
use Rattle.gather.proofs.WordLines.{is_parameter, keyword_trim, word_opens, plain_form}

-- the numbers of the lines that are the word `PARAMETER:`, after n lines
abbrev pub parameter_lines : ℕ → Lines → List ℕ
parameter_lines n none = []
parameter_lines n (unended l) = []
parameter_lines n (line l ls) =
    cond (is_parameter (keyword_of l)) ((n + 1) ∷ parameter_lines (n + 1) ls) (parameter_lines (n + 1) ls)

-- ---- they are those that the judge keeps

is_parameter_lem : (w : Keyword) → is_parameter w ≡ true → w ≡ keyword.Parameter
is_parameter_lem keyword.Header e = absurd (cc)
is_parameter_lem keyword.Record e = absurd (cc)
is_parameter_lem keyword.Nothing e = absurd (cc)
is_parameter_lem keyword.Parameter e = refl
is_parameter_lem keyword.Other e = absurd (cc)

kept_here : (g : Stage) (l : List ℕ) → AllPass (tests_in g l) → (k : ℕ) (os ps : List ℕ)
    → opens (form_in g l) k os ++ ps ≡ os ++ cond (is_parameter (keyword_of l)) (k ∷ ps) ps
kept_here g l h k os ps = go (is_parameter (keyword_of l)) refl
  where
    go : (t : Bool) → is_parameter (keyword_of l) ≡ t → opens (form_in g l) k os ++ ps ≡ os ++ cond t (k ∷ ps) ps
    go true e =
        let f = word_opens g l (is_parameter_lem (keyword_of l) e) h in
        rw f (append_assoc os (k ∷ []) ps)
    go false e =
        let f = plain_form l e (length g.book.pairs) g.book.declared g.due k os in
        rw f

pub lines_kept : (g : Stage) (n : ℕ) (os : List ℕ) (ls : Lines) → ((i : ℕ) → i < lines ls → AllPass (tests_at i g ls))
    → opened g n os ls ≡ os ++ parameter_lines n ls
lines_kept g n os none h = sym (append-nil os)
lines_kept g n os (unended l) h = sym (append-nil os)
lines_kept g n os (line l ls) h =
    lines_kept (next g l) (n + 1) (opens (form_in g l) (n + 1) os) ls (λ i k. h (suc i) (omega arith))
    ∙ kept_here g l (h 0 (omega arith)) (n + 1) os (parameter_lines (n + 1) ls)

-- each is a line of the sheet, and the word
pub record WordAfter (n : ℕ) (ls : Lines) (k : ℕ) : Type 0 where
  pub behind : ℕ
  pub counted : k ≡ n + behind + 1
  pub inside : behind < lines ls
  pub word : trim (line_of behind ls) ≡ parameter_word

word_later : (n : ℕ) (l : List ℕ) (ls : Lines) (k : ℕ) → WordAfter (n + 1) ls k → WordAfter n (line l ls) k
word_later n l ls k w = record { behind = suc w.behind; counted = omega (arith, w.counted); inside = omega (arith, w.inside); word = w.word }

pub word_after : (n : ℕ) (ls : Lines) (i : ℕ) → i < length (parameter_lines n ls) → WordAfter n ls (get_or (parameter_lines n ls) i 0)
word_after n none i h = absurd (omega arith)
word_after n (unended l) i h = absurd (omega arith)
word_after n (line l ls) i h = go (is_parameter (keyword_of l)) refl i h (word_after (n + 1) ls)
  where
    go : (t : Bool) → is_parameter (keyword_of l) ≡ t → (j : ℕ) → j < length (cond t ((n + 1) ∷ parameter_lines (n + 1) ls) (parameter_lines (n + 1) ls))
        → ((m : ℕ) → m < length (parameter_lines (n + 1) ls) → WordAfter (n + 1) ls (get_or (parameter_lines (n + 1) ls) m 0))
        → WordAfter n (line l ls) (get_or (cond t ((n + 1) ∷ parameter_lines (n + 1) ls) (parameter_lines (n + 1) ls)) j 0)
    go true e zero k f = record { behind = 0; counted = omega arith; inside = omega arith; word = keyword_trim l (is_parameter_lem (keyword_of l) e) }
    go true e (suc j) k f = word_later n l ls _ (f j (omega arith))
    go false e j k f = word_later n l ls _ (f j k)

-- ---- as many as the parameters, and one more while one is open

abbrev pub open_in : Due → ℕ
open_in due.HeaderWord = 0
open_in due.HeaderLine = 0
open_in due.RecordWord = 0
open_in due.RecordLine = 0
open_in due.Opening = 0
open_in due.NameLine = 1
open_in due.FirstComponent = 1
open_in due.NextComponent = 1
open_in due.AfterSample = 1
open_in due.SignedLine = 1
open_in due.RangeLine = 1
open_in due.SourceLine = 1
open_in due.AfterSource = 1
open_in due.SourceBlank = 1
open_in due.AfterSourceBlank = 1
open_in due.NextParameter = 0
open_in due.Nothing = 0

-- before such a line
abbrev open_for : Form → ℕ
open_for Stray = 0
open_for Superframe = 0
open_for HeaderWord = 0
open_for HeaderLine = 0
open_for RecordWord = 0
open_for RecordLine = 0
open_for NoneWord = 0
open_for ParameterWord = 0
open_for NameLine = 1
open_for OpeningComponent = 1
open_for ComponentLine = 1
open_for TimeLine = 1
open_for SamplesEnd = 1
open_for SignedLine = 1
open_for RangeLine = 1
open_for SourceLine = 1
open_for LabelLine = 1
open_for SourceEnd = 1
open_for ParameterEnd = 1

-- a line that is due has m open before it
abbrev Fits : ℕ → Form → Type 0
Fits m f = due_test f ≡ Ok tt → open_for f ≡ m

fits_stray : (m : ℕ) → Fits m Stray
fits_stray m e = absurd (cc)

fits_if : (m : ℕ) (t : Bool) (f g : Form) → Fits m f → Fits m g → Fits m (cond t f g)
fits_if m true f g p q = p
fits_if m false f g p q = q

fits_word : (m : ℕ) (w : Keyword) (h r n p : Form) → Fits m h → Fits m r → Fits m n → Fits m p → Fits m (by_keyword w h r n p)
fits_word m keyword.Header h r n p a b c d = a
fits_word m keyword.Record h r n p a b c d = b
fits_word m keyword.Nothing h r n p a b c d = c
fits_word m keyword.Parameter h r n p a b c d = d
fits_word m keyword.Other h r n p a b c d = fits_stray m

module _ (l : List ℕ) (k s : ℕ) where
  fits_count : (m n : ℕ) (f : Form) → Fits m f → Fits m (count_form l n f)
  unfolding count_form
  fits_count m n f p = fits_if m (eqb (field_count l) n) f Stray p (fits_stray m)

  fits_either : (m n : ℕ) (f : Form) (i : ℕ) (g : Form) → Fits m f → Fits m g → Fits m (either_form l n f i g)
  unfolding either_form
  fits_either m n f i g p q = fits_if m (eqb (field_count l) n) f (count_form l i g) p (fits_count m i g q)

  fits_words : (h r n p : Form) → Fits 0 h → Fits 0 r → Fits 0 n → Fits 0 p → Fits 0 (word_form l h r n p)
  unfolding word_form
  fits_words h r n p = fits_word 0 (keyword_of l) h r n p

  fits_form : (d : Due) → Fits (open_in d) (form_of d k s l)
  unfolding form_of opening_form after_sample_form
  fits_form due.HeaderWord = fits_words _ _ _ _ (λ e. refl) (λ e. refl) (λ e. refl) (λ e. refl)
  fits_form due.HeaderLine = fits_count 0 _ _ (λ e. refl)
  fits_form due.RecordWord = fits_words _ _ _ _ (λ e. refl) (λ e. refl) (λ e. refl) (λ e. refl)
  fits_form due.RecordLine = fits_count 0 _ _ (λ e. refl)
  fits_form due.Opening =
      fits_if 0 (eqb k s) _ _ (fits_words Stray Stray NoneWord ParameterWord (λ e. refl) (λ e. refl) (λ e. refl) (λ e. refl))
      (fits_if 0 (eqb k 1) _ _ (fits_words Stray RecordWord NoneWord ParameterWord (λ e. refl) (λ e. refl) (λ e. refl) (λ e. refl))
      (fits_words Stray RecordWord Stray Stray (λ e. refl) (λ e. refl) (λ e. refl) (λ e. refl)))
  fits_form due.NameLine = fits_count 1 _ _ (λ e. refl)
  fits_form due.FirstComponent = fits_count 1 _ _ (λ e. refl)
  fits_form due.NextComponent = fits_either 1 _ _ _ _ (λ e. refl) (λ e. refl)
  fits_form due.AfterSample =
      fits_if 1 (eqb (field_count l) 2) Superframe _ (λ e. absurd (cc)) (fits_either 1 _ _ _ _ (λ e. refl) (λ e. refl))
  fits_form due.SignedLine = fits_count 1 _ _ (λ e. refl)
  fits_form due.RangeLine = fits_count 1 _ _ (λ e. refl)
  fits_form due.SourceLine = fits_count 1 _ _ (λ e. refl)
  fits_form due.AfterSource = fits_either 1 _ _ _ _ (λ e. refl) (λ e. refl)
  fits_form due.SourceBlank = fits_count 1 _ _ (λ e. refl)
  fits_form due.AfterSourceBlank = fits_either 1 _ _ _ _ (λ e. refl) (λ e. refl)
  fits_form due.NextParameter = fits_words _ _ _ _ (λ e. refl) (λ e. refl) (λ e. refl) (λ e. refl)
  fits_form due.Nothing = fits_stray 0

step_count : (f : Form) (l : List ℕ) (K : Book) (k : ℕ) (os : List ℕ) → length os ≡ length K.parameters + open_for f
    → length (opens f k os) ≡ length (grow f l K).parameters + open_in (due_after f)
step_count Stray l K k os h = h
step_count Superframe l K k os h = h
step_count HeaderWord l K k os h = h
step_count HeaderLine l K k os h = h
step_count RecordWord l K k os h = h
step_count RecordLine l K k os h = h
step_count NoneWord l K k os h = h
step_count ParameterWord l K k os h = simp length-append (omega arith)
step_count NameLine l K k os h = h
step_count OpeningComponent l K k os h = h
step_count ComponentLine l K k os h = h
step_count TimeLine l K k os h = h
step_count SamplesEnd l K k os h = h
step_count SignedLine l K k os h = h
step_count RangeLine l K k os h = h
step_count SourceLine l K k os h = h
step_count LabelLine l K k os h = h
step_count SourceEnd l K k os h = h
step_count ParameterEnd l K k os h = simp length-append (omega arith)

pub count_kept : (g : Stage) (n : ℕ) (os : List ℕ) (ls : Lines) → ((i : ℕ) → i < lines ls → AllPass (tests_at i g ls))
    → length os ≡ length g.book.parameters + open_in g.due
    → length (opened g n os ls) ≡ length (reached (lines ls) g ls).book.parameters + open_in (reached (lines ls) g ls).due
count_kept g n os none h e = e
count_kept g n os (unended l) h e = e
count_kept g n os (line l ls) h e =
    let f = fits_form l (length g.book.pairs) g.book.declared g.due (h 0 (omega arith) 3) in
    count_kept (next g l) (n + 1) (opens (form_in g l) (n + 1) os) ls (λ i k. h (suc i) (omega arith))
    (step_count (form_in g l) l g.book (n + 1) os (rw f e))
