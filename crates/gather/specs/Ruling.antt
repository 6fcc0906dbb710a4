-- The judge: "Lines are judged from the top."
use Rattle.std.specs.Prelude.{ℕ, ◌+◌, true, false, cond, not, List, [], ◌∷◌, ◌++◌, eqb, ltb, length, get_or, Ok, Err}
use Rattle.lay.specs.Below.{all, find}
use Rattle.text.specs.Refusals.{Judged}
use Rattle.text.specs.declared.refusal.Refusal.{Refusal}
use Rattle.text.specs.declared.refusal.Refusal.TheVariants.{SheetTooLong, Unended, BadIdentifiers}
use Rattle.lines.specs.Lines.{Lines, none, unended, line, lines_of}
use Rattle.lines.specs.Order.{line_judged}
use Rattle.lineforms.specs.Forms.{form_of, due_after}
use Rattle.lineforms.specs.declared.due.Due.{Due}
use Rattle.lineforms.specs.declared.due.Due.TheVariants as due
use Rattle.lineforms.specs.declared.due.Form.{Form}
use Rattle.lineforms.specs.declared.due.Form.TheVariants as form
use Rattle.model.specs.Content.{Content, parameters, subframes}
use Rattle.model.specs.Identifiers.{identifies, taken}
use Rattle.gather.specs.Book.{Book, empty_book, grow, content_of}
use Rattle.gather.specs.Tests.{tests_of}

-- accepted with its Content, or refused at a line; a type of its own, since the code that has a refusal and its line in one is
-- the judge's, above
pub data Ruling : Type 0 where
  Accepted : Content → Ruling
  Refused : Refusal → ℕ → Ruling

-- ---- 16, "after the last line"

-- the first parameter that is an identifier and breaks a rule, or the number of parameters
unfoldable pub first_bad : Content → ℕ
first_bad c = find (parameters c) (λ i. not (identifies c i))

-- the lines of the `PARAMETER:` words are os; "then every subframe must be taken (line 0). A `NONE` sheet is free of 16."
unfoldable pub identified : Content → List ℕ → Ruling
identified c os =
    cond (eqb (parameters c) 0) (Accepted c)
    (cond (ltb (first_bad c) (parameters c)) (Refused BadIdentifiers (get_or os (first_bad c) 0))
    (cond (all (subframes c) (λ s. taken c (s + 1))) (Accepted c) (Refused BadIdentifiers 0)))

-- ---- the lines

-- 4, "the file ends where a line is due", which would be line k; after `NONE` and after a whole parameter none is due
abbrev pub at_end : Due → Book → List ℕ → ℕ → Ruling
at_end due.HeaderWord K os k = Refused Unended k
at_end due.HeaderLine K os k = Refused Unended k
at_end due.RecordWord K os k = Refused Unended k
at_end due.RecordLine K os k = Refused Unended k
at_end due.Opening K os k = Refused Unended k
at_end due.NameLine K os k = Refused Unended k
at_end due.FirstComponent K os k = Refused Unended k
at_end due.NextComponent K os k = Refused Unended k
at_end due.AfterSample K os k = Refused Unended k
at_end due.SignedLine K os k = Refused Unended k
at_end due.RangeLine K os k = Refused Unended k
at_end due.SourceLine K os k = Refused Unended k
at_end due.AfterSource K os k = Refused Unended k
at_end due.SourceBlank K os k = Refused Unended k
at_end due.AfterSourceBlank K os k = Refused Unended k
at_end due.NextParameter K os k = identified (content_of K) os
at_end due.Nothing K os k = identified (content_of K) os

abbrev pub form_at : Due → Book → List ℕ → Form
form_at d K l = form_of d (length K.pairs) K.declared l

-- the lines of the `PARAMETER:` words
abbrev pub opens : Form → ℕ → List ℕ → List ℕ
opens form.Stray k os = os
opens form.Superframe k os = os
opens form.HeaderWord k os = os
opens form.HeaderLine k os = os
opens form.RecordWord k os = os
opens form.RecordLine k os = os
opens form.NoneWord k os = os
opens form.ParameterWord k os = os ++ (k ∷ [])
opens form.NameLine k os = os
opens form.OpeningComponent k os = os
opens form.ComponentLine k os = os
opens form.TimeLine k os = os
opens form.SamplesEnd k os = os
opens form.SignedLine k os = os
opens form.RangeLine k os = os
opens form.SourceLine k os = os
opens form.LabelLine k os = os
opens form.SourceEnd k os = os
opens form.ParameterEnd k os = os

abbrev pub on_judged : Judged → ℕ → Ruling → Ruling
on_judged (Ok _) k r = r
on_judged (Err q) k r = Refused q k

-- the lines from the top, k of them behind. A last line that lacks its end byte is judged by the same list, and 4 stands
-- first in it: what would follow never counts
unfoldable pub run : Due → Book → List ℕ → ℕ → Lines → Ruling
run d K os k none = at_end d K os (k + 1)
run d K os k (unended l) =
    on_judged (line_judged false l (tests_of (form_at d K l) K l)) (k + 1) (at_end d K os (k + 1))
run d K os k (line l ls) =
    on_judged (line_judged true l (tests_of (form_at d K l) K l)) (k + 1)
    (run (due_after (form_at d K l)) (grow (form_at d K l) l K) (opens (form_at d K l) (k + 1) os) (k + 1) ls)

-- "sheet 65,536 bytes"
abbrev pub longest_sheet : ℕ
longest_sheet = 65536

-- "1 comes first."
unfoldable pub judge_of : List ℕ → Ruling
judge_of s = cond (ltb longest_sheet (length s)) (Refused SheetTooLong 0) (run due.HeaderWord empty_book [] 0 (lines_of s))
