-- Not part of the meaning: where the run over the lines ends, and the judge's answer.
use Rattle.std.specs.Prelude.{ℕ, ◌+◌, Bool, true, false, cond, List, Option, Some, None, Result, Ok, Err, eqb, take, get_or}
use Rattle.lay.specs.Below.{all}
use Rattle.text.specs.Refusals.{Judged}
use Rattle.text.specs.declared.refusal.Refusal.{Refusal}
use Rattle.text.specs.declared.refusal.Refusal.TheVariants.{Unended, BadIdentifiers}
use Rattle.lines.specs.Lines.{Lines, none, unended, line, lines_of}
use Rattle.lines.specs.Order.{line_judged}
use Rattle.lineforms.specs.Forms.{due_after}
use Rattle.lineforms.specs.declared.due.Due.{Due}
use Rattle.lineforms.specs.declared.due.Due.TheVariants as due
use Rattle.gather.specs.Book.{Book, empty_book, grow}
use Rattle.gather.specs.Tests.{tests_of}
use Rattle.gather.specs.Ruling.{Ruling, Accepted, Refused, form_at}
use Rattle.judge.specs.Rows.{no_kept}
use Rattle.judge.specs.Sixteen.{first_bad_in, taken_in}
use Rattle.judge.specs.declared.rows.Kept.{Kept}
use Rattle.judge.specs.declared.rows.Rows.{Rows}
use Rattle.judge.specs.declared.tally.Tally.{Tally}
use Rattle.judge.specs.declared.turn.State.{State}
use Rattle.judge.specs.declared.walk.Rejected.{Rejected}

-- the Book after the last line reached
abbrev pub onward : Judged → Book → Book → Book
onward (Ok _) K B = B
onward (Err q) K B = K

unfoldable pub end_book : Due → Book → Lines → Book
end_book d K none = K
end_book d K (unended l) = K
end_book d K (line l ls) =
    onward (line_judged true l (tests_of (form_at d K l) K l)) K (end_book (due_after (form_at d K l)) (grow (form_at d K l) l K) ls)

unfoldable pub book_of : List ℕ → Book
book_of s = end_book due.HeaderWord empty_book (lines_of s)

-- accepted with what the lines count up to, or refused at a line
abbrev pub Verdict : Type 0
Verdict = Result Tally Rejected

abbrev pub refused : Refusal → ℕ → Verdict
refused q k = Err (record { refusal = q; line = k })

-- the answer: accepted with the counts x, or refused at a line
abbrev pub verdict_of : Ruling → Tally → Verdict
verdict_of (Accepted c) x = Ok x
verdict_of (Refused q k) x = refused q k

-- no line is due: the sheet may end
abbrev pub may_end : Due → Bool
may_end due.HeaderWord = false
may_end due.HeaderLine = false
may_end due.RecordWord = false
may_end due.RecordLine = false
may_end due.Opening = false
may_end due.NameLine = false
may_end due.FirstComponent = false
may_end due.NextComponent = false
may_end due.AfterSample = false
may_end due.SignedLine = false
may_end due.RangeLine = false
may_end due.SourceLine = false
may_end due.AfterSource = false
may_end due.SourceBlank = false
may_end due.AfterSourceBlank = false
may_end due.NextParameter = true
may_end due.Nothing = true

-- v, unless there is a bad one
abbrev pub unless : Option ℕ → (ℕ → Verdict) → Verdict → Verdict
unless (Some i) f v = f i
unless None f v = v

-- 16 by what is kept of each parameter
unfoldable pub identified_in : Tally → List Kept → Verdict
identified_in x ks =
    cond (eqb x.parameters 0) (Ok x)
    (unless (first_bad_in ks) (λ i. refused BadIdentifiers (get_or ks i no_kept).opened_at)
    (cond (all x.declared (λ s. taken_in ks (s + 1))) (Ok x) (refused BadIdentifiers 0)))

-- after the last line, by what is kept: 4 at the line that is missing, or 16
unfoldable pub ended_in : State → ℕ → Rows → Verdict
ended_in t k r = cond (may_end t.due) (identified_in t.counts (take t.counts.parameters r.kept)) (refused Unended k)
