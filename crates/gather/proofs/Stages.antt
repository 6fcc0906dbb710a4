-- The lines of a sheet one by one, and where the judge stands before each. Definitions for the theorems, and the course of
-- the judge over the lines. Assumes nothing.
use Prim.Native.Nat.{ℕ, zero, suc, ◌+◌, ◌<◌}
use native.Mathlib.Omega.{arith}
use mathlib.Core.Path.{◌≡◌, refl}
use mathlib.Core.Bool.{Bool, true, false}
use mathlib.Core.List.{List, [], ◌∷◌, ◌++◌}
use lib.ListN.{get_or}
use Rattle.std.specs.Prelude.{Ok, Err}
use Rattle.text.specs.Refusals.{first, Judged}
use Rattle.text.specs.declared.refusal.Refusal.{Refusal}
use Rattle.text.specs.declared.refusal.Refusal.TheVariants.{Unended}
use Rattle.lines.specs.Line.{raw_hits}
use Rattle.lines.specs.Lines.{Lines, none, unended, line}
use Rattle.lines.specs.Order.{hits, line_judged}
use Rattle.lines.proofs.Orders.{first_none}
use Rattle.lineforms.specs.Forms.{due_after}
use Rattle.lineforms.specs.declared.due.Due.{Due}
use Rattle.lineforms.specs.declared.due.Due.TheVariants as due
use Rattle.lineforms.specs.declared.due.Form.{Form}
use Rattle.gather.specs.Book.{Book, empty_book, grow}
use Rattle.gather.specs.Tests.{tests_of}
use Rattle.gather.specs.Ruling.{Ruling, Refused, at_end, form_at, opens, on_judged, run}

-- ---- the lines

-- how many lines there are: one that lacks its end byte does not count
abbrev pub lines : Lines → ℕ
lines none = 0
lines (unended l) = 0
lines (line l ls) = suc (lines ls)

-- nothing is left without its end byte
abbrev pub whole : Lines → Bool
whole none = true
whole (unended l) = false
whole (line l ls) = whole ls

-- line i, counted from 0, without its end byte
abbrev pub line_of : ℕ → Lines → List ℕ
line_of i none = []
line_of i (unended l) = []
line_of zero (line l ls) = l
line_of (suc i) (line l ls) = line_of i ls

-- the first n lines
abbrev pub first_lines : ℕ → Lines → List (List ℕ)
first_lines zero ls = []
first_lines (suc n) none = []
first_lines (suc n) (unended l) = []
first_lines (suc n) (line l ls) = l ∷ first_lines n ls

-- ---- before each line

-- what is due, and what the lines so far gather to
pub record Stage : Type 0 where
  pub due : Due
  pub book : Book

abbrev pub start : Stage
start = record { due = due.HeaderWord; book = empty_book }

-- what a line is there
abbrev pub form_in : Stage → List ℕ → Form
form_in g l = form_at g.due g.book l

-- its tests, in 01's order, as a line that has its end byte
abbrev pub tests_in : Stage → List ℕ → List Judged
tests_in g l = raw_hits true l ++ hits (tests_of (form_in g l) g.book l)

abbrev pub next : Stage → List ℕ → Stage
next g l = record { due = due_after (form_in g l); book = grow (form_in g l) l g.book }

-- the stage after i lines
abbrev pub reached : ℕ → Stage → Lines → Stage
reached zero g ls = g
reached (suc i) g none = g
reached (suc i) g (unended l) = g
reached (suc i) g (line l ls) = reached i (next g l) ls

-- the tests of line i
abbrev pub tests_at : ℕ → Stage → Lines → List Judged
tests_at i g ls = tests_in (reached i g ls) (line_of i ls)

-- none of them hits
abbrev pub AllPass : List Judged → Type 0
AllPass js = (j : ℕ) → get_or js j (Ok tt) ≡ Ok tt

-- the lines of the `PARAMETER:` words, after n lines and the words at os
abbrev pub opened : Stage → ℕ → List ℕ → Lines → List ℕ
opened g n os none = os
opened g n os (unended l) = os
opened g n os (line l ls) = opened (next g l) (n + 1) (opens (form_in g l) (n + 1) os) ls

-- ---- the course of the judge

-- 4 stands before all else in a line
pub unended_run : (d : Due) (K : Book) (os : List ℕ) (k : ℕ) (l : List ℕ) → run d K os k (unended l) ≡ Refused Unended (k + 1)
unfolding run line_judged first
unended_run d K os k l = refl

-- refused at a line after lines that pass; or all lines pass, and it is refused at a rest without its end byte, or ruled
-- where the lines end
pub data Course (g : Stage) (n : ℕ) (os : List ℕ) (ls : Lines) : Ruling → Type 0 where
  stops : (i : ℕ) → i < lines ls → ((j : ℕ) → j < i → AllPass (tests_at j g ls)) → (r : Refusal)
      → first (tests_at i g ls) ≡ Err r → Course g n os ls (Refused r (n + i + 1))
  breaks : whole ls ≡ false → ((j : ℕ) → j < lines ls → AllPass (tests_at j g ls)) → Course g n os ls (Refused Unended (n + lines ls + 1))
  ends : whole ls ≡ true → ((j : ℕ) → j < lines ls → AllPass (tests_at j g ls))
      → Course g n os ls (at_end (reached (lines ls) g ls).due (reached (lines ls) g ls).book (opened g n os ls) (n + lines ls + 1))

pub course : (g : Stage) (n : ℕ) (os : List ℕ) (ls : Lines) → Course g n os ls (run g.due g.book os n ls)
unfolding run line_judged first
course g n os none = let e : n + 1 ≡ n + 0 + 1 = omega arith in rw e (ends refl (λ j h. absurd (omega arith)))
course g n os (unended l) = let e : n + 1 ≡ n + 0 + 1 = omega arith in rw e (breaks refl (λ j h. absurd (omega arith)))
course g n os (line l ls) = go (first (tests_in g l)) refl (course (next g l) (n + 1) (opens (form_in g l) (n + 1) os) ls)
  where
    more : first (tests_in g l) ≡ Ok tt → (m : ℕ) → ((j : ℕ) → j < m → AllPass (tests_at j (next g l) ls))
        → (j : ℕ) → j < suc m → AllPass (tests_at j g (line l ls))
    more p m a zero h = first_none (tests_in g l) p
    more p m a (suc j) h = a j (omega arith)

    later : first (tests_in g l) ≡ Ok tt → {v : Ruling} → Course (next g l) (n + 1) (opens (form_in g l) (n + 1) os) ls v → Course g n os (line l ls) v
    later p (stops i h a r e) =
        let k : n + 1 + i + 1 ≡ n + suc i + 1 = omega arith in
        rw k (stops (suc i) (omega arith) (more p i a) r e)
    later p (breaks w a) =
        let k : n + 1 + lines ls + 1 ≡ n + suc (lines ls) + 1 = omega arith in
        rw k (breaks w (more p (lines ls) a))
    later p (ends w a) =
        let k : n + 1 + lines ls + 1 ≡ n + suc (lines ls) + 1 = omega arith in
        rw k (ends w (more p (lines ls) a))

    go : (v : Judged) → first (tests_in g l) ≡ v → {w : Ruling} → Course (next g l) (n + 1) (opens (form_in g l) (n + 1) os) ls w → Course g n os (line l ls) (on_judged v (n + 1) w)
    go (Ok _) p c = later p c
    go (Err q) p c =
        let k : n + 1 ≡ n + 0 + 1 = omega arith in
        rw k (stops 0 (omega arith) (λ j h. absurd (omega arith)) q p)
