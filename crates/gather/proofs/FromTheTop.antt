-- "Lines are judged from the top": what refuses a sheet at a line refuses every sheet with the same lines up to there, at
-- the same line. Assumes nothing.
use Prim.Native.Nat.{ℕ, zero, suc, ◌+◌, ◌≤◌}
use native.Mathlib.Omega.{arith}
use mathlib.Core.Path.{◌≡◌, refl, sym, ap, ◌∙◌}
use mathlib.Core.Bool.{Bool, true, false, cond}
use mathlib.Core.List.{List, [], ◌∷◌, ◌++◌}
use borrow.Author.Tests.{le-ltb}
use lib.Dec.{eqb}
use lib.ListN.{length}
use Rattle.std.specs.Prelude.{Ok, Err}
use Rattle.text.specs.Refusals.{first, Judged}
use Rattle.text.specs.declared.refusal.Refusal.{Refusal}
use Rattle.text.specs.declared.refusal.Refusal.TheVariants.{SheetTooLong}
use Rattle.lines.specs.Line.{end_byte}
use Rattle.lines.specs.Lines.{Lines, none, unended, line, push, lines_of}
use Rattle.lines.specs.Order.{line_judged}
use Rattle.gather.specs.Ruling.{Ruling, Refused, on_judged, opens, run, longest_sheet, judge_of}
use Rattle.gather.proofs.Stages.{lines, whole, first_lines, Stage, start, form_in, tests_in, next}
use Rattle.gather.proofs.OwnRefusals.{of_line}
use Rattle.gather.proofs.FirstHits.{ruled, not_own, hit_after}

abbrev run_from : Stage → List ℕ → ℕ → Lines → Ruling
run_from g os n ls = run g.due g.book os n ls

judged_same : (v : Judged) (m : ℕ) (a b : Ruling) (r : Refusal) (k : ℕ) → (a ≡ Refused r k → b ≡ Refused r k) → on_judged v m a ≡ Refused r k → on_judged v m b ≡ Refused r k
judged_same (Ok _) m a b r k f e = f e
judged_same (Err q) m a b r k f e = e

-- the lines from here on: those up to the refused one are the same
same_run : (i : ℕ) (g : Stage) (os : List ℕ) (n : ℕ) (xs ys : Lines) (r : Refusal) (k : ℕ) → of_line r ≡ true → k ≡ n + i
    → first_lines i xs ≡ first_lines i ys → run_from g os n xs ≡ Refused r k → run_from g os n ys ≡ Refused r k
unfolding run line_judged first
same_run zero g os n xs ys r k o c f e = let h = hit_after g n os xs r k o e in absurd (omega arith)
same_run (suc i) g os n none ys r k o c f e = let h = hit_after g n os none r k o e in absurd (omega arith)
same_run (suc i) g os n (unended l) ys r k o c f e = let h = hit_after g n os (unended l) r k o e in absurd (omega arith)
same_run (suc i) g os n (line l xs) none r k o c f e = absurd (cc)
same_run (suc i) g os n (line l xs) (unended y) r k o c f e = absurd (cc)
same_run (suc i) g os n (line l xs) (line m ys) r k o c f e =
    let same : m ≡ l = cc in
    let rest : first_lines i xs ≡ first_lines i ys = cc in
    rw same
    (judged_same (first (tests_in g l)) (n + 1) (run_from (next g l) (opens (form_in g l) (n + 1) os) (n + 1) xs)
    (run_from (next g l) (opens (form_in g l) (n + 1) os) (n + 1) ys) r k
    (same_run i (next g l) (opens (form_in g l) (n + 1) os) (n + 1) xs ys r k o (omega arith) rest)
    e)

judged_short : (y : List ℕ) → length y ≤ longest_sheet → judge_of y ≡ run_from start [] 0 (lines_of y)
unfolding judge_of
judged_short y h = rw (le-ltb longest_sheet (length y) h)

pub same_from_the_top : (s y : List ℕ) (r : Refusal) (k : ℕ) → of_line r ≡ true → length y ≤ longest_sheet
    → first_lines k (lines_of s) ≡ first_lines k (lines_of y) → judge_of s ≡ Refused r k → judge_of y ≡ Refused r k
same_from_the_top s y r k o h f e =
    judged_short y h
    ∙ same_run k start [] 0 (lines_of s) (lines_of y) r k o (omega arith) f (ruled s r k (λ q. not_own r SheetTooLong o (sym q) refl) e)

-- ---- of bytes

-- lines after whole lines
abbrev after : Lines → Lines → Lines
after none m = m
after (unended l) m = unended l
after (line l ls) m = line l (after ls m)

push_whole : (b : ℕ) (p q m : Lines) → whole (push b p) ≡ true → (whole p ≡ true → q ≡ after p m) → push b q ≡ after (push b p) m
push_whole b none q m w f = absurd (cc)
push_whole b (unended l) q m w f = absurd (cc)
push_whole b (line l ls) q m w f = rw (f w)

lines_after : (p x : List ℕ) → whole (lines_of p) ≡ true → lines_of (p ++ x) ≡ after (lines_of p) (lines_of x)
unfolding lines_of
lines_after [] x w = refl
lines_after (b ∷ p) x w = go (eqb b end_byte) (lines_after p x) w
  where
    go : (t : Bool) → (whole (lines_of p) ≡ true → lines_of (p ++ x) ≡ after (lines_of p) (lines_of x))
        → whole (cond t (line [] (lines_of p)) (push b (lines_of p))) ≡ true
        → cond t (line [] (lines_of (p ++ x))) (push b (lines_of (p ++ x))) ≡ after (cond t (line [] (lines_of p)) (push b (lines_of p))) (lines_of x)
    go true ih v = ap (line []) (ih v)
    go false ih v = push_whole b (lines_of p) (lines_of (p ++ x)) (lines_of x) v ih

first_after : (p m : Lines) → whole p ≡ true → first_lines (lines p) (after p m) ≡ first_lines (lines p) p
first_after none m w = refl
first_after (unended l) m w = refl
first_after (line l ls) m w = ap (λ (t : List (List ℕ)). l ∷ t) (first_after ls m w)

-- p is k whole lines, with which both begin
pub same_beginning : (p x z : List ℕ) (r : Refusal) (k : ℕ) → of_line r ≡ true → whole (lines_of p) ≡ true → lines (lines_of p) ≡ k
    → length (p ++ z) ≤ longest_sheet → judge_of (p ++ x) ≡ Refused r k → judge_of (p ++ z) ≡ Refused r k
same_beginning p x z r k o w c h e = same_from_the_top (p ++ x) (p ++ z) r k o h (begins x ∙ sym (begins z)) e
  where
    begins : (u : List ℕ) → first_lines k (lines_of (p ++ u)) ≡ first_lines k (lines_of p)
    begins u = rw (← c, lines_after p u w) (first_after (lines_of p) (lines_of u) w)
