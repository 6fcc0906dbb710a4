-- "Within a line: 4, 3, 2, 5, 12, then fields left to right, then 14, 15": a line's refusal is the first hit of its tests,
-- and every line before it passes all of its own. Assumes nothing.
use Prim.Native.Nat.{ℕ, zero, suc, ◌+◌, ◌<◌, ◌≤◌}
use native.Mathlib.Omega.{arith}
use mathlib.Core.Path.{◌≡◌, refl, sym, ap, ◌∙◌}
use mathlib.Core.Bool.{Bool, true, false, cond}
use mathlib.Core.List.{List, [], ◌∷◌, ◌++◌}
use mathlib.Core.Logic.{◌⊎◌, inl, inr, ⊎_elim}
use borrow.Author.Tests.{le-ltb}
use lib.Dec.{ltb}
use lib.ListN.{length, get_or}
use Rattle.std.specs.Prelude.{Ok, Err}
use Rattle.text.specs.Refusals.{first, Judged}
use Rattle.text.specs.declared.refusal.Refusal.{Refusal}
use Rattle.text.specs.declared.refusal.Refusal.TheVariants.{SheetTooLong, Unended, BadIdentifiers}
use Rattle.lines.specs.Line.{raw_hits}
use Rattle.lines.specs.Lines.{Lines, none, unended, line, lines_of}
use Rattle.lines.specs.Order.{Tests, hits, line_judged}
use Rattle.lines.proofs.Orders.{Hit, first_hit, none_first}
use Rattle.lineforms.specs.declared.due.Due.{Due}
use Rattle.gather.specs.Book.{Book}
use Rattle.gather.specs.Ruling.{Ruling, Refused, on_judged, opens, run, longest_sheet, judge_of}
use Rattle.gather.proofs.Stages.{lines, whole, line_of, Stage, start, form_in, tests_in, next, reached, tests_at, AllPass, opened, Course, stops, breaks, ends, course}
use Rattle.gather.proofs.OwnRefusals.{of_line, line_own}
use Rattle.gather.proofs.AfterLast.{may_end, Ended, end_refused}

-- refused at line k for a test of that line alone
pub record RefusedAt (s : List ℕ) (r : Refusal) (k : ℕ) : Type 0 where
  -- the lines before it
  pub behind : ℕ
  pub counted : k ≡ behind + 1
  pub inside : behind < lines (lines_of s)
  pub hit : Hit (tests_at behind start (lines_of s)) r
  pub earlier : (i : ℕ) → i < behind → AllPass (tests_at i start (lines_of s))

-- refused for an end: the last line lacks its end byte, or a line is due and there is none
pub record UnendedAt (s : List ℕ) (k : ℕ) : Type 0 where
  pub counted : k ≡ lines (lines_of s) + 1
  pub lacks : (whole (lines_of s) ≡ false) ⊎ ((whole (lines_of s) ≡ true) × (may_end (reached (lines (lines_of s)) start (lines_of s)).due ≡ false))
  pub earlier : (i : ℕ) → i < lines (lines_of s) → AllPass (tests_at i start (lines_of s))

-- 4 stands before all else in a line
pub unended_first : (l : List ℕ) (t : Tests) → Hit (raw_hits false l ++ hits t) Unended
unfolding first
unended_first l t = first_hit _ Unended refl

-- what judge_of is where the sheet is not too long
pub ruled : (s : List ℕ) (r : Refusal) (k : ℕ) → (r ≡ SheetTooLong → ⊥) → judge_of s ≡ Refused r k → run start.due start.book [] 0 (lines_of s) ≡ Refused r k
unfolding judge_of
ruled s r k n e = go (ltb longest_sheet (length s)) e
  where
    go : (t : Bool) → cond t (Refused SheetTooLong 0) (run start.due start.book [] 0 (lines_of s)) ≡ Refused r k → run start.due start.book [] 0 (lines_of s) ≡ Refused r k
    go true h = absurd (n (cc))
    go false h = h

pub not_own : (r q : Refusal) → of_line r ≡ true → q ≡ r → of_line q ≡ false → ⊥
not_own r q o e n = let z : ◌≡◌ {A = Bool} false true = sym n ∙ ap of_line e ∙ o in cc

ended_not_own : (d : Due) (K : Book) (os : List ℕ) (m : ℕ) (r : Refusal) (k : ℕ) → of_line r ≡ true → Ended d K os m r k → ⊥
ended_not_own d K os m r k o x =
    ⊎_elim
    (λ y. not_own r Unended o (sym y.1) refl)
    (λ y. not_own r BadIdentifiers o (sym y.1.number) refl)
    x.either

-- what RefusedAt says, of lines after n others
pub record HitAfter (g : Stage) (n : ℕ) (ls : Lines) (r : Refusal) (k : ℕ) : Type 0 where
  pub behind : ℕ
  pub counted : k ≡ n + behind + 1
  pub inside : behind < lines ls
  pub hit : Hit (tests_at behind g ls) r
  pub earlier : (i : ℕ) → i < behind → AllPass (tests_at i g ls)

pub hit_after : (g : Stage) (n : ℕ) (os : List ℕ) (ls : Lines) (r : Refusal) (k : ℕ) → of_line r ≡ true
    → run g.due g.book os n ls ≡ Refused r k → HitAfter g n ls r k
hit_after g n os ls r k o e = go (course g n os ls) e
  where
    go : {v : Ruling} → Course g n os ls v → v ≡ Refused r k → HitAfter g n ls r k
    go (stops i h a q p) u =
        let q-is : q ≡ r = cc in
        record { behind = i; counted = cc; inside = h; hit = first_hit (tests_at i g ls) r (p ∙ ap Err q-is); earlier = a }
    go (breaks w a) u = absurd (not_own r Unended o (cc) refl)
    go (ends w a) u =
        let f = reached (lines ls) g ls in
        absurd (ended_not_own f.due f.book (opened g n os ls) (n + lines ls + 1) r k o (end_refused f.due f.book (opened g n os ls) (n + lines ls + 1) r k u))

pub first_hit_refused : (s : List ℕ) (r : Refusal) (k : ℕ) → of_line r ≡ true → judge_of s ≡ Refused r k → RefusedAt s r k
first_hit_refused s r k o e =
    let h = hit_after start 0 [] (lines_of s) r k o (ruled s r k (λ q. not_own r SheetTooLong o (sym q) refl) e) in
    record { behind = h.behind; counted = omega arith; inside = h.inside; hit = h.hit; earlier = h.earlier }

pub unended_refused : (s : List ℕ) (k : ℕ) → judge_of s ≡ Refused Unended k → UnendedAt s k
unended_refused s k e =
    go (course start 0 [] (lines_of s)) (ruled s Unended k (λ h. cc) e)
  where
    go : {v : Ruling} → Course start 0 [] (lines_of s) v → v ≡ Refused Unended k → UnendedAt s k
    go (stops i h a q p) u =
        let q-is : q ≡ Unended = cc in
        absurd (not_own q Unended (line_own (reached i start (lines_of s)) (line_of i (lines_of s)) q p) (sym q-is) refl)
    go (breaks w a) u =
        let k-is : k ≡ 0 + lines (lines_of s) + 1 = cc in
        record { counted = omega arith; lacks = inl w; earlier = a }
    go (ends w a) u =
        ⊎_elim
        (λ y. let k-is = y.2 in record { counted = omega arith; lacks = inr (w, y.0); earlier = a })
        (λ y. absurd (let z = y.1.number in cc))
        (end_refused (reached (lines (lines_of s)) start (lines_of s)).due (reached (lines (lines_of s)) start (lines_of s)).book (opened start 0 [] (lines_of s)) (0 + lines (lines_of s) + 1) Unended k u).either

-- ---- and the other way: what is the first hit of a line after lines that pass is the sheet's refusal

hit_first : (js : List Judged) (k : ℕ) (r : Refusal) → get_or js k (Ok tt) ≡ Err r
    → ((i : ℕ) → i < k → get_or js i (Ok tt) ≡ Ok tt) → first js ≡ Err r
unfolding first
hit_first [] zero r e h = absurd (cc)
hit_first [] (suc k) r e h = absurd (cc)
hit_first (Ok _ ∷ js) zero r e h = absurd (cc)
hit_first (Ok _ ∷ js) (suc k) r e h = hit_first js k r e (λ i l. h (suc i) (omega arith))
hit_first (Err q ∷ js) zero r e h = e
hit_first (Err q ∷ js) (suc k) r e h =
    let p = h 0 (omega arith) in
    absurd (cc)

run_hit : (i : ℕ) (g : Stage) (os : List ℕ) (n : ℕ) (ls : Lines) (r : Refusal) → i < lines ls → ((j : ℕ) → j < i → AllPass (tests_at j g ls))
    → first (tests_at i g ls) ≡ Err r → run g.due g.book os n ls ≡ Refused r (n + i + 1)
unfolding run line_judged
run_hit i g os n none r h a e = absurd (omega arith)
run_hit i g os n (unended l) r h a e = absurd (omega arith)
run_hit zero g os n (line l ls) r h a e =
    let k : n + 1 ≡ n + 0 + 1 = omega arith in
    ap (λ (v : Judged). on_judged v (n + 1) (run (next g l).due (next g l).book (opens (form_in g l) (n + 1) os) (n + 1) ls)) e ∙ ap (Refused r) k
run_hit (suc i) g os n (line l ls) r h a e =
    let k : n + 1 + i + 1 ≡ n + suc i + 1 = omega arith in
    ap (λ (v : Judged). on_judged v (n + 1) (run (next g l).due (next g l).book (opens (form_in g l) (n + 1) os) (n + 1) ls))
    (none_first (tests_in g l) (a 0 (omega arith)))
    ∙ run_hit i (next g l) (opens (form_in g l) (n + 1) os) (n + 1) ls r (omega arith) (λ j m. a (suc j) (omega arith)) e
    ∙ ap (Refused r) k

pub refused_at_first_hit : (s : List ℕ) (r : Refusal) (k : ℕ) → length s ≤ longest_sheet → RefusedAt s r k → judge_of s ≡ Refused r k
unfolding judge_of
refused_at_first_hit s r k h x =
    let e : 0 + x.behind + 1 ≡ k = omega (arith, x.counted) in
    rw (le-ltb longest_sheet (length s) h)
    (run_hit x.behind start [] 0 (lines_of s) r x.inside x.earlier (hit_first (tests_at x.behind start (lines_of s)) x.hit.at r x.hit.here x.hit.earlier)
    ∙ ap (Refused r) e)
