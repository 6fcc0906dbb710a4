-- What a turn says of the next line. Assumes nothing.
use mathlib.Core.Path.{◌≡◌, refl, ap, ◌∙◌}
use mathlib.Core.List.{List}
use Prim.Native.Nat.{ℕ, ◌+◌, ◌-◌, ◌<◌}
use lib.ListN.{length}
use Rattle.std.specs.Prelude.{Ok, Err}
use Rattle.lay.specs.Bytes.{part}
use Rattle.text.specs.Refusals.{Judged, says}
use Rattle.text.proofs.Order.{says_ok}
use Rattle.text.specs.declared.refusal.Refusal.{Refusal}
use Rattle.lines.specs.Line.{Found, line_at}
use Rattle.lines.specs.declared.Cursor.{Cursor}
use Rattle.lines.proofs.Cuts.{Next, found_next}
use Rattle.judge.specs.Rows.{rows_set}
use Rattle.judge.specs.Turns.{form_here, Going, Steady, Gone, judged_in, turn_of}
use Rattle.judge.specs.Walk.{refused}
use Rattle.judge.specs.declared.rows.Rows.{Rows}
use Rattle.judge.specs.declared.turn.State.{State}
use Rattle.judge.specs.declared.turn.Passed.{Passed}
use Rattle.judge.proofs.Runs.{answer_of}
use Rattle.judge.proofs.Judging.{Judging, judging_pairs, judging_parameters, judging_raw}
use Rattle.judge.proofs.Judgings.{judging_fitting, judging_refused, judging_steady, judging_next}

says_err : (j : Judged) (v : Passed) (q : Refusal) → says j v ≡ Err q → j ≡ Err q
says_err (Ok _) v q e = absurd (cc)
says_err (Err r) v q e = let i : r ≡ q = cc in ap Err i

-- a line that passed
pub record Went (s : List ℕ) (c : Cursor) (t : State) (rs : Rows) (p : Passed) (l : List ℕ) : Type 0 where
  pub next : Next s c p.line.start p.line.end p.line.next
  pub form : p.form ≡ form_here t l
  pub passes : judged_in p.form s l t rs ≡ Ok tt

module _ {s : List ℕ} {rs : Rows} {c : Cursor} {t : State} (w : Judging s rs c t) where
  pub turn_going : Going s c t
  turn_going =
      record {
        ready = w.ready;
        known = record { few = judging_pairs w; fewer = judging_parameters w };
        fitting = λ l. judging_fitting w l refl;
      }

  found_refusal : c.at < length s → (q : Refusal) (z : Found) → line_at s c ≡ z → turn_of z s t rs ≡ Err q → refused q (c.number + 1) ≡ answer_of s
  found_refusal h q (Err u) p m = let i : u ≡ q = cc in judging_raw w h q (p ∙ ap Err i)
  found_refusal h q (Ok l) p m =
      let b = part s l.start (l.end - l.start) in
      judging_refused w b refl (found_next s c w.ready l p) refl q (says_err (judged_in (form_here t b) s b t rs) (record { form = form_here t b; line = l }) q m)

  pub turn_refused : c.at < length s → (q : Refusal) → turn_of (line_at s c) s t rs ≡ Err q → refused q (c.number + 1) ≡ answer_of s
  turn_refused h q m = found_refusal h q (line_at s c) refl m

  found_passed : (p : Passed) (z : Found) → line_at s c ≡ z → turn_of z s t rs ≡ Ok p → Went s c t rs p (part s p.line.start (p.line.end - p.line.start))
  found_passed p (Err u) h m = absurd (cc)
  found_passed p (Ok l) h m =
      let b = part s l.start (l.end - l.start) in
      let e = says_ok (judged_in (form_here t b) s b t rs) (record { form = form_here t b; line = l }) p m in
      rw e.1 (record { next = found_next s c w.ready l h; form = refl; passes = e.0 })

  module _ {p : Passed} (m : turn_of (line_at s c) s t rs ≡ Ok p) where
    went : {l : List ℕ} → l ≡ part s p.line.start (p.line.end - p.line.start) → Went s c t rs p l
    went el = rw el (found_passed p (line_at s c) refl m)

    pub turn_next : Next s c p.line.start p.line.end p.line.next
    turn_next = (went refl).next

    pub turn_steady : {l : List ℕ} → l ≡ part s p.line.start (p.line.end - p.line.start) → Steady p.form l p.line.start t
    turn_steady {l} el = judging_steady w l (went el).form turn_next el (went el).passes

    pub turn_on : {l : List ℕ} → l ≡ part s p.line.start (p.line.end - p.line.start) → {qs : Rows} {r : State} → qs ≡ rows_set p.form l t rs → Gone p.form l p.line.start (c.number + 1) t r → Judging s qs p.line.next r
    turn_on {l} el eq g = judging_next w l (went el).form turn_next el (went el).passes eq g
