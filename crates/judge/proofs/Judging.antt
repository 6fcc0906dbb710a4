-- What holds of the judge's state before each line. Assumes nothing.
use mathlib.Core.Path.{◌≡◌, refl, sym, ap, ◌∙◌}
use mathlib.Core.Bool.{Bool, true, false}
use mathlib.Core.List.{List, []}
use Prim.Native.Nat.{ℕ, ◌+◌, ◌≤◌, ◌<◌}
use native.Mathlib.Omega.{arith}
use lib.ListN.{length, get_or, take, drop}
use Rattle.std.specs.Prelude.{Err}
use Rattle.text.specs.declared.refusal.Refusal.{Refusal}
use Rattle.lines.specs.Line.{Ready, line_at}
use Rattle.lines.specs.Lines.{none, lines_of}
use Rattle.lines.specs.declared.Cursor.{Cursor}
use Rattle.lines.proofs.Cuts.{found_refused}
use Rattle.lineforms.specs.declared.due.Due.{Due}
use Rattle.lineforms.specs.declared.due.Due.TheVariants as due
use Rattle.model.specs.Content.{subframes}
use Rattle.model.specs.Forms.{sheet_limits}
use Rattle.gather.specs.Book.{Book, empty_book, content_of, words_of, bits_of}
use Rattle.gather.specs.Ruling.{identified}
use Rattle.gather.proofs.Sound.{Between, Sound}
use Rattle.judge.specs.Counts.{tally_of, most_count, Small}
use Rattle.judge.specs.Rows.{pair_rows, parameter_rows}
use Rattle.judge.specs.Turns.{Starting}
use Rattle.judge.specs.Walk.{verdict_of, refused, may_end, identified_in, ended_in}
use Rattle.judge.specs.declared.rows.Rows.{Rows}
use Rattle.judge.specs.declared.tally.Tally.{Tally}
use Rattle.judge.specs.declared.turn.State.{State}
use Rattle.judge.proofs.Arrays.{Paired, Kepts, kepts_none}
use Rattle.judge.proofs.Standing.{Resting, Stands}
use Rattle.judge.proofs.Bounds.{Few, few, small}
use Rattle.judge.proofs.Sampled.{Sampled, sampled_none}
use Rattle.judge.proofs.Apart.{Here, no_text}
use Rattle.judge.proofs.Identifying.{identified_is}
use Rattle.judge.proofs.Runs.{answer, answer_raw, lines_left, lines_none, answer_due, answer_end, answer_of, answer_start}

-- book is what the lines so far gathered to, opens are the lines of the `PARAMETER:` words
pub record Judging (s : List ℕ) (r : Rows) (c : Cursor) (t : State) : Type 0 where
  pub book : Book
  pub opens : List ℕ
  pub ready : Ready s c
  pub mine : t.counts ≡ tally_of book
  pub sound : Sound t.due book
  pub stands : Stands t.due book opens
  pub says : answer t.due book opens c.number (lines_of (drop c.at s)) ≡ answer_of s
  pub paired : Paired book.pairs r.words r.bits
  pub long : length r.kept ≡ parameter_rows
  pub kept : Kepts s book.parameters opens (take (length book.parameters) r.kept)
  pub here : Here s t.here book.opened
  pub opened_at : length book.parameters < length opens → t.opened_at ≡ get_or opens (length book.parameters) 0
  pub sampled : Sampled t.sample book

-- as many rows as there may be
pub record Roomy (r : Rows) : Type 0 where
  pub words : length r.words ≡ pair_rows
  pub bits : length r.bits ≡ pair_rows
  pub kept : length r.kept ≡ parameter_rows

pub judging_start : {s : List ℕ} {r : Rows} {t : State} → length s ≤ 65536 → Roomy r → Starting t → Judging s r (record { at = 0; number = 0 }) t
unfolding words_of bits_of
judging_start {s} {r} {t} short m e =
    record {
      book = empty_book;
      opens = [];
      ready = record { inside = omega arith; counted = omega arith; short = short };
      mine = e.counts;
      sound = rw e.due (record { no_pairs = refl; no_parameters = refl; no_parts = refl });
      stands = rw e.due (record { shut = refl; count = refl });
      says = rw e.due (answer_start s short);
      paired = record { long = m.words; longs = m.bits; words = refl; bits = refl };
      long = m.kept;
      kept = kepts_none s;
      here = rw e.here (record { name = no_text s; mnemonic = no_text s; identification = no_text s });
      opened_at = λ l. absurd (omega arith);
      sampled = sampled_none t.sample empty_book e.sample refl refl;
    }

-- ---- the end

pub record Rest (K : Book) (os : List ℕ) : Type 0 where
  pub between : Between K
  pub resting : Resting K os

at_rest : (d : Due) (K : Book) (os : List ℕ) → may_end d ≡ true → Sound d K → Stands d K os → Rest K os
at_rest due.HeaderWord K os e a b = absurd (let z : ◌≡◌ {A = ℕ} 0 1 = cc in omega arith)
at_rest due.HeaderLine K os e a b = absurd (let z : ◌≡◌ {A = ℕ} 0 1 = cc in omega arith)
at_rest due.RecordWord K os e a b = absurd (let z : ◌≡◌ {A = ℕ} 0 1 = cc in omega arith)
at_rest due.RecordLine K os e a b = absurd (let z : ◌≡◌ {A = ℕ} 0 1 = cc in omega arith)
at_rest due.Opening K os e a b = absurd (let z : ◌≡◌ {A = ℕ} 0 1 = cc in omega arith)
at_rest due.NameLine K os e a b = absurd (let z : ◌≡◌ {A = ℕ} 0 1 = cc in omega arith)
at_rest due.FirstComponent K os e a b = absurd (let z : ◌≡◌ {A = ℕ} 0 1 = cc in omega arith)
at_rest due.NextComponent K os e a b = absurd (let z : ◌≡◌ {A = ℕ} 0 1 = cc in omega arith)
at_rest due.AfterSample K os e a b = absurd (let z : ◌≡◌ {A = ℕ} 0 1 = cc in omega arith)
at_rest due.SignedLine K os e a b = absurd (let z : ◌≡◌ {A = ℕ} 0 1 = cc in omega arith)
at_rest due.RangeLine K os e a b = absurd (let z : ◌≡◌ {A = ℕ} 0 1 = cc in omega arith)
at_rest due.SourceLine K os e a b = absurd (let z : ◌≡◌ {A = ℕ} 0 1 = cc in omega arith)
at_rest due.AfterSource K os e a b = absurd (let z : ◌≡◌ {A = ℕ} 0 1 = cc in omega arith)
at_rest due.SourceBlank K os e a b = absurd (let z : ◌≡◌ {A = ℕ} 0 1 = cc in omega arith)
at_rest due.AfterSourceBlank K os e a b = absurd (let z : ◌≡◌ {A = ℕ} 0 1 = cc in omega arith)
at_rest due.NextParameter K os e a b = record { between = a; resting = b }
at_rest due.Nothing K os e a b = record { between = a; resting = b }

module _ {s : List ℕ} {r : Rows} {c : Cursor} {t : State} (w : Judging s r c t) where
  pub judging_few : Few w.book w.opens
  judging_few = few t.due w.book w.opens w.sound w.stands

  pub judging_pairs : t.counts.pairs ≤ sheet_limits.subframes
  judging_pairs = rw w.mine judging_few.pairs

  pub judging_parameters : t.counts.parameters ≤ sheet_limits.parameters
  judging_parameters = rw w.mine judging_few.parameters

  pub judging_small : Small t.counts most_count
  judging_small = rw w.mine (small w.book w.opens judging_few)

  -- a raw line that is refused
  pub judging_raw : c.at < length s → (q : Refusal) → line_at s c ≡ Err q → refused q (c.number + 1) ≡ answer_of s
  judging_raw l q e =
      sym (answer_raw t.due w.book w.opens c.number (lines_of (drop c.at s)) q (lines_left s c.at l) (found_refused s c q e)) ∙ w.says

  ended : length s ≤ c.at → answer t.due w.book w.opens c.number none ≡ answer_of s
  ended l = ap (answer t.due w.book w.opens c.number) (sym (lines_none s c.at l)) ∙ w.says

  counted : t.counts.parameters ≡ length w.book.parameters
  counted = ap (λ (y : Tally). y.parameters) w.mine

  -- all lines stand
  rests : length s ≤ c.at → may_end t.due ≡ true → identified_in t.counts (take t.counts.parameters r.kept) ≡ answer_of s
  rests l e =
      let K = w.book in
      let z = at_rest t.due K w.opens e w.sound w.stands in
      let d : t.counts.declared ≡ subframes (content_of K) = ap (λ (y : Tally). y.declared) w.mine ∙ sym z.between.ground.long in
      ap (λ (n : ℕ). identified_in t.counts (take n r.kept)) counted
      ∙ (identified_is (content_of K) z.between.whole.each s w.opens (take (length K.parameters) r.kept) w.kept t.counts counted d
      ∙ (ap (verdict_of (identified (content_of K) w.opens)) w.mine
      ∙ (sym (answer_end t.due K w.opens c.number e) ∙ ended l)))

  end_by : length s ≤ c.at → (b : Bool) → may_end t.due ≡ b → ended_in t (c.number + 1) r ≡ answer_of s
  unfolding ended_in
  end_by l true e = rw e (rests l e)
  end_by l false e = rw e (sym (answer_due t.due w.book w.opens c.number e) ∙ ended l)

  pub judging_end : length s ≤ c.at → ended_in t (c.number + 1) r ≡ answer_of s
  judging_end l = end_by l (may_end t.due) refl
