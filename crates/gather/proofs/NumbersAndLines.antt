-- Which numbers a sheet is refused by, and at which lines: "A sheet's refusal carries a line number from 1 (0 for 1, 17 and
-- an untaken subframe)". 17 comes later. Assumes nothing.
use Prim.Native.Nat.{ℕ, ◌+◌, ◌<◌, ◌≤◌}
use native.Mathlib.Omega.{arith}
use mathlib.Core.Path.{◌≡◌, refl, sym, ap, ◌∙◌}
use mathlib.Core.Bool.{Bool, true, false, cond}
use mathlib.Core.List.{List, []}
use mathlib.Core.Logic.{◌⊎◌, ◌↔◌, inl, inr, ⊎_elim}
use borrow.Author.Tests.{leb-true, ltb-true, ltb-false}
use lib.Dec.{leb, ltb}
use lib.ListN.{length, get_or}
use Rattle.lay.proofs.Tests.{and_0, and_1}
use Rattle.text.specs.Blanks.{trim}
use Rattle.text.specs.Keywords.{parameter_word}
use Rattle.text.specs.Refusals.{refusal_number}
use Rattle.text.specs.declared.refusal.Refusal.{Refusal}
use Rattle.text.specs.declared.refusal.Refusal.TheVariants.{SheetTooLong, Unended, BadIdentifiers}
use Rattle.lines.specs.Lines.{lines_of}
use Rattle.lineforms.specs.declared.due.Due.{Due}
use Rattle.lineforms.specs.declared.due.Due.TheVariants as due
use Rattle.model.specs.Content.{Content, parameters}
use Rattle.gather.specs.Book.{content_of}
use Rattle.gather.specs.Ruling.{Ruling, Refused, first_bad, run, longest_sheet, judge_of}
use Rattle.gather.proofs.Stages.{lines, whole, line_of, start, reached, tests_at, AllPass, opened, Course, stops, breaks, ends, course}
use Rattle.gather.proofs.OwnRefusals.{of_line, line_own}
use Rattle.gather.proofs.FirstHits.{not_own}
use Rattle.gather.proofs.AfterLast.{may_end, Untaken, Unidentified, end_refused}
use Rattle.gather.proofs.ParameterLines.{parameter_lines, lines_kept, word_after, open_in, count_kept}

-- what the lines of a sheet gather to
abbrev pub gathered : List ℕ → Content
gathered s = content_of (reached (lines (lines_of s)) start (lines_of s)).book

-- line k is the word `PARAMETER:`, that of the first parameter that breaks 16: there is one such line for each parameter
pub record ParameterLine (s : List ℕ) (k : ℕ) : Type 0 where
  pub behind : ℕ
  pub counted : k ≡ behind + 1
  pub inside : behind < lines (lines_of s)
  pub word : trim (line_of behind (lines_of s)) ≡ parameter_word
  pub bad : first_bad (gathered s) < parameters (gathered s)
  pub each : length (parameter_lines 0 (lines_of s)) ≡ parameters (gathered s)
  pub own : k ≡ get_or (parameter_lines 0 (lines_of s)) (first_bad (gathered s)) 0

-- "16 comes after the last line": every line has its end byte and passes
pub record AllRead (s : List ℕ) : Type 0 where
  pub ended : whole (lines_of s) ≡ true
  pub passed : (i : ℕ) → i < lines (lines_of s) → AllPass (tests_at i start (lines_of s))

-- a refusal's number and line are such as 01 names
pub record Sensible (s : List ℕ) (r : Refusal) (k : ℕ) : Type 0 where
  pub least : 1 ≤ refusal_number r
  pub most : refusal_number r ≤ 16
  -- 1 exactly above 65,536 bytes, and at 0; else the line is 0 only for 16
  pub long : (r ≡ SheetTooLong) ↔ (longest_sheet < length s)
  pub unread : r ≡ SheetTooLong → k ≡ 0
  pub unlined : k ≡ 0 → (r ≡ SheetTooLong) ⊎ (r ≡ BadIdentifiers)
  -- 4 exactly at the line after the last that has its end byte
  pub within : k ≤ lines (lines_of s) + 1
  pub beyond : (k ≡ lines (lines_of s) + 1) ↔ (r ≡ Unended)
  -- 16 comes after the last line; at a line it is at a `PARAMETER:`, and at 0 it is for an untaken subframe
  pub last : r ≡ BadIdentifiers → AllRead s
  pub word : r ≡ BadIdentifiers → (k ≡ 0 → ⊥) → ParameterLine s k
  pub untaken : r ≡ BadIdentifiers → k ≡ 0 → Untaken (gathered s)

none_open : (d : Due) → may_end d ≡ true → open_in d ≡ 0
none_open due.HeaderWord e = refl
none_open due.HeaderLine e = refl
none_open due.RecordWord e = refl
none_open due.RecordLine e = refl
none_open due.Opening e = refl
none_open due.NameLine e = absurd (cc)
none_open due.FirstComponent e = absurd (cc)
none_open due.NextComponent e = absurd (cc)
none_open due.AfterSample e = absurd (cc)
none_open due.SignedLine e = absurd (cc)
none_open due.RangeLine e = absurd (cc)
none_open due.SourceLine e = absurd (cc)
none_open due.AfterSource e = absurd (cc)
none_open due.SourceBlank e = absurd (cc)
none_open due.AfterSourceBlank e = absurd (cc)
none_open due.NextParameter e = refl
none_open due.Nothing e = refl

own_least : (r : Refusal) → of_line r ≡ true → 2 ≤ refusal_number r
own_least r o = leb-true 2 (refusal_number r) (and_0 _ _ o)

own_most : (r : Refusal) → of_line r ≡ true → refusal_number r ≤ 15
own_most r o = leb-true (refusal_number r) 15 (and_0 _ _ (and_1 (leb 2 (refusal_number r)) _ o))

-- a sheet that is not too long is not refused for that
short : (s : List ℕ) (r : Refusal) → length s ≤ longest_sheet → (r ≡ SheetTooLong → ⊥) → (r ≡ SheetTooLong) ↔ (longest_sheet < length s)
short s r l n = ((λ e. absurd (n e)), (λ h. absurd (omega arith)))

-- a refusal of a line itself
at_line : (s : List ℕ) (r : Refusal) (i : ℕ) → length s ≤ longest_sheet → of_line r ≡ true → i < lines (lines_of s) → Sensible s r (i + 1)
at_line s r i l o h =
    let other : r ≡ BadIdentifiers → ⊥ = λ e. let n : refusal_number r ≡ 16 = ap refusal_number e in omega (arith, own_most r o) in
    let a = own_least r o in
    let b = own_most r o in
    record {
      least = omega arith;
      most = omega arith;
      long = short s r l (λ e. let n : refusal_number r ≡ 1 = ap refusal_number e in omega arith);
      unread = λ e. let n : refusal_number r ≡ 1 = ap refusal_number e in absurd (omega arith);
      unlined = λ e. absurd (omega arith);
      within = omega arith;
      beyond = ((λ e. absurd (omega arith)), (λ e. absurd (not_own r Unended o (sym e) refl)));
      last = λ e. absurd (other e);
      word = λ e k. absurd (other e);
      untaken = λ e k. absurd (other e);
    }

-- a refusal for an end
at_end_lem : (s : List ℕ) → length s ≤ longest_sheet → Sensible s Unended (lines (lines_of s) + 1)
at_end_lem s l =
    record {
      least = omega arith;
      most = omega arith;
      long = short s Unended l (λ e. cc);
      unread = λ e. absurd (cc);
      unlined = λ e. absurd (omega arith);
      within = omega arith;
      beyond = ((λ e. refl), (λ e. refl));
      last = λ e. absurd (cc);
      word = λ e k. absurd (cc);
      untaken = λ e k. absurd (cc);
    }

-- 16, at 0 or at a word
module _ (s : List ℕ) (l : length s ≤ longest_sheet) (ended : whole (lines_of s) ≡ true) (all_pass : (i : ℕ) → i < lines (lines_of s) → AllPass (tests_at i start (lines_of s)))
    (done : may_end (reached (lines (lines_of s)) start (lines_of s)).due ≡ true) where
  kept : opened start 0 [] (lines_of s) ≡ parameter_lines 0 (lines_of s)
  kept = lines_kept start 0 [] (lines_of s) all_pass

  as_many : length (parameter_lines 0 (lines_of s)) ≡ parameters (gathered s)
  as_many =
      let c = count_kept start 0 [] (lines_of s) all_pass refl in
      let n = none_open (reached (lines (lines_of s)) start (lines_of s)).due done in
      ap length (sym kept) ∙ omega arith

  at_word : (k : ℕ) → first_bad (gathered s) < parameters (gathered s) → k ≡ get_or (opened start 0 [] (lines_of s)) (first_bad (gathered s)) 0 → ParameterLine s k
  at_word k h e =
      let o : k ≡ get_or (parameter_lines 0 (lines_of s)) (first_bad (gathered s)) 0 = e ∙ ap (λ (os : List ℕ). get_or os (first_bad (gathered s)) 0) kept in
      let m = as_many in
      let w = word_after 0 (lines_of s) (first_bad (gathered s)) (omega arith) in
      record {
        behind = w.behind;
        counted = omega (arith, w.counted);
        inside = w.inside;
        word = w.word;
        bad = h;
        each = m;
        own = o;
      }

  at_identifiers : (r : Refusal) (k : ℕ) → Unidentified (gathered s) (opened start 0 [] (lines_of s)) r k → Sensible s r k
  at_identifiers r k u = rw u.number (⊎_elim (λ p. at_none p.0 p.1) (λ p. at_some (at_word k p.0 p.1)) u.place)
    where
      at_none : k ≡ 0 → Untaken (gathered s) → Sensible s BadIdentifiers k
      at_none z t =
          record {
            least = omega arith;
            most = omega arith;
            long = short s BadIdentifiers l (λ e. cc);
            unread = λ e. z;
            unlined = λ e. inr refl;
            within = omega arith;
            beyond = ((λ e. absurd (omega arith)), (λ e. absurd (cc)));
            last = λ e. record { ended = ended; passed = all_pass };
            word = λ e n. absurd (n z);
            untaken = λ e n. t;
          }

      at_some : ParameterLine s k → Sensible s BadIdentifiers k
      at_some p =
          record {
            least = omega arith;
            most = omega arith;
            long = short s BadIdentifiers l (λ e. cc);
            unread = λ e. absurd (cc);
            unlined = λ e. inr refl;
            within = omega (arith, p.counted, p.inside);
            beyond = ((λ e. absurd (omega (arith, p.counted, p.inside))), (λ e. absurd (cc)));
            last = λ e. record { ended = ended; passed = all_pass };
            word = λ e n. p;
            untaken = λ e n. absurd (omega (arith, p.counted));
          }

of_lines : (s : List ℕ) (r : Refusal) (k : ℕ) → length s ≤ longest_sheet → run start.due start.book [] 0 (lines_of s) ≡ Refused r k → Sensible s r k
of_lines s r k l e = go (course start 0 [] (lines_of s)) e
  where
    go : {v : Ruling} → Course start 0 [] (lines_of s) v → v ≡ Refused r k → Sensible s r k
    go (stops i h a q p) u =
        let q-is : r ≡ q = cc in
        let k-is : k ≡ 0 + i + 1 = cc in
        let k-also : k ≡ i + 1 = omega arith in
        rw (q-is, k-also) (at_line s q i l (line_own (reached i start (lines_of s)) (line_of i (lines_of s)) q p) h)
    go (breaks w a) u =
        let q-is : r ≡ Unended = cc in
        let k-is : k ≡ 0 + lines (lines_of s) + 1 = cc in
        let k-also : k ≡ lines (lines_of s) + 1 = omega arith in
        rw (q-is, k-also) (at_end_lem s l)
    go (ends w a) u =
        ⊎_elim
        (λ y. let k-is = y.2 in let k-also : k ≡ lines (lines_of s) + 1 = omega arith in rw (y.1, k-also) (at_end_lem s l))
        (λ y. at_identifiers s l w a y.0 r k y.1)
        (end_refused (reached (lines (lines_of s)) start (lines_of s)).due (reached (lines (lines_of s)) start (lines_of s)).book (opened start 0 [] (lines_of s)) (0 + lines (lines_of s) + 1) r k u).either

pub refused_sensibly : (s : List ℕ) (r : Refusal) (k : ℕ) → judge_of s ≡ Refused r k → Sensible s r k
unfolding judge_of
refused_sensibly s r k e = go (ltb longest_sheet (length s)) refl e
  where
    go : (t : Bool) → ltb longest_sheet (length s) ≡ t → cond t (Refused SheetTooLong 0) (run start.due start.book [] 0 (lines_of s)) ≡ Refused r k → Sensible s r k
    go true b h =
        let q-is : r ≡ SheetTooLong = cc in
        let k-is : k ≡ 0 = cc in
        rw (q-is, k-is)
        (record {
          least = omega arith;
          most = omega arith;
          long = ((λ x. ltb-true longest_sheet (length s) b), (λ x. refl));
          unread = λ x. refl;
          unlined = λ x. inl refl;
          within = omega arith;
          beyond = ((λ x. absurd (omega arith)), (λ x. absurd (cc)));
          last = λ x. absurd (cc);
          word = λ x n. absurd (n refl);
          untaken = λ x n. absurd (cc);
        })
    go false b h = of_lines s r k (ltb-false longest_sheet (length s) b) h
