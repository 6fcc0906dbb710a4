-- Backwards: a sheet that is written to say a Content is accepted with it. Assumes nothing.
use mathlib.Core.Path.{◌≡◌, refl, sym, ap, ◌∙◌}
use mathlib.Core.Logic.{◌⊎◌, inl, inr}
use mathlib.Core.Bool.{Bool, true, false, not, cond}
use mathlib.Core.List.{List, [], ◌∷◌, ◌++◌, append-nil}
use Prim.Native.Nat.{ℕ, ◌+◌}
use native.Mathlib.Omega.{arith}
use borrow.Author.Tests.{eqb-false, le-ltb}
use lib.Dec.{eqb, ltb}
use lib.ListN.{length, get_or}
use Rattle.lay.specs.Below.{all}
use Rattle.lay.proofs.Tests.{rule}
use Rattle.lay.proofs.Below.{all_below, find_none}
use Rattle.text.specs.declared.refusal.Refusal.TheVariants.{BadIdentifiers}
use Rattle.lines.specs.Lines.{Lines, none, unended, line, lines_of}
use Rattle.lineforms.specs.Forms.{due_after}
use Rattle.lineforms.specs.declared.due.Due.{Due}
use Rattle.lineforms.specs.declared.due.Due.TheVariants as due
use Rattle.model.specs.Content.{Content, parameters, subframes}
use Rattle.model.specs.Forms.{sheet_limits}
use Rattle.model.specs.Identifiers.{identifies, taken, identifiers_ok}
use Rattle.model.specs.Meaning.{Lawful, IdentifiersLaw}
use Rattle.model.proofs.Meanings.{lawful_law, identifiers_made}
use Rattle.gather.specs.Book.{Book, empty_book, grow, content_of}
use Rattle.gather.specs.Ruling.{Accepted, Refused, first_bad, identified, at_end, opens, run, judge_of}
use Rattle.grammar.specs.Items.{Item}
use Rattle.grammar.specs.Written.{Line, Written}
use Rattle.grammar.specs.Says.{record_lines, component_lines, sample_lines, source_lines, Told, parameters_of, parameter_lines, body_lines, Says, sheet_lines}
use Rattle.grammar.proofs.Partings.{fields_clean}
use Rattle.grammar.proofs.Ended.{lines_written}
use Rattle.grammar.proofs.Left.{Left, Grows}
use Rattle.grammar.proofs.Passings.{passing}
use Rattle.grammar.proofs.ReadLines.{Begun, Step, none_left, reads_header_word, reads_header, reads_record_word, reads_record}
use Rattle.grammar.proofs.ReadNames.{reads_opening, reads_next, reads_name}
use Rattle.grammar.proofs.ReadSamples.{reads_first_component, reads_next_component, reads_after_sample}
use Rattle.grammar.proofs.ReadEnds.{reads_signed, reads_range, reads_source, reads_after_source, reads_source_blank, reads_source_ends}

-- ---- a line, whatever is due

pub reads : (d : Due) (K : Book) (l : List ℕ) (c : Content) (items : List Item) (ls : List (List Item)) → Lawful sheet_limits c → Begun d K → Line l items → Left d K c (items ∷ ls) → Step d K l c ls
reads due.HeaderWord K l c items ls h b r x = reads_header_word K l c items ls h r x
reads due.HeaderLine K l c items ls h b r x = reads_header K l c items ls h r x
reads due.RecordWord K l c items ls h b r x = reads_record_word K l c items ls h r x
reads due.RecordLine K l c items ls h b r x = reads_record K l c items ls h r x
reads due.Opening K l c items ls h b r x = reads_opening K l c items ls h r b x
reads due.NameLine K l c items ls h b r x = reads_name K l c items ls h r x
reads due.FirstComponent K l c items ls h b r x = reads_first_component K l c items ls h r x
reads due.NextComponent K l c items ls h b r x = reads_next_component K l c items ls h r x
reads due.AfterSample K l c items ls h b r x = reads_after_sample K l c items ls h r x
reads due.SignedLine K l c items ls h b r x = reads_signed K l c items ls h r x
reads due.RangeLine K l c items ls h b r x = reads_range K l c items ls h r x
reads due.SourceLine K l c items ls h b r x = reads_source K l c items ls h r x
reads due.AfterSource K l c items ls h b r x = reads_after_source K l c items ls h r x
reads due.SourceBlank K l c items ls h b r x = reads_source_blank K l c items ls h r x
reads due.AfterSourceBlank K l c items ls h b r x = reads_source_ends K l c items ls h r x
reads due.NextParameter K l c items ls h b r x = reads_next K l c items ls h r x
reads due.Nothing K l c items ls h b r x = none_left (sym x.lines)

-- ---- 16, after the last line

module _ (c : Content) where
  -- no identifier breaks a rule
  all_identify : identifiers_ok c ≡ true → first_bad c ≡ parameters c
  unfolding first_bad identifiers_ok
  all_identify e =
      let a : all (parameters c) (identifies c) ≡ true = rule _ e 0 in
      find_none (parameters c) (λ i. not (identifies c i)) (λ k l. rw (all_below (parameters c) (identifies c) a k l))

  lawful_identified : (os : List ℕ) → Lawful sheet_limits c → identified c os ≡ Accepted c
  unfolding identified
  lawful_identified os h = go (eqb (parameters c) 0) refl h.identifiers
    where
      go : (t : Bool) → eqb (parameters c) 0 ≡ t → (parameters c ≡ 0) ⊎ IdentifiersLaw c
          → cond t (Accepted c)
          (cond (ltb (first_bad c) (parameters c)) (Refused BadIdentifiers (get_or os (first_bad c) 0))
          (cond (all (subframes c) (λ s. taken c (s + 1))) (Accepted c) (Refused BadIdentifiers 0)))
          ≡ Accepted c
      go true q i = refl
      go false q (inl e) = absurd (eqb-false (parameters c) 0 q e)
      go false q (inr i) =
          let o = identifiers_made c i in
          let n : ltb (first_bad c) (parameters c) ≡ false = le-ltb (first_bad c) (parameters c) (omega (arith, all_identify o)) in
          let t : all (subframes c) (λ s. taken c (s + 1)) ≡ true = unfold identifiers_ok in rule _ o 1 in
          rw (n, t)

-- what has been gathered where nothing more comes
grows_content : (K : Book) (c : Content) → Grows K c [] → content_of K ≡ c
grows_content K c m =
    let p : c.parameters ≡ K.parameters = m.list ∙ append-nil K.parameters in
    rw (← m.sequential, ← m.subframes, ← p)

grows_accepted : (K : Book) (os : List ℕ) (c : Content) → Lawful sheet_limits c → Grows K c [] → identified (content_of K) os ≡ Accepted c
grows_accepted K os c h m = rw (grows_content K c m) (lawful_identified c os h)

-- ---- the end of the sheet

-- a line is left
some_left : {A : Type 0} (xs : List (List Item)) (y : List Item) (ys : List (List Item)) → [] ≡ xs ++ (y ∷ ys) → A
some_left [] y ys e = none_left e
some_left (x ∷ xs) y ys e = none_left e

body_left : {A : Type 0} (xs : List (List Item)) (told : List Told) → [] ≡ xs ++ body_lines told → A
body_left xs [] e = some_left xs _ _ e
body_left xs (t ∷ ts) e = some_left xs _ _ e

module _ (K : Book) (os : List ℕ) (k : ℕ) (c : Content) (h : Lawful sheet_limits c) where
  parameters_end : (told : List Told) → [] ≡ parameter_lines told → Grows K c (parameters_of told) → identified (content_of K) os ≡ Accepted c
  parameters_end [] e m = grows_accepted K os c h m
  parameters_end (t ∷ ts) e m = none_left e

  end_accepts : (d : Due) → Left d K c [] → at_end d K os k ≡ Accepted c
  end_accepts due.HeaderWord x = none_left x.lines
  end_accepts due.HeaderLine x = none_left x.lines
  end_accepts due.RecordWord x = body_left (record_lines x.left.pairs) x.left.told x.left.lines
  end_accepts due.RecordLine x = none_left x.lines
  end_accepts due.Opening x = body_left (record_lines x.pairs) x.told x.lines
  end_accepts due.NameLine x = none_left x.lines
  end_accepts due.FirstComponent x = some_left (sample_lines x.left.samples) _ _ x.left.lines
  end_accepts due.NextComponent x = some_left (component_lines x.parts) _ _ x.lines
  end_accepts due.AfterSample x = some_left (sample_lines x.samples) _ _ x.lines
  end_accepts due.SignedLine x = none_left x.lines
  end_accepts due.RangeLine x = none_left x.lines
  end_accepts due.SourceLine x = some_left (source_lines (x.source ∷ x.others)) _ _ x.lines
  end_accepts due.AfterSource (inl x) = none_left x.lines
  end_accepts due.AfterSource (inr x) = none_left x.lines
  end_accepts due.SourceBlank x = none_left x.lines
  end_accepts due.AfterSourceBlank x = some_left (source_lines x.sources) _ _ x.lines
  end_accepts due.NextParameter x = parameters_end x.told x.lines x.made
  end_accepts due.Nothing x = grows_accepted K os c h x.made

-- ---- the lines

-- each line is written as its items say
abbrev AreLines : Lines → List (List Item) → Type 0
AreLines none [] = Unit {0}
AreLines none (items ∷ rest) = ⊥
AreLines (unended l) lines = ⊥
AreLines (line l ls) [] = ⊥
AreLines (line l ls) (items ∷ rest) = Line l items × AreLines ls rest

run_accepts : (d : Due) (K : Book) (os : List ℕ) (k : ℕ) (ls : Lines) (lines : List (List Item)) (c : Content) → Lawful sheet_limits c → Begun d K → AreLines ls lines → Left d K c lines → run d K os k ls ≡ Accepted c
unfolding run
run_accepts d K os k none [] c h b w x = end_accepts K os (k + 1) c h d x
run_accepts d K os k none (items ∷ rest) c h b w x = absurd w
run_accepts d K os k (unended l) lines c h b w x = absurd w
run_accepts d K os k (line l ls) [] c h b w x = absurd w
run_accepts d K os k (line l ls) (items ∷ rest) c h b w x =
    let s = reads d K l c items rest h b w.0 x in
    let f = s.form in
    rw (s.is, passing f K l s.pass)
    (run_accepts (due_after f) (grow f l K) (opens f (k + 1) os) (k + 1) ls rest c h s.begun w.1 s.left)

-- ---- the sheet

written_lines : (x : List ℕ) (lines : List (List Item)) → Written x lines → AreLines (lines_of x) lines
unfolding lines_of
written_lines x [] w = rw w tt
written_lines x (items ∷ lines) w =
    let e = ap lines_of w.2 ∙ lines_written w.0 w.1 (fields_clean w.0 items w.3.fields) in
    rw e (w.3, written_lines w.1 lines w.4)

pub says_accepted : (x : List ℕ) (c : Content) → Says x c → judge_of x ≡ Accepted c
unfolding judge_of
says_accepted x c s =
    let w = written_lines x (sheet_lines c s.pairs s.told) s.written in
    rw (le-ltb 65536 (length x) s.short)
    (run_accepts due.HeaderWord empty_book [] 0 (lines_of x) (sheet_lines c s.pairs s.told) c (lawful_law sheet_limits c s.lawful) tt w
    (record {
      rest = _;
      lines = refl;
      left =
          record {
            pairs = s.pairs;
            told = s.told;
            declare = s.declare;
            list = s.list;
            lines = refl;
            no_pairs = refl;
            no_parameters = refl;
            no_parts = refl;
          };
    }))
