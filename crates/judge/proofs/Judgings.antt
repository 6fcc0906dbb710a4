-- A line that is found: refused, or gathered with everything known again. Assumes nothing.
use mathlib.Core.Path.{◌≡◌, sym, ap, ap₂, ◌∙◌}
use mathlib.Core.Bool.{true}
use mathlib.Core.List.{List, ◌∷◌}
use Prim.Native.Nat.{ℕ, ◌+◌, ◌-◌, ◌≤◌, ◌<◌}
use native.Mathlib.Omega.{arith}
use lib.ListN.{length, take, drop, set, get_or, length-set, length-take}
use Rattle.std.specs.Prelude.{Ok, Err}
use Rattle.text.specs.Refusals.{Judged, first, or_else}
use Rattle.text.specs.declared.refusal.Refusal.{Refusal}
use Rattle.lines.specs.Line.{raw_hits}
use Rattle.lines.specs.Lines.{Lines, line, lines_of}
use Rattle.lines.specs.Order.{line_judged}
use Rattle.lines.specs.declared.Cursor.{Cursor}
use Rattle.lines.proofs.Cuts.{head_judged, Next}
use Rattle.lineforms.specs.Forms.{form_of, due_after}
use Rattle.lineforms.specs.declared.due.Form.{Form}
use Rattle.lineforms.specs.declared.due.Form.TheVariants as form
use Rattle.model.specs.Content.{Parameter}
use Rattle.gather.specs.Book.{Book, grow, words_of, bits_of}
use Rattle.gather.specs.Tests.{due_test, room_test, field_tests, sample_test, names_test, tests_of}
use Rattle.gather.specs.Ruling.{form_at, opens as opens_of}
use Rattle.gather.proofs.Sound.{Sound, Told}
use Rattle.gather.proofs.Tellings.{told}
use Rattle.gather.proofs.Steps.{sound_step}
use Rattle.judge.specs.Counts.{tally_of, counted_of}
use Rattle.judge.specs.Keeping.{words_said, bits_said, is_good, home_of, good_in}
use Rattle.judge.specs.LineTests.{form_tests, Fitting}
use Rattle.judge.specs.Names.{names_in}
use Rattle.judge.specs.Rows.{kept_in, rows_set}
use Rattle.judge.specs.Sampling.{sample_in, Apt}
use Rattle.judge.specs.Turns.{form_here, judged_in, Steady, Gone}
use Rattle.judge.specs.Walk.{refused}
use Rattle.judge.specs.declared.rows.Rows.{Rows}
use Rattle.judge.specs.declared.sampling.Sampling.{Sampling}
use Rattle.judge.specs.declared.tally.Tally.{Tally}
use Rattle.judge.specs.declared.turn.State.{State}
use Rattle.judge.proofs.Growing.{Fresh, tally_grow}
use Rattle.judge.proofs.TestLaws.{tests_gathered}
use Rattle.judge.proofs.FittingLaws.{else_0, fitting_apt}
use Rattle.judge.proofs.Arrays.{Keeps, paired_step, kept_step, opened_step}
use Rattle.judge.proofs.Standing.{Held, held, stands_step}
use Rattle.judge.proofs.Sampled.{Sampled, sampled_step, sample_is, fitting}
use Rattle.judge.proofs.Apart.{names_is, here_step}
use Rattle.judge.proofs.Runs.{answer, line_tests, answer_passes, answer_refused, answer_of}
use Rattle.judge.proofs.Judging.{Judging, judging_few, judging_small}

-- where a parameter opens, none is open
fresh : (f : Form) (K : Book) (os : List ℕ) → Held f K os → Fresh f K
fresh form.Stray K os h = tt
fresh form.Superframe K os h = tt
fresh form.HeaderWord K os h = tt
fresh form.HeaderLine K os h = tt
fresh form.RecordWord K os h = tt
fresh form.RecordLine K os h = tt
fresh form.NoneWord K os h = tt
fresh form.ParameterWord K os h = tt
fresh form.NameLine K os h = ap (λ (p : Parameter). p.samples) h.shut
fresh form.OpeningComponent K os h = tt
fresh form.ComponentLine K os h = tt
fresh form.TimeLine K os h = tt
fresh form.SamplesEnd K os h = tt
fresh form.SignedLine K os h = tt
fresh form.RangeLine K os h = tt
fresh form.SourceLine K os h = tt
fresh form.LabelLine K os h = tt
fresh form.SourceEnd K os h = tt
fresh form.ParameterEnd K os h = tt

-- the raw line passes
raw_passes : (ls : Lines) (l : List ℕ) (rest : Lines) → ls ≡ line l rest → head_judged ls ≡ Ok tt → first (raw_hits true l) ≡ Ok tt
unfolding head_judged
raw_passes ls l rest e h = sym (ap head_judged e) ∙ h

-- what is kept of an identifier is what is counted of it
good_kept : (K : Book) (g : Sampling) → Sampled g K → good_in (tally_of K) g ≡ is_good K.opened
unfolding good_in is_good
good_kept K g h = rw (h.whole.within, h.whole.first)

module _ {s : List ℕ} {rs : Rows} {c : Cursor} {t : State} (w : Judging s rs c t) (l : List ℕ) {f : Form} (e : f ≡ form_here t l) where
  abbrev K : Book
  K = w.book

  same_form : f ≡ form_at t.due K l
  same_form = e ∙ ap (λ (y : Tally). form_of t.due y.pairs y.declared l) w.mine

  now_told : Told f K
  now_told = rw same_form (told K l t.due w.sound)

  now_held : Held f K w.opens
  now_held = rw same_form (held t.due K w.opens l w.stands)

  pub judging_fitting : Fitting f t.counts t.sample
  judging_fitting = rw w.mine (fitting f K t.sample now_told w.sampled)

  own_is : t.counts.own ≡ length K.opened.samples
  own_is = ap (λ (y : Tally). y.own) w.mine

  parts_is : t.counts.parts ≡ length K.parts
  parts_is = ap (λ (y : Tally). y.parts) w.mine

  pairs_is : t.counts.pairs ≡ length K.pairs
  pairs_is = ap (λ (y : Tally). y.pairs) w.mine

  parameters_is : t.counts.parameters ≡ length K.parameters
  parameters_is = ap (λ (y : Tally). y.parameters) w.mine

  form_is : form_tests f t.counts (take t.counts.pairs rs.words) (take t.counts.pairs rs.bits) l ≡ first (due_test f ∷ room_test f K ∷ field_tests f K l)
  form_is =
      ap₂ (λ (a b : List ℕ). form_tests f t.counts a b l)
      (ap (λ (n : ℕ). take n rs.words) pairs_is ∙ w.paired.words)
      (ap (λ (n : ℕ). take n rs.bits) pairs_is ∙ w.paired.bits)
      ∙ (ap (λ (y : Tally). form_tests f y (words_of K.pairs) (bits_of K.pairs) l) w.mine ∙ tests_gathered f l K)

  texts_is : names_in f s (take t.counts.parameters rs.kept) l ≡ names_test f K l
  texts_is =
      ap (λ (n : ℕ). names_in f s (take n rs.kept) l) parameters_is
      ∙ names_is f s l K (take (length K.parameters) rs.kept) (record { long = w.kept.long; each = λ k m. (w.kept.each k m).places })

  tests_are : judged_in f s l t rs ≡ or_else (or_else (first (due_test f ∷ room_test f K ∷ field_tests f K l)) (sample_test f K l)) (names_test f K l)
  unfolding judged_in
  tests_are = ap₂ or_else (ap₂ or_else form_is (sample_is f l K t.sample t.counts.own own_is w.sampled)) texts_is

  passed_apt : judged_in f s l t rs ≡ Ok tt → Apt f t.sample
  unfolding judged_in
  passed_apt r =
      let a = form_tests f t.counts (take t.counts.pairs rs.words) (take t.counts.pairs rs.bits) l in
      let b = sample_in f l t.sample t.counts.own in
      fitting_apt f t.counts t.sample (take t.counts.pairs rs.words) (take t.counts.pairs rs.bits) l judging_fitting
      (else_0 a b (else_0 (or_else a b) (names_in f s (take t.counts.parameters rs.kept) l) r))

  module _ {st en : ℕ} {nx : Cursor} (k : Next s c st en nx) (p : l ≡ take (en - st) (drop st s)) where
    cut : lines_of (drop c.at s) ≡ line l (lines_of (drop nx.at s))
    cut = k.cut ∙ ap (λ (m : List ℕ). line m (lines_of (drop nx.at s))) (sym p)

    judged_is : line_judged true l (tests_of f K l) ≡ judged_in f s l t rs
    judged_is =
        line_tests l f K
        ∙ (ap (λ (i : Judged). or_else i (or_else (or_else (first (due_test f ∷ room_test f K ∷ field_tests f K l)) (sample_test f K l)) (names_test f K l))) (raw_passes (lines_of (drop c.at s)) l (lines_of (drop nx.at s)) cut k.passes)
        ∙ sym tests_are)

    judged_at : line_judged true l (tests_of (form_at t.due K l) K l) ≡ judged_in f s l t rs
    judged_at = ap (λ (i : Form). line_judged true l (tests_of i K l)) (sym same_form) ∙ judged_is

    says_line : answer t.due K w.opens c.number (line l (lines_of (drop nx.at s))) ≡ answer_of s
    says_line = ap (answer t.due K w.opens c.number) (sym cut) ∙ w.says

    pub judging_refused : (q : Refusal) → judged_in f s l t rs ≡ Err q → refused q (c.number + 1) ≡ answer_of s
    judging_refused q r = sym (answer_refused t.due K w.opens c.number l (lines_of (drop nx.at s)) q (judged_at ∙ r)) ∙ says_line

    module _ (r : judged_in f s l t rs ≡ Ok tt) where
      pub judging_steady : Steady f l st t
      judging_steady =
          let m : length l ≤ en - st = rw p (omega (arith, length-take (en - st) (drop st s))) in
          record {
            apt = passed_apt r;
            small = judging_small w;
            place = omega (arith, k.ordered, k.ends, k.ready.inside, k.ready.short);
            long = omega (arith, k.ends, k.ready.inside, k.ready.short);
          }

      sound_now : Sound (due_after f) (grow f l K)
      sound_now = rw same_form (sound_step t.due K l w.sound (judged_at ∙ r))

      says_now : answer (due_after f) (grow f l K) (opens_of f (c.number + 1) w.opens) nx.number (lines_of (drop nx.at s)) ≡ answer_of s
      says_now = rw (k.counts, same_form) (sym (answer_passes t.due K w.opens c.number l (lines_of (drop nx.at s)) (judged_at ∙ r)) ∙ says_line)

      -- what is kept of the open parameter
      keeps_here : (length K.parameters < length w.opens) → Keeps s K.opened (get_or w.opens (length K.parameters) 0) (kept_in t)
      unfolding home_of
      keeps_here m =
          record {
            places = w.here;
            identifier = ap (λ (y : Tally). y.identifier) w.mine;
            good = ap (λ (y : Tally). good_in y t.sample) w.mine ∙ good_kept K t.sample w.sampled;
            home = w.sampled.whole.lies;
            value = ap (λ (y : Tally). y.value) w.mine;
            opened_at = w.opened_at m;
          }

      -- the rows with one stored behind those that stay
      stored : ℕ → ℕ → Rows
      stored i j = record { words = set rs.words i (words_said f l); bits = set rs.bits i (bits_said f l); kept = set rs.kept j (kept_in t) }

      pub judging_next : {qs : Rows} {r' : State} → qs ≡ rows_set f l t rs → Gone f l st (c.number + 1) t r' → Judging s qs nx r'
      unfolding stored
      judging_next {qs} {r'} eq g =
          let inside : st + (en - st) ≤ length s = omega (arith, k.ordered, k.ends, k.ready.inside) in
          rw (eq ∙ ap₂ stored pairs_is parameters_is)
          (record {
            book = grow f l K;
            opens = opens_of f (c.number + 1) w.opens;
            ready = k.ready;
            mine = g.counts ∙ (ap (counted_of f l) w.mine ∙ tally_grow f l K (fresh f K w.opens now_held));
            sound = rw g.due sound_now;
            stands = rw g.due (stands_step f K w.opens l (c.number + 1) now_held now_told (judged_is ∙ r) sound_now);
            says = rw g.due says_now;
            paired = paired_step f l K rs.words rs.bits w.paired (judging_few w).pairs;
            long = length-set rs.kept (length K.parameters) (kept_in t) ∙ w.long;
            kept = kept_step f l K s w.opens (c.number + 1) rs.kept (kept_in t) now_held w.kept (omega (arith, w.long, (judging_few w).parameters)) keeps_here;
            here = rw g.here (here_step f l K s st (en - st) t.here p inside w.here);
            opened_at = rw g.opened_at (opened_step f l K w.opens (c.number + 1) t.opened_at now_held w.opened_at);
            sampled = sampled_step f l K t.sample r'.sample t.counts.parts t.counts.own parts_is own_is now_told w.sampled g.sample;
          })
