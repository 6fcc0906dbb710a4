-- A line passes exactly where each of its tests does, in whatever form it has. Assumes nothing.
use mathlib.Core.Path.{◌≡◌, refl, sym, ◌∙◌}
use mathlib.Core.Bool.{true, false, not}
use mathlib.Core.List.{List, [], ◌∷◌, ◌++◌}
use Prim.Native.Nat.{ℕ, ◌≤◌}
use borrow.Author.Tests.{ltb-false, le-ltb, not-false}
use lib.ListN.{length}
use Rattle.std.specs.Prelude.{Ok, Err}
use Rattle.text.specs.Refusals.{first, or_else, Judged}
use Rattle.text.proofs.Order.{first_step}
use Rattle.lines.specs.Line.{all_clean}
use Rattle.lines.specs.Order.{line_judged}
use Rattle.lines.proofs.Orders.{first_append}
use Rattle.written.proofs.Passing.{when_false, false_when}
use Rattle.lineforms.specs.declared.due.Form.{Form}
use Rattle.gather.specs.Book.{Book}
use Rattle.gather.specs.Tests.{due_test, room_test, field_tests, sample_test, names_test, tests_of}

else_passed : (a b : Judged) → or_else a b ≡ Ok tt → (a ≡ Ok tt) × (b ≡ Ok tt)
else_passed (Ok _) b e = (refl, e)
else_passed (Err r) b e = absurd (cc)

else_passes : (a b : Judged) → a ≡ Ok tt → b ≡ Ok tt → or_else a b ≡ Ok tt
else_passes a b p q = rw p q

one_passed : (j : Judged) (js : List Judged) → first (j ∷ js) ≡ Ok tt → (j ≡ Ok tt) × (first js ≡ Ok tt)
one_passed j js e = else_passed j (first js) (sym (first_step j js) ∙ e)

one_passes : (j : Judged) (js : List Judged) → j ≡ Ok tt → first js ≡ Ok tt → first (j ∷ js) ≡ Ok tt
one_passes j js p q = first_step j js ∙ else_passes j (first js) p q

many_passed : (js ks : List Judged) → first (js ++ ks) ≡ Ok tt → (first js ≡ Ok tt) × (first ks ≡ Ok tt)
many_passed js ks e = else_passed (first js) (first ks) (sym (first_append js ks) ∙ e)

many_passes : (js ks : List Judged) → first js ≡ Ok tt → first ks ≡ Ok tt → first (js ++ ks) ≡ Ok tt
many_passes js ks p q = first_append js ks ∙ else_passes (first js) (first ks) p q

pub none_passes : first [] ≡ Ok tt
unfolding first
none_passes = refl

-- ---- a line

pub record Passing (f : Form) (K : Book) (l : List ℕ) : Type 0 where
  pub short : length l ≤ 1024
  pub clean : all_clean l ≡ true
  pub due : due_test f ≡ Ok tt
  pub room : room_test f K ≡ Ok tt
  pub fields : first (field_tests f K l) ≡ Ok tt
  pub sample : sample_test f K l ≡ Ok tt
  pub names : names_test f K l ≡ Ok tt

module _ (f : Form) (K : Book) (l : List ℕ) where
  pub passed : line_judged true l (tests_of f K l) ≡ Ok tt → Passing f K l
  unfolding line_judged
  passed e =
      let a = one_passed _ _ e in
      let b = one_passed _ _ a.1 in
      let c = one_passed _ _ b.1 in
      let d = one_passed (due_test f) _ c.1 in
      let r = one_passed (room_test f K) _ d.1 in
      let m = many_passed (field_tests f K l) (sample_test f K l ∷ names_test f K l ∷ []) r.1 in
      let s = one_passed (sample_test f K l) (names_test f K l ∷ []) m.1 in
      let n = one_passed (names_test f K l) [] s.1 in
      record {
        short = ltb-false 1024 (length l) (when_false _ _ b.0);
        clean = not-false (all_clean l) (when_false _ _ c.0);
        due = d.0;
        room = r.0;
        fields = m.0;
        sample = s.0;
        names = n.0;
      }

  pub passing : Passing f K l → line_judged true l (tests_of f K l) ≡ Ok tt
  unfolding line_judged
  passing p =
      let n = one_passes (names_test f K l) [] p.names none_passes in
      let s = one_passes (sample_test f K l) (names_test f K l ∷ []) p.sample n in
      let m = many_passes (field_tests f K l) (sample_test f K l ∷ names_test f K l ∷ []) p.fields s in
      let r = one_passes (room_test f K) _ p.room m in
      let d = one_passes (due_test f) _ p.due r in
      let z : not (all_clean l) ≡ false = rw p.clean in
      let c = one_passes _ _ (false_when _ _ z) d in
      let b = one_passes _ _ (false_when _ _ (le-ltb 1024 (length l) p.short)) c in
      one_passes _ _ refl b
