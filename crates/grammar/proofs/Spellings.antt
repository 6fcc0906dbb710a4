-- What each test takes is what is spelled, and what it reads is what is said: texts, truths and numbers.
-- `..-spelled`: a field that passes is spelled so; `..-taken`: a field spelled so passes, and what is read of it. Assumes nothing.
use mathlib.Core.Path.{◌≡◌, refl, sym, ◌∙◌, subst}
use mathlib.Core.Bool.{Bool, true, false, cond, ◌&&◌}
use mathlib.Core.Logic.{⊎_elim}
use mathlib.Core.List.{List, []}
use Prim.Native.Nat.{ℕ, ◌-◌, ◌≤◌}
use native.Mathlib.Omega.{arith}
use borrow.Author.Tests.{eqb-true, leb-true}
use lib.Dec.{eqb, leb}
use lib.ListN.{length, get_or}
use Rattle.std.specs.Prelude.{Ok}
use Rattle.lay.proofs.Tests.{and_0, and_1, or_either, differ}
use Rattle.text.specs.Refusals.{judged_of}
use Rattle.text.specs.Blanks.{tab, is_empty, is_blank}
use Rattle.text.specs.Fields.{comma}
use Rattle.spell.specs.Answers.{amount_of}
use Rattle.spell.specs.Texts.{longest_text, text_judged, version, version_judged, empty_judged}
use Rattle.spell.specs.Truths.{says_true, truth_judged, truth_or_empty_judged}
use Rattle.spell.specs.Integers.{most_of_six, integer_judged, integer_of, declared_judged, margin_of, label_judged}
use Rattle.written.specs.Words.{IsInteger}
use Rattle.written.proofs.Empty.{empty_nil, nil_empty, numeral_some}
use Rattle.written.proofs.Passing.{first_all}
use Rattle.written.proofs.Places.{six_below}
use Rattle.written.proofs.Texts.{text_exactly, version_exactly, empty_exactly}
use Rattle.written.proofs.Truths.{truth_test, truth_or_empty_exactly}
use Rattle.written.proofs.Integers.{integer_exactly}
use Rattle.written.proofs.Judges.{integer_judged_lem, declared_judged_lem, label_judged_lem, truth_judged_lem}
use Rattle.lines.specs.Line.{is_clean}
use Rattle.spell.proofs.AnswerLaws.{integer_same}
use Rattle.model.specs.Margin.{Margin, Known, Unknown, blank_margin, margin_as}
use Rattle.model.specs.Forms.{sheet_limits}
use Rattle.model.specs.Meaning.{ByteLaw, TextLaw, MarginLaw}
use Rattle.model.proofs.Margins.{margin_unknown, margin_known}
use Rattle.grammar.specs.Items.{Text, Spelled, exactly, text, some_text, truth, truth_or_none, integer, margin, label}
use Rattle.grammar.specs.Says.{empty}
use Rattle.grammar.proofs.Tidy.{Tidy}

-- ---- texts; a tab is all that a tidy field may hold and a text may not

clean_byte : (x : ℕ) → is_clean x ≡ true → (x ≡ tab → ⊥) → (x ≡ comma → ⊥) → ByteLaw x
clean_byte x h t c =
    ⊎_elim (λ e. absurd (t (eqb-true x 9 e)))
    (λ e. record { least = leb-true _ _ (and_0 (leb 32 x) (leb x 126) e); most = leb-true _ _ (and_1 (leb 32 x) (leb x 126) e); comma = c })
    (or_either (eqb x 9) (leb 32 x && leb x 126) h)

no_space : (x : ℕ) → is_blank x ≡ false → x ≡ 32 → ⊥
no_space x h e = differ h (rw e refl)

module _ (f : List ℕ) where
  judged_text : (most : ℕ) (mandatory : Bool) → most ≤ 200 → Tidy f → text_judged most mandatory f ≡ Ok tt → Text f
  judged_text most mandatory m t e =
      let r = ((text_exactly most mandatory f).0 e).0 in
      record {
        short = omega (arith, r.short);
        each = λ i l. clean_byte (get_or f i 0) (t.clean i l) (r.plain i l) (t.comma i l);
        begins = no_space (get_or f 0 0) t.begins;
        ends = no_space (get_or f (length f - 1) 0) t.ends;
      }

  text_judged_lem : (most : ℕ) (mandatory : Bool) → Text f → length f ≤ most → (mandatory ≡ true → 1 ≤ length f) → text_judged most mandatory f ≡ Ok tt
  text_judged_lem most mandatory r m s =
      (text_exactly most mandatory f).1
      (record { short = m; plain = λ i l e. omega (arith, (r.each i l).least) }, s)

  -- any text
  pub text_spelled : Tidy f → text_judged longest_text false f ≡ Ok tt → Spelled text f
  text_spelled t e = judged_text longest_text false (omega arith) t e

  pub text_taken : Spelled text f → text_judged longest_text false f ≡ Ok tt
  text_taken r = text_judged_lem longest_text false r r.short (λ e. absurd (cc))

  -- any but the empty one
  pub some_spelled : Tidy f → text_judged longest_text true f ≡ Ok tt → Spelled some_text f
  some_spelled t e = (((text_exactly longest_text true f).0 e).1 refl, judged_text longest_text true (omega arith) t e)

  pub some_taken : Spelled some_text f → text_judged longest_text true f ≡ Ok tt
  some_taken r = text_judged_lem longest_text true r.1 r.1.short (λ e. r.0)

  -- a name, which is kept
  pub name_spelled : (mandatory : Bool) → Tidy f → text_judged sheet_limits.text mandatory f ≡ Ok tt → Spelled (exactly f) f
  name_spelled mandatory t e = (refl, judged_text sheet_limits.text mandatory (omega arith) t e)

  pub name_taken : (mandatory : Bool) (n : List ℕ) → TextLaw sheet_limits n → (mandatory ≡ true → 1 ≤ length n) → Spelled (exactly n) f
      → text_judged sheet_limits.text mandatory f ≡ Ok tt
  name_taken mandatory n w s r =
      text_judged_lem sheet_limits.text mandatory r.1 (rw r.0 w.short) (λ e. rw r.0 (s e))

  -- the version
  pub version_spelled : Tidy f → version_judged f ≡ Ok tt → Spelled (exactly version) f
  unfolding version_judged
  version_spelled t e = ((version_exactly f).0 e, judged_text longest_text true (omega arith) t (first_all _ e).0)

  pub version_taken : Spelled (exactly version) f → version_judged f ≡ Ok tt
  version_taken r = (version_exactly f).1 r.0

  -- nothing
  pub empty_spelled : empty_judged f ≡ Ok tt → Spelled empty f
  empty_spelled e = let n = (empty_exactly f).0 e in (n, rw n nothing)
    where
      nothing : Text []
      nothing =
          record {
            short = omega arith;
            each = λ i l. absurd (omega arith);
            begins = λ e. omega arith;
            ends = λ e. omega arith;
          }

  pub empty_taken : Spelled empty f → empty_judged f ≡ Ok tt
  empty_taken r = (empty_exactly f).1 r.0

-- ---- truths

module _ (f : List ℕ) where
  pub truth_spelled : truth_judged f ≡ Ok tt → Spelled (truth (says_true f)) f
  truth_spelled e =
      let r = (truth_judged_lem f).0 e in
      rw (← (truth_test f r.0 r.1).1) r.1

  pub truth_taken : (b : Bool) → Spelled (truth b) f → (truth_judged f ≡ Ok tt) × (says_true f ≡ b)
  truth_taken b r = ((truth_judged_lem f).1 (b, r), sym (truth_test f b r).1)

  pub truth_or_none_spelled : truth_or_empty_judged f ≡ Ok tt → Spelled truth_or_none f
  truth_or_none_spelled e = (truth_or_empty_exactly f).0 e

  pub truth_or_none_taken : Spelled truth_or_none f → truth_or_empty_judged f ≡ Ok tt
  truth_or_none_taken r = (truth_or_empty_exactly f).1 r

-- ---- integers

module _ (f : List ℕ) where
  integer_amount : (n least most v : ℕ) → least ≤ v → v ≤ most → Spelled (integer n v) f → integer_of n least most f ≡ Ok v
  integer_amount n least most v a b r = (integer_exactly n least most f v).1 (r, a, b)

  pub integer_taken : (n least most v : ℕ) → least ≤ v → v ≤ most → Spelled (integer n v) f → (integer_judged n least most f ≡ Ok tt) × (amount_of (integer_of n least most f) ≡ v)
  integer_taken n least most v a b r =
      let s = integer_amount n least most v a b r in
      ((integer_judged_lem f n least most).1 (v, (r, a, b)), rw s refl)

  pub integer_spelled : (n least most : ℕ) → integer_judged n least most f ≡ Ok tt → Spelled (integer n (amount_of (integer_of n least most f))) f
  integer_spelled n least most e =
      let r = (integer_judged_lem f n least most).0 e in
      let s : integer_of n least most f ≡ Ok r.0 = (integer_exactly n least most f r.0).1 r.1 in
      rw s r.1.0

  -- a number that counts from 1 up to those declared
  six_small : (v : ℕ) → IsInteger 6 f v → v ≤ most_of_six
  six_small v i = omega (arith, six_below f i.digits, i.value)

  pub declared_spelled : (count : ℕ) → declared_judged count f ≡ Ok tt → Spelled (integer 6 (amount_of (integer_of 6 0 most_of_six f))) f
  declared_spelled count e =
      let r = (declared_judged_lem f count).0 e in
      let i = r.1.0 in
      let s : integer_of 6 0 most_of_six f ≡ Ok r.0 = integer_amount 6 0 most_of_six r.0 (omega arith) (six_small r.0 i) i in
      rw s i

  pub declared_taken : (count v : ℕ) → 1 ≤ v → v ≤ count → Spelled (integer 6 v) f → (declared_judged count f ≡ Ok tt) × (amount_of (integer_of 6 0 most_of_six f) ≡ v)
  declared_taken count v a b r =
      ((declared_judged_lem f count).1 (v, (r, a, b)), (integer_taken 6 0 most_of_six v (omega arith) (six_small v r) r).1)

  -- a number that is only asked to have six digits
  pub six_taken : (v : ℕ) → Spelled (integer 6 v) f → (integer_judged 6 0 most_of_six f ≡ Ok tt) × (amount_of (integer_of 6 0 most_of_six f) ≡ v)
  six_taken v r = integer_taken 6 0 most_of_six v (omega arith) (six_small v r) r

  -- empty is unknown; the number that stands for it is not spelled so
  pub margin_spelled : judged_of (margin_of sheet_limits.margin blank_margin f) ≡ Ok tt → Spelled (margin (margin_as (amount_of (margin_of sheet_limits.margin blank_margin f)))) f
  unfolding margin_of
  margin_spelled e = go (is_empty f) refl e
    where
      go : (t : Bool) → is_empty f ≡ t → judged_of (cond t (Ok blank_margin) (integer_of 6 0 sheet_limits.margin f)) ≡ Ok tt → Spelled (margin (margin_as (amount_of (cond t (Ok blank_margin) (integer_of 6 0 sheet_limits.margin f))))) f
      go true h q = subst (λ (m : Margin). Spelled (margin m) f) (sym (margin_unknown blank_margin refl)) (empty_nil f h)
      go false h q =
          let r = (integer_judged_lem f 6 0 sheet_limits.margin).0 (integer_same 6 0 sheet_limits.margin f ∙ q) in
          let s : integer_of 6 0 sheet_limits.margin f ≡ Ok r.0 = (integer_exactly 6 0 sheet_limits.margin f r.0).1 r.1 in
          let b : r.0 ≤ sheet_limits.margin = r.1.2 in
          rw (s, margin_known r.0 (λ z. omega (arith, b, z))) r.1.0

  pub margin_taken : (m : Margin) → MarginLaw sheet_limits m → Spelled (margin m) f
      → (judged_of (margin_of sheet_limits.margin blank_margin f) ≡ Ok tt) × (margin_as (amount_of (margin_of sheet_limits.margin blank_margin f)) ≡ m)
  unfolding margin_of
  margin_taken Unknown b r = rw (nil_empty f r) (refl, margin_unknown blank_margin refl)
  margin_taken (Known v) b i =
      let s = integer_amount 6 0 sheet_limits.margin v (omega arith) b i in
      rw (numeral_some i.digits, s) (refl, margin_known v (λ z. omega (arith, b, z)))

  pub label_spelled : label_judged f ≡ Ok tt → Spelled label f
  label_spelled e = (label_judged_lem f).0 e

  pub label_taken : Spelled label f → label_judged f ≡ Ok tt
  label_taken r = (label_judged_lem f).1 r
