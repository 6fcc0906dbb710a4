-- Our definitions' numbers are those of the first broken rule. Assumes nothing.
use Prim.Native.Nat.{ℕ, ◌+◌, ◌-◌, ◌^◌}
use native.Mathlib.Omega.{arith}
use mathlib.Core.Bool.{Bool, true, false, cond, not, ◌&&◌}
use mathlib.Core.Path.{◌≡◌, refl, ap, ◌∙◌}
use mathlib.Core.List.{List}
use borrow.Author.Tests.{ltb-true, lt-ltb}
use lib.Dec.{leb, ltb}
use lib.ListN.{length}
use Rattle.lay.specs.Below.{any, find}
use Rattle.lay.proofs.Below.{any_some, any_made, find_least, find_holds}
use Rattle.lay.proofs.Tests.{same_tests}
use Rattle.lay.specs.Bytes.{same}
use Rattle.model.specs.Accepts.{accepts}
use Rattle.model.specs.Content.{parameter, parameters, subframes}
use Rattle.model.specs.Frame.{words_ok}
use Rattle.model.specs.Samples.{width_of, overlapped}
use Rattle.model.specs.View.{view}
use Rattle.table.specs.Answers.{check_of, check_number, numbered_of, mnemonic_is, called, asked_number, asked_mnemonic, asked_refusal}
use Rattle.framing.specs.Fitting.{fit_of}
use Rattle.framing.specs.Wanted.{has_parameter, has_sample, fitted, wanted_by, wanted_of}
use Rattle.framing.specs.Reading.{width_is, read_for, read_of, read_number}
use Rattle.framing.specs.Placing.{laps_in, place_for, place_of, place_number}
use Rattle.framing.specs.Comparing.{differs_in, compared_in, fitted_compared, compared_of, compared_number}
use Rattle.table.specs.Reasons.{reason_number}
use Rattle.table.specs.declared.reason.Reason.TheVariants.{Overlapped, NoTable, OtherCount, HighWord, NoParameter, NoSample}
use Rattle.demands.specs.Refusing.{sample_of, components_of, as_many_words, first_broken, check_rules, read_rules, place_rules, compare_rules, name_rules, mnemonic_rules}
use Rattle.std.specs.Prelude.{Ok, Err, Some, None}
use Rattle.framing.specs.Wanted.{Wanted}

-- the first number below n of which p holds is below n exactly where there is one
pub found_any : (n : ℕ) (p : ℕ → Bool) → ltb (find n p) n ≡ any n p
found_any n p = same_tests _ _ there back
  where
    there : ltb (find n p) n ≡ true → any n p ≡ true
    there e = let h = ltb-true (find n p) n e in any_made n p (find n p) h (find_holds n p h)

    back : any n p ≡ true → ltb (find n p) n ≡ true
    back e = let x = any_some n p e in lt-ltb (find n p) n (omega (arith, find_least n p x.at x.below x.holds, x.below))

pub check_number_lem : (t : List ℕ) → check_number (check_of t) ≡ first_broken (check_rules t)
unfolding check_number reason_number check_of first_broken
check_number_lem t = go (accepts t)
  where
    go : (a : Bool) → check_number (cond a (Ok tt) (Err NoTable)) ≡ cond a 0 18
    go true = refl
    go false = refl

-- ---- reading and placing

abbrev wanted_number : Wanted → ℕ
wanted_number (Ok (i, j)) = 0
wanted_number (Err r) = reason_number r

-- the wanted sample by five tests, in 01's order
abbrev by_tests : Bool → Bool → Bool → Bool → Bool → ℕ → ℕ → Wanted
by_tests a b d e g i j = cond a (cond b (cond d (fitted (cond e (cond g (Ok tt) (Err HighWord)) (Err OtherCount)) i j) (Err NoSample)) (Err NoParameter)) (Err NoTable)

-- where all five hold it is listed, else it has the first one's number
number_by : (a b d e g : Bool) (i j : ℕ) → wanted_number (by_tests a b d e g i j) ≡ cond a (cond b (cond d (cond e (cond g 0 20) 19) 22) 21) 18
unfolding reason_number fitted
number_by false b d e g i j = refl
number_by true false d e g i j = refl
number_by true true false e g i j = refl
number_by true true true false g i j = refl
number_by true true true true false i j = refl
number_by true true true true true i j = refl

wanted_number_lem : (t f : List ℕ) (p s : ℕ) → wanted_number (wanted_of t f p s) ≡ first_broken (read_rules t f p s)
unfolding wanted_of wanted_by fit_of first_broken
wanted_number_lem t f p s = number_by (accepts t) (has_parameter (view t) p) (has_sample (view t) p s) (as_many_words (view t) f) (words_ok (view t) f) (p - 1) (s - 1)

pub read_number_lem : (t f : List ℕ) (p s : ℕ) → read_number (read_of t f p s) ≡ first_broken (read_rules t f p s)
unfolding read_of read_for read_number
read_number_lem t f p s = go (wanted_of t f p s) ∙ wanted_number_lem t f p s
  where
    go : (w : Wanted) → read_number (read_for (view t) f w) ≡ wanted_number w
    go (Ok (i, j)) = refl
    go (Err r) = refl

pub place_number_lem : (t f : List ℕ) (p s v : ℕ) → place_number (place_of t f p s v) ≡ first_broken (place_rules t f p s v)
unfolding place_of laps_in place_for place_number reason_number wanted_of wanted_by fitted fit_of width_is width_of components_of first_broken
place_number_lem t f p s v =
    go (accepts t) (has_parameter (view t) p) (has_sample (view t) p s) (overlapped (sample_of (view t) p s)) (as_many_words (view t) f) (words_ok (view t) f)
  where
    last : (b : Bool) → ltb v (2 ^ width_is (view t) (p - 1) (s - 1)) ≡ b → place_number (place_for (view t) (Ok (p - 1, s - 1)) v) ≡ cond b 0 23
    last true e = rw e
    last false e = rw e

    go : (a b d o e g : Bool) → place_number (cond (a && (b && (d && o))) (Err Overlapped) (place_for (view t) (by_tests a b d e g (p - 1) (s - 1)) v)) ≡ cond a (cond b (cond d (cond (not o) (cond e (cond g (cond (ltb v (2 ^ width_is (view t) (p - 1) (s - 1))) 0 23) 20) 19) 10) 22) 21) 18
    go false b d o e g = refl
    go true false d o e g = refl
    go true true false o e g = refl
    go true true true true e g = refl
    go true true true false false g = refl
    go true true true false true false = refl
    go true true true false true true = last (ltb v (2 ^ width_is (view t) (p - 1) (s - 1))) refl

-- ---- comparing

pub compare_number : (t f : List ℕ) → compared_number (compared_of t f) ≡ first_broken (compare_rules t f)
unfolding compared_of compared_in compared_number reason_number fitted_compared fit_of first_broken
compare_number t f =
    go (accepts t) (as_many_words (view t) f) (words_ok (view t) f) (ltb at (subframes (view t)))
    ∙ ap (λ (x : Bool). cond (accepts t) (cond (as_many_words (view t) f) (cond (words_ok (view t) f) (cond (not x) 0 24) 20) 19) 18) (found_any (subframes (view t)) (λ s. differs_in (view t) f (s + 1)))
  where
    at : ℕ
    at = find (subframes (view t)) (λ s. differs_in (view t) f (s + 1))

    go : (a e g d : Bool) → compared_number (cond a (fitted_compared (cond e (cond g (Ok tt) (Err HighWord)) (Err OtherCount)) (cond d (Ok (Some (at + 1))) (Ok None))) (Err NoTable)) ≡ cond a (cond e (cond g (cond (not d) 0 24) 20) 19) 18
    go false e g d = refl
    go true false g d = refl
    go true true false d = refl
    go true true true false = refl
    go true true true true = refl

-- ---- naming

pub name_number_lem : (t : List ℕ) (p : ℕ) → asked_refusal (asked_number t p) ≡ first_broken (name_rules t p)
unfolding asked_refusal reason_number asked_number numbered_of first_broken
name_number_lem t p = go (accepts t) (has_parameter (view t) p)
  where
    go : (a b : Bool) → asked_refusal (cond a (cond b (Ok (p - 1)) (Err NoParameter)) (Err NoTable)) ≡ cond a (cond b 0 21) 18
    go false b = refl
    go true false = refl
    go true true = refl

pub mnemonic_number : (t m : List ℕ) → asked_refusal (asked_mnemonic t m) ≡ first_broken (mnemonic_rules t m)
unfolding asked_refusal reason_number asked_mnemonic called mnemonic_is first_broken
mnemonic_number t m =
    go (accepts t) (leb 1 (length m) && ltb at (parameters (view t)))
    ∙ ap (λ (x : Bool). cond (accepts t) (cond (leb 1 (length m) && x) 0 21) 18) (found_any (parameters (view t)) (λ i. same (parameter (view t) i).mnemonic m))
  where
    at : ℕ
    at = find (parameters (view t)) (λ i. same (parameter (view t) i).mnemonic m)

    go : (a b : Bool) → asked_refusal (cond a (cond b (Ok at) (Err NoParameter)) (Err NoTable)) ≡ cond a (cond b 0 21) 18
    go false b = refl
    go true false = refl
    go true true = refl
