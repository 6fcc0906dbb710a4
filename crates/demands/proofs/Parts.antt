-- The part that a naming answers, and the subframe that a comparison answers, from their definitions. Assumes nothing.
use Prim.Native.Nat.{ℕ, ◌+◌, ◌-◌, ◌≤◌, ◌<◌}
use native.Mathlib.Omega.{arith}
use native.Mathlib.Decide.{dec_lt}
use mathlib.Core.Bool.{Bool, true, false, cond, ◌&&◌}
use mathlib.Core.Path.{◌≡◌, refl, sym, ap, subst, ◌∙◌}
use mathlib.Core.List.{List}
use denote.Ref.{Bor}
use borrow.Author.Tests.{leb-true, ltb-true, le-leb, lt-ltb}
use lib.Dec.{leb, ltb}
use lib.ListN.{length}
use Rattle.lay.specs.Below.{find}
use Rattle.lay.specs.Bytes.{same}
use Rattle.lay.proofs.Below.{find_least, find_holds}
use Rattle.lay.proofs.Bytes.{same_eq, same_made}
use Rattle.lay.proofs.Tests.{and_0, and_1, refuse}
use Rattle.model.specs.Accepts.{accepts}
use Rattle.model.specs.Content.{Content, parameter, parameters, subframes}
use Rattle.model.specs.Forms.{limits_in}
use Rattle.model.specs.Meaning.{Lawful}
use Rattle.model.specs.View.{view}
use Rattle.model.proofs.Meanings.{lawful_law}
use Rattle.table.specs.Answers.{NameOf, numbered_of, mnemonic_is, called, asked_number, asked_mnemonic, asked_refusal, name_answered, place_answered}
use Rattle.table.specs.declared.reason.Reason.TheVariants.{NoTable, NoParameter}
use Rattle.table.proofs.Reasoning.{reason_some}
use Rattle.table.proofs.Accepting.{accepts_lawful}
use Rattle.framing.specs.Comparing.{Compared, differs_in, compared_in, fitted_compared, compared_of}
use Rattle.framing.specs.Fitting.{fit_of}
use Rattle.demands.specs.Refusing.{first_broken, name_rules, mnemonic_rules}
use Rattle.demands.specs.Demands.{EmptyPart, NamePart, FirstDiffering}
use Rattle.demands.proofs.Numbers.{name_number_lem, mnemonic_number}
use Rattle.std.specs.Prelude.{Ok, Err, Some, None}
use Rattle.framing.specs.Fitting.{Fit}
use Rattle.table.specs.Answers.{Asked}

-- ---- names

pub unnamed_part : (t r : Bor (List ℕ)) (a : Asked) → NameOf t r a → (asked_refusal a ≡ 0 → ⊥) → EmptyPart t r
unfolding name_answered place_answered asked_refusal
unnamed_part t r (Ok i) h n = absurd (n refl)
unnamed_part t r (Err q) h n = record { bytes_are = h.bytes; own = h.own }

pub named_part : (t r : Bor (List ℕ)) (a : Asked) (i : ℕ) → NameOf t r a → a ≡ Ok i → NamePart t r i
named_part t r a i h e = go (subst (NameOf t r) e h)
  where
    go : NameOf t r (Ok i) → NamePart t r i
    go k = unfold name_answered place_answered in record { bytes_are = k.bytes; own = k.own }

-- which parameter is asked for, where none of 01's rules is broken
pub name_asked : (t : List ℕ) (p : ℕ) → first_broken (name_rules t p) ≡ 0 → asked_number t p ≡ Ok (p - 1)
unfolding asked_number numbered_of
name_asked t p e = go (accepts t) (leb 1 p && leb p (parameters (view t))) (name_number_lem t p ∙ e)
  where
    go : (a b : Bool) → asked_refusal (cond a (cond b (Ok (p - 1)) (Err NoParameter)) (Err NoTable)) ≡ 0 → cond a (cond b (Ok (p - 1)) (Err NoParameter)) (Err NoTable) ≡ Ok (p - 1)
    go true true q = refl
    go true false q = absurd (reason_some NoParameter (unfold asked_refusal in q))
    go false b q = absurd (reason_some NoTable (unfold asked_refusal in q))

module _ (t m : List ℕ) where
  -- the mnemonic is not empty, and some parameter has it
  record Found : Type 0 where
    accepted : accepts t ≡ true
    some : 1 ≤ length m
    here : mnemonic_is (view t) m < parameters (view t)

  asked_found : asked_refusal (asked_mnemonic t m) ≡ 0 → Found
  unfolding asked_mnemonic called asked_refusal
  asked_found e = go (accepts t) refl (leb 1 (length m) && ltb (mnemonic_is (view t) m) (parameters (view t))) refl e
    where
      go : (a : Bool) → accepts t ≡ a → (b : Bool) → (leb 1 (length m) && ltb (mnemonic_is (view t) m) (parameters (view t))) ≡ b
          → asked_refusal (cond a (cond b (Ok (mnemonic_is (view t) m)) (Err NoParameter)) (Err NoTable)) ≡ 0 → Found
      go true h true k q =
          record {
            accepted = h;
            some = leb-true 1 (length m) (and_0 _ _ k);
            here = ltb-true _ _ (and_1 (leb 1 (length m)) _ k);
          }
      go true h false k q = absurd (reason_some NoParameter q)
      go false h b k q = absurd (reason_some NoTable q)

  asked_at : Found → asked_mnemonic t m ≡ Ok (mnemonic_is (view t) m)
  asked_at x = unfold asked_mnemonic called in rw (x.accepted, le-leb 1 (length m) x.some, lt-ltb _ _ x.here)

  -- a parameter that has it
  pub record Has : Type 0 where
    pub at : ℕ
    pub here : at < parameters (view t)
    pub has : (parameter (view t) at).mnemonic ≡ m
    pub asked : asked_mnemonic t m ≡ Ok at

  pub mnemonic_found : first_broken (mnemonic_rules t m) ≡ 0 → Has
  unfolding mnemonic_is
  mnemonic_found e =
      let x = asked_found (mnemonic_number t m ∙ e) in
      record {
        at = mnemonic_is (view t) m;
        here = x.here;
        has = same_eq _ _ (find_holds (parameters (view t)) (λ j. same (parameter (view t) j).mnemonic m) x.here);
        asked = asked_at x;
      }

  -- no two parameters have one mnemonic (15), so it is the first that has it
  only_one : Found → (i : ℕ) → i < parameters (view t) → (parameter (view t) i).mnemonic ≡ m → mnemonic_is (view t) m ≡ i
  unfolding mnemonic_is
  only_one x i l e = go (dec_lt at i)
    where
      at : ℕ
      at = find (parameters (view t)) (λ j. same (parameter (view t) j).mnemonic m)

      law : Lawful (limits_in t) (view t)
      law = lawful_law (limits_in t) (view t) (accepts_lawful t x.accepted)

      least : at ≤ i
      least = find_least (parameters (view t)) (λ j. same (parameter (view t) j).mnemonic m) i l (same_made _ _ e)

      has : (parameter (view t) at).mnemonic ≡ m
      has = same_eq _ _ (find_holds (parameters (view t)) (λ j. same (parameter (view t) j).mnemonic m) (unfold mnemonic_is in x.here))

      go : Dec (at < i) → at ≡ i
      go (yes k) = absurd ((law.apart i at l k).mnemonic (rw e x.some) (has ∙ sym e))
      go (no k) = omega (arith, least)

  pub mnemonic_asked : first_broken (mnemonic_rules t m) ≡ 0 → (i : ℕ) → i < parameters (view t) → (parameter (view t) i).mnemonic ≡ m → asked_mnemonic t m ≡ Ok i
  mnemonic_asked e i l q = let x = asked_found (mnemonic_number t m ∙ e) in asked_at x ∙ ap Ok (only_one x i l q)

-- ---- the first subframe that differs

module _ (c : Content) (f : List ℕ) where
  abbrev at : ℕ
  at = find (subframes c) (λ s. differs_in c f (s + 1))

  -- those before it agree
  before : (k : ℕ) → 1 ≤ k → k < at + 1 → at < subframes c → differs_in c f k ≡ false
  before k l m n = sym (refuse _ (λ h. over (find_least (subframes c) (λ s. differs_in c f (s + 1)) (k - 1) (omega arith) (ap (differs_in c f) back ∙ h))))
    where
      back : k - 1 + 1 ≡ k
      back = omega arith

      over : at ≤ k - 1 → ⊥
      over q = omega arith

  found_first : at < subframes c → FirstDiffering c f (at + 1)
  found_first l =
      record {
        least = omega arith;
        most = omega arith;
        differs = find_holds (subframes c) (λ s. differs_in c f (s + 1)) l;
        lower = λ k g h. before k g h l;
      }

subframe_same : (s k : ℕ) → ◌≡◌ {A = Compared} (Ok (Some s)) (Ok (Some k)) → s ≡ k
subframe_same s k e = cc

pub first_differing : (t f : List ℕ) (s : ℕ) → compared_of t f ≡ Ok (Some s) → FirstDiffering (view t) f s
unfolding compared_of compared_in fitted_compared
first_differing t f s e = go (accepts t) (fit_of (view t) f) (ltb (at (view t) f) (subframes (view t))) refl e
  where
    go : (a : Bool) (d : Fit) (b : Bool) → ltb (at (view t) f) (subframes (view t)) ≡ b
        → cond a (fitted_compared d (cond b (Ok (Some (at (view t) f + 1))) (Ok None))) (Err NoTable) ≡ Ok (Some s) → FirstDiffering (view t) f s
    go true (Ok _) true h q = rw (sym (subframe_same (at (view t) f + 1) s q)) (found_first (view t) f (ltb-true _ _ h))
    go true (Ok _) false h q = let z : ◌≡◌ {A = ℕ} 0 1 = cc in absurd (omega arith)
    go true (Err r) b h q = let z : ◌≡◌ {A = ℕ} 0 1 = cc in absurd (omega arith)
    go false d b h q = let z : ◌≡◌ {A = ℕ} 0 1 = cc in absurd (omega arith)
