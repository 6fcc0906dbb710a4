-- Comparing passes exactly where every identifier is its value. Assumes nothing.
use mathlib.Core.Path.{◌≡◌, refl, sym, ap, ◌∙◌}
use mathlib.Core.Bool.{Bool, true, false, cond, ◌&&◌, ◌||◌, not}
use mathlib.Core.List.{List}
use Prim.Native.Nat.{ℕ, ◌+◌, ◌-◌, ◌≤◌, ◌<◌}
use native.Mathlib.Omega.{arith}
use borrow.Author.Tests.{eq-eqb, eqb-true, ltb-false}
use lib.Dec.{eqb, ltb}
use Rattle.lay.specs.Below.{all, find}
use Rattle.lay.proofs.Below.{all_below, all_made, any_made, find_least}
use Rattle.lay.proofs.Tests.{refuse, differ, same_tests}
use Rattle.model.specs.Content.{Content, parameter, parameters, sample, subframes}
use Rattle.model.specs.Samples.{holds}
use Rattle.model.specs.Identifiers.{lies}
use Rattle.model.specs.Stored.{parameters_in, value_in}
use Rattle.model.specs.View.{identifier_in, parameter_at, view}
use Rattle.model.proofs.Views.{parameters_view, parameter_view}
use Rattle.rules.specs.Ruled.{Ruled}
use Rattle.rules.proofs.Identifying.{identifier_at, value_at}
use Rattle.framing.specs.Comparing.{differs_at, differs_in, compared_in, compared_number}
use Rattle.std.specs.Prelude.{Some, None, Ok}
use Rattle.framing.proofs.CompareCases.{none_differs, all_agree}
use Rattle.carding.specs.Layout.{frame_at}
use Rattle.carding.specs.Search.{agrees_at, reads_at}

-- ---- one parameter

reads_same : (c : Content) (f : List ℕ) (s i : ℕ) → reads_at c f i ≡ true → differs_at c f s i ≡ false
unfolding reads_at differs_at
reads_same c f s i h = go (parameter c i).identifier (eqb (lies (parameter c i)) s) (holds c.subframes f (sample (parameter c i) 0) (parameter c i).value) h
  where
    go : (a l e : Bool) → (not a || e) ≡ true → (a && (l && not e)) ≡ false
    go false l e h = refl
    go true false e h = refl
    go true true true h = refl
    go true true false h = sym h

same_reads : (c : Content) (f : List ℕ) (s i : ℕ) → lies (parameter c i) ≡ s → differs_at c f s i ≡ false → reads_at c f i ≡ true
unfolding reads_at differs_at
same_reads c f s i q h = go (parameter c i).identifier (eqb (lies (parameter c i)) s) (holds c.subframes f (sample (parameter c i) 0) (parameter c i).value) (eq-eqb _ _ q) h
  where
    go : (a l e : Bool) → l ≡ true → (a && (l && not e)) ≡ false → (not a || e) ≡ true
    go false l e q h = refl
    go true l true q h = refl
    go true true false q h = sym h
    go true false false q h = q

-- the same over the bytes
module _ (b f : List ℕ) (i : ℕ) (l : i < parameters_in b) where
  stored : reads_at (view b) f i ≡ (not (identifier_in b i) || holds (view b).subframes f (sample (parameter_at b i) 0) (value_in b i))
  unfolding reads_at
  stored = rw (parameter_view b i l, identifier_at b i, value_at b i)

  pub plain_reads : identifier_in b i ≡ false → reads_at (view b) f i ≡ true
  plain_reads h = stored ∙ rw h

  pub identifier_reads : identifier_in b i ≡ true → reads_at (view b) f i ≡ holds (view b).subframes f (sample (parameter_at b i) 0) (value_in b i)
  identifier_reads h = stored ∙ rw h

-- ---- all of them

module _ (b f : List ℕ) (r : Ruled b) where
  -- a parameter lies in a subframe of the table
  lies_inside : (i : ℕ) → i < parameters_in b → (1 ≤ lies (parameter (view b) i)) × (lies (parameter (view b) i) ≤ subframes (view b))
  lies_inside i l =
      let p = r.parameters.each i l in
      let s = p.each 0 (omega (arith, p.some)) in
      let k = s.each 0 (omega (arith, s.some)) in
      rw (parameter_view b i l) (k.some_home, k.declared)

  abbrev first : ℕ
  first = find (subframes (view b)) (λ s. differs_in (view b) f (s + 1))

  passed : (t : Bool) → ltb first (subframes (view b)) ≡ t → compared_number (cond t (Ok (Some (first + 1))) (Ok None)) ≡ 0 → subframes (view b) ≤ first
  unfolding compared_number
  passed true e h = absurd (omega arith)
  passed false e h = ltb-false _ _ e

  none_in : subframes (view b) ≤ first → (s : ℕ) → 1 ≤ s → s ≤ subframes (view b) → differs_in (view b) f s ≡ false
  none_in n s l m = sym (refuse _ (λ h. over (find_least (subframes (view b)) (λ s. differs_in (view b) f (s + 1)) (s - 1) (omega arith) (ap (differs_in (view b) f) back ∙ h))))
    where
      back : s - 1 + 1 ≡ s
      back = omega arith

      over : first ≤ s - 1 → ⊥
      over o = omega arith

  none_at : (s i : ℕ) → i < parameters_in b → differs_in (view b) f s ≡ false → differs_at (view b) f s i ≡ false
  unfolding differs_in
  none_at s i l h = sym (refuse _ (λ d. differ h (any_made (parameters (view b)) (differs_at (view b) f s) i (omega (arith, parameters_view b)) d)))

  passes_read : compared_number (compared_in (view b) f) ≡ 0 → (i : ℕ) → i < parameters_in b → reads_at (view b) f i ≡ true
  unfolding compared_in
  passes_read e i l =
      let n = passed _ refl e in
      let k = lies_inside i l in
      let s = lies (parameter (view b) i) in
      same_reads (view b) f s i refl (none_at s i l (none_in n s k.0 k.1))

  read_passes : ((i : ℕ) → i < parameters_in b → reads_at (view b) f i ≡ true) → compared_number (compared_in (view b) f) ≡ 0
  unfolding compared_number
  read_passes h =
      ap compared_number (all_agree b f (λ k l. none_differs b f (k + 1) (λ i o. reads_same (view b) f (k + 1) i (h i o))))

pub agrees_all : (b y : List ℕ) (p : ℕ) → Ruled b → agrees_at (view b) y p ≡ all (parameters_in b) (reads_at (view b) (frame_at (view b) y p))
unfolding agrees_at
agrees_all b y p r =
    let f = frame_at (view b) y p in
    same_tests _ _
    (λ h. all_made (parameters_in b) (reads_at (view b) f) (passes_read b f r (eqb-true _ _ h)))
    (λ h. eq-eqb _ _ (read_passes b f r (all_below (parameters_in b) (reads_at (view b) f) h)))
