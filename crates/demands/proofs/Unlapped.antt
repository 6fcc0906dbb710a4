-- Without overlap everything is what it was: a sample is the joining of all its components' bits, its copies agree, any value that
-- fits is placed into all of them, and an identifier agrees where its raw value is its own. The base's definitions, word for word, and
-- that a Content of a form without overlap is answered by them. Assumes nothing.
use mathlib.Core.Path.{◌≡◌, refl, sym, ap, ap₂, ◌∙◌, subst}
use mathlib.Core.Bool.{Bool, true, false, cond, not, ◌&&◌}
use mathlib.Core.List.{List}
use mathlib.Core.Logic.{◌⊎◌, inl, inr}
use Prim.Native.Nat.{ℕ, ◌+◌, ◌^◌, ◌<◌}
use native.Mathlib.Omega.{arith}
use borrow.Author.Tests.{eq-eqb, eqb-true}
use lib.Dec.{eqb, ltb}
use lib.IntN.{pos}
use lib.ListN.{length}
use Rattle.bits.specs.Sign.{signed}
use Rattle.lay.specs.Below.{any, find}
use Rattle.lay.proofs.Below.{any_none, any_same, find_same}
use Rattle.lay.proofs.Tests.{same_tests}
use Rattle.sample.specs.declared.component.Component.{Component as Piece}
use Rattle.sample.specs.Joining.{join, width}
use Rattle.sample.specs.Placing.{place}
use Rattle.model.specs.Content.{Content, parameter, parameters, sample, component, subframes}
use Rattle.model.specs.Limits.{Limits}
use Rattle.model.specs.Samples.{wholes, pieces, width_of, overlapped, holds}
use Rattle.model.specs.Identifiers.{lies}
use Rattle.model.specs.Meaning.{Lawful, IdentifiersLaw}
use Rattle.model.proofs.Pieces.{pieces_whole}
use Rattle.model.proofs.Lapping.{not_overlapped_lem, held_raw, plain_holds}
use Rattle.framing.specs.Reading.{Read, raw_of, width_is, value_of, copies_agree, sample_read}
use Rattle.framing.specs.Placing.{place_for, placed_for}
use Rattle.framing.specs.Comparing.{Compared, differs_at, differs_in, compared_in}
use Rattle.framing.specs.declared.read.Reading.TheVariants as reading
use Rattle.table.specs.declared.reason.Reason.TheVariants.{TooLarge}
use Rattle.std.specs.Prelude.{Ok, Err, Some, None}
use Rattle.framing.specs.Placing.{Placed}
use Rattle.framing.specs.Wanted.{Wanted}

-- ---- the base's definitions

abbrev pub base_components : Content → ℕ → ℕ → List Piece
base_components c i j = wholes c.subframes (sample (parameter c i) j)

abbrev pub base_raw : Content → List ℕ → ℕ → ℕ → ℕ
base_raw c f i j = join f (base_components c i j)

abbrev pub base_width : Content → ℕ → ℕ → ℕ
base_width c i j = width (base_components c i j)

abbrev pub base_read : Content → List ℕ → Wanted → Read
base_read c f (Ok (i, j)) =
    Ok (reading.Sample (base_raw c f i j) (base_width c i j) (cond (parameter c i).signed (signed (base_width c i j) (base_raw c f i j)) (pos (base_raw c f i j))))
base_read c f (Err r) = Err r

abbrev pub base_place : Content → Wanted → ℕ → Placed
base_place c (Ok (i, j)) v = cond (ltb v (2 ^ base_width c i j)) (Ok tt) (Err TooLarge)
base_place c (Err r) v = Err r

abbrev pub base_placed : Content → List ℕ → Wanted → ℕ → List ℕ
base_placed c f (Ok (i, j)) v = cond (ltb v (2 ^ base_width c i j)) (place f (base_components c i j) v) f
base_placed c f (Err r) v = f

abbrev pub base_differs_at : Content → List ℕ → ℕ → ℕ → Bool
base_differs_at c f s i = (parameter c i).identifier && (eqb (lies (parameter c i)) s && not (eqb (base_raw c f i 0) (parameter c i).value))

abbrev pub base_differs_in : Content → List ℕ → ℕ → Bool
base_differs_in c f s = any (parameters c) (base_differs_at c f s)

abbrev pub base_compared : Content → List ℕ → Compared
base_compared c f =
    cond (ltb (find (subframes c) (λ s. base_differs_in c f (s + 1))) (subframes c))
    (Ok (Some (find (subframes c) (λ s. base_differs_in c f (s + 1)) + 1)))
    (Ok None)

-- ---- one sample

module _ (c : Content) (i j : ℕ) (z : overlapped (sample (parameter c i) j) ≡ false) where
  same_components : pieces c.subframes (sample (parameter c i) j) ≡ base_components c i j
  same_components = pieces_whole c.subframes (sample (parameter c i) j) (not_overlapped_lem (sample (parameter c i) j) z)

  same_raw : (f : List ℕ) → raw_of c f i j ≡ base_raw c f i j
  unfolding raw_of
  same_raw f = ap (join f) same_components

  same_width : width_is c i j ≡ base_width c i j
  unfolding width_is width_of
  same_width = ap width same_components

  -- read
  pub plain_read : (f : List ℕ) → Ok (sample_read c f i j) ≡ base_read c f (Ok (i, j))
  unfolding sample_read value_of copies_agree raw_of
  plain_read f =
      rw (plain_holds c.subframes (sample (parameter c i) j) f (not_overlapped_lem (sample (parameter c i) j) z))
      (λ e. Ok (reading.Sample (same_raw f e) (same_width e) (cond (parameter c i).signed (signed (same_width e) (same_raw f e)) (pos (same_raw f e)))))

  -- placed
  pub plain_place : (v : ℕ) → place_for c (Ok (i, j)) v ≡ base_place c (Ok (i, j)) v
  unfolding place_for
  plain_place v = ap (λ (w : ℕ). cond (ltb v (2 ^ w)) (Ok tt) (Err TooLarge)) same_width

  pub plain_placed : (f : List ℕ) (v : ℕ) → placed_for c f (Ok (i, j)) v ≡ base_placed c f (Ok (i, j)) v
  unfolding placed_for
  plain_placed f v = ap₂ (λ (w : ℕ) (cs : List Piece). cond (ltb v (2 ^ w)) (place f cs v) f) same_width same_components

  -- compared
  plain_held : (f : List ℕ) (v : ℕ) → v < 2 ^ width_is c i j → holds c.subframes f (sample (parameter c i) j) v ≡ eqb (base_raw c f i j) v
  unfolding width_is raw_of
  plain_held f v l =
      same_tests _ _
      (λ h. eq-eqb _ _ (sym (same_raw f) ∙ held_raw c.subframes (sample (parameter c i) j) f v h l))
      (λ h.
      subst (λ (x : ℕ). holds c.subframes f (sample (parameter c i) j) x ≡ true) (same_raw f ∙ eqb-true _ _ h)
      (plain_holds c.subframes (sample (parameter c i) j) f (not_overlapped_lem (sample (parameter c i) j) z)))

-- ---- a Content by limits that allow no overlap

module _ (lim : Limits) (none : lim.overlap ≡ 0) (c : Content) (v : Lawful lim c) where
  pub none_overlaps : (i j : ℕ) → i < parameters c → j < length (parameter c i).samples → overlapped (sample (parameter c i) j) ≡ false
  unfolding overlapped
  none_overlaps i j l m =
      let s = sample (parameter c i) j in
      any_none (length s.components) (λ k. not (eqb (component s k).overlap 0))
      (λ k n. ap not (eq-eqb (component s k).overlap 0 (let r = (((v.each_parameter i l).each j m).overlaps k n).few in omega (arith, r, none))))

  same_differing : (f : List ℕ) (s i : ℕ) → i < parameters c → differs_at c f s i ≡ base_differs_at c f s i
  unfolding differs_at
  same_differing f s i l = go (parameter c i).identifier refl
    where
      held : IdentifiersLaw c → (parameter c i).identifier ≡ true → holds c.subframes f (sample (parameter c i) 0) (parameter c i).value ≡ eqb (base_raw c f i 0) (parameter c i).value
      held r t = plain_held c i 0 (none_overlaps i 0 l (omega (arith, (v.each_parameter i l).some))) f (parameter c i).value (unfold width_is in (r.each i l t).fits)

      identified : (parameters c ≡ 0) ⊎ IdentifiersLaw c → IdentifiersLaw c
      identified (inl e) = absurd (omega (arith, e, l))
      identified (inr r) = r

      go : (t : Bool) → (parameter c i).identifier ≡ t → (t && (eqb (lies (parameter c i)) s && not (holds c.subframes f (sample (parameter c i) 0) (parameter c i).value))) ≡ (t && (eqb (lies (parameter c i)) s && not (eqb (base_raw c f i 0) (parameter c i).value)))
      go false e = refl
      go true e = ap (λ (x : Bool). eqb (lies (parameter c i)) s && not x) (held (identified v.identifiers) e)

  pub plain_compared : (f : List ℕ) → compared_in c f ≡ base_compared c f
  unfolding compared_in differs_in
  plain_compared f =
      let same = find_same (subframes c) (λ s. differs_in c f (s + 1)) (λ s. base_differs_in c f (s + 1)) (λ s l. any_same (parameters c) (differs_at c f (s + 1)) (base_differs_at c f (s + 1)) (λ i m. same_differing f (s + 1) i m)) in
      ap (λ (n : ℕ). cond (ltb n (subframes c)) (Ok (Some (n + 1))) (Ok None)) same
