-- A sample's overlap, and what its components are of a value, by their entries. Assumes nothing.
use mathlib.Core.Path.{◌≡◌, refl, sym, ap, ap₂, ◌∙◌, subst}
use mathlib.Core.Bool.{Bool, true, false, not}
use mathlib.Core.List.{List}
use Prim.Native.Nat.{ℕ, ◌+◌, ◌-◌, ◌≤◌, ◌<◌}
use native.Mathlib.Decide.{dec_lt}
use native.Mathlib.Omega.{arith}
use borrow.Author.Tests.{ne_eqb}
use lib.Dec.{eqb}
use lib.ListN.{length}
use Rattle.bits.specs.Word.{field}
use Rattle.lay.specs.Below.{all}
use Rattle.lay.proofs.Below.{all_below, any_made, any_none, sum_up}
use Rattle.lay.proofs.Tests.{holds_not}
use Rattle.sample.specs.declared.component.Component.{Component as Piece}
use Rattle.sample.specs.Component.{bits_of, Fits}
use Rattle.sample.specs.Joining.{part_of}
use Rattle.model.specs.Content.{component}
use Rattle.model.specs.Forms.{limits_in}
use Rattle.model.specs.Samples.{whole, piece, overlapped, place_in, holds_at, holds}
use Rattle.model.specs.Frame.{frame_words}
use Rattle.model.specs.Stored.{first_component_in, component_count_in}
use Rattle.model.specs.View.{component_at, sample_at, view}
use Rattle.model.specs.Meaning.{ComponentLaw, SampleLaw}
use Rattle.model.proofs.Pieces.{all_words, whole_fits, piece_fits}
use Rattle.model.proofs.Lapping.{last_none, width_is}
use Rattle.model.proofs.Views.{components_at, component_at_lem}
use Rattle.rules.specs.Ruled.{subframes_of, Ruled}
use Rattle.rules.proofs.Samplings.{narrow}

module _ (b : List ℕ) (j : ℕ) where
  -- component k overlaps none
  abbrev pub plain_at : ℕ → Bool
  plain_at k = eqb (component (sample_at b j) k).overlap 0

  pub some_laps : (k : ℕ) → k < component_count_in b j → ((component (sample_at b j) k).overlap ≡ 0 → ⊥) → overlapped (sample_at b j) ≡ true
  unfolding overlapped
  some_laps k l h =
      any_made (length (sample_at b j).components) (λ k. not (plain_at k)) k (omega (arith, components_at b j, l)) (holds_not _ (ne_eqb _ 0 h))

  module _ (r : SampleLaw (limits_in b) (subframes_of b) (sample_at b j)) where
    -- all but the last are looked at
    pub no_laps : all (component_count_in b j - 1) plain_at ≡ true → overlapped (sample_at b j) ≡ false
    unfolding overlapped
    no_laps h = any_none (length (sample_at b j).components) (λ k. not (plain_at k)) (λ k l. ap not (plain k l (dec_lt k (component_count_in b j - 1))))
      where
        plain : (k : ℕ) → k < length (sample_at b j).components → Dec (k < component_count_in b j - 1) → plain_at k ≡ true
        plain k l (yes m) = all_below (component_count_in b j - 1) plain_at h k m
        plain k l (no m) =
            ap (λ (n : ℕ). eqb n 0) (last_none (limits_in b) (sample_at b j) k (r.overlaps k l) (omega (arith, components_at b j, m)))

    -- no place is beyond the sample's width
    pub place_small : (k : ℕ) → k < component_count_in b j → place_in (subframes_of b) (sample_at b j) k + bits_of (piece (subframes_of b) (component (sample_at b j) k)) ≤ (limits_in b).width
    unfolding place_in
    place_small k l =
        let n = length (sample_at b j).components in
        let u = sum_up n (λ i. bits_of (piece (subframes_of b) (component (sample_at b j) i))) k (omega (arith, components_at b j, l)) in
        omega (arith, u, width_is (subframes_of b) (sample_at b j), r.narrow)

    module _ (f : List ℕ) (u : Ruled b) (e : length f ≡ frame_words (view b)) (k : ℕ) (l : k < component_count_in b j) {first : ℕ} (q : first ≡ first_component_in b j) where
      law : ComponentLaw (subframes_of b) (component (sample_at b j) k)
      law = r.each k (omega (arith, components_at b j, l))

      same : component (sample_at b j) k ≡ component_at b (first + k)
      same = component_at_lem b j k l ∙ ap (λ (n : ℕ). component_at b (n + k)) (sym q)

      long : length f ≡ all_words (subframes_of b)
      long = e ∙ unfold frame_words in refl

      -- it lies in the frame
      pub whole_in : {c : Piece} → c ≡ whole (subframes_of b) (component_at b (first + k)) → Fits (length f) c
      whole_in {c} is =
          subst (λ (p : Piece). Fits (length f) p) (ap (whole (subframes_of b)) same ∙ sym is)
          (subst (λ (n : ℕ). Fits n (whole (subframes_of b) (component (sample_at b j) k))) (sym long)
          (whole_fits (subframes_of b) _ law (narrow b u.subframes _ (omega (arith, law.some_home, law.declared)))))

      pub piece_in : {c : Piece} → c ≡ piece (subframes_of b) (component_at b (first + k)) → Fits (length f) c
      piece_in {c} is =
          subst (λ (p : Piece). Fits (length f) p) (ap (piece (subframes_of b)) same ∙ sym is)
          (subst (λ (n : ℕ). Fits n (piece (subframes_of b) (component (sample_at b j) k))) (sym long)
          (piece_fits (subframes_of b) _ law (narrow b u.subframes _ (omega (arith, law.some_home, law.declared)))))

      -- what it adds to the place
      pub piece_bits : {c : Piece} {n : ℕ} → c ≡ piece (subframes_of b) (component_at b (first + k)) → n ≡ bits_of c → n ≡ bits_of (piece (subframes_of b) (component (sample_at b j) k))
      piece_bits is h = h ∙ ap bits_of (is ∙ ap (piece (subframes_of b)) (sym same))

      -- its part against its bits of v
      pub holds_read : (v : ℕ) {c : Piece} {x y n at : ℕ} → c ≡ whole (subframes_of b) (component_at b (first + k)) → x ≡ part_of f c → n ≡ bits_of c → y ≡ field v at n → at ≡ place_in (subframes_of b) (sample_at b j) k → eqb x y ≡ holds_at (subframes_of b) f (sample_at b j) v k
      unfolding holds_at
      holds_read v {c} {x} {y} {n} {at} is ex en ey place =
          let c-is : c ≡ whole (subframes_of b) (component (sample_at b j) k) = is ∙ ap (whole (subframes_of b)) (sym same) in
          ap₂ eqb (ex ∙ ap (part_of f) c-is) (ey ∙ ap₂ (field v) place (en ∙ ap bits_of c-is))

  -- over the sample's own components
  pub holds_all : (f : List ℕ) (v : ℕ) → all (component_count_in b j) (holds_at (subframes_of b) f (sample_at b j) v) ≡ holds (subframes_of b) f (sample_at b j) v
  unfolding holds
  holds_all f v = ap (λ (n : ℕ). all n (holds_at (subframes_of b) f (sample_at b j) v)) (sym (components_at b j))
