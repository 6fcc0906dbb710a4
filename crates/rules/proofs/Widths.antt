-- A sample's width, or 0 where it is not lawful. Assumes nothing.
use mathlib.Core.Path.{◌≡◌, refl, sym, ap, ◌∙◌}
use mathlib.Core.Bool.{Bool, true, false, cond}
use mathlib.Core.List.{List}
use Rattle.std.specs.Prelude.{Some, None}
use Prim.Native.Nat.{ℕ, ◌+◌, ◌-◌, ◌≤◌, ◌<◌}
use native.Mathlib.Omega.{arith}
use Rattle.lay.proofs.Tests.{refuse}
use Rattle.sample.specs.Joining.{width}
use Rattle.model.specs.Forms.{sheet_limits, limits_in}
use Rattle.model.specs.Sound.{Within}
use Rattle.model.specs.Samples.{piece, width_of}
use Rattle.model.specs.Stored.{first_component_in, component_count_in, home_in, low_in, high_in, overlap_in, word_in}
use Rattle.model.specs.View.{subframe_at, component_at, sample_at}
use Rattle.model.specs.Meaning.{ComponentLaw, SampleLaw}
use Rattle.model.proofs.Meanings.{sample_law, sample_made}
use Rattle.model.proofs.Views.{subframes_view}
use Rattle.rules.specs.Ruled.{subframes_of, SubframesLaw, components_ok, components_width, lawful_width}
use Rattle.rules.proofs.Homes.{home_words, home_bits}
use Rattle.rules.proofs.Samplings.{left, left_next, left_none, passes}

-- ---- one component, by limits that are not above the newest form's

module _ (b : List ℕ) (f : SubframesLaw b) (k : ℕ) (r : ComponentLaw (subframes_of b) (component_at b k)) where
  pub word_small : word_in b k ≤ sheet_limits.words
  unfolding component_at
  word_small =
      let n = subframes_view b in
      let h = home_words b k r.some_home (omega (arith, r.declared)) in
      let s = (f.each (home_in b k - 1) (omega (arith, r.some_home, r.declared))).few_words in
      unfold subframe_at in
      omega (arith, r.word, h, s, f.within.words)

  pub high_small : high_in b k ≤ sheet_limits.bits
  unfolding component_at
  high_small =
      let n = subframes_view b in
      let h = home_bits b k r.some_home (omega (arith, r.declared)) in
      let s = (f.each (home_in b k - 1) (omega (arith, r.some_home, r.declared))).few_bits in
      unfold subframe_at in
      omega (arith, r.in_word, h, s, f.within.bits)

  pub low_some : (1 ≤ low_in b k) × (low_in b k ≤ high_in b k)
  unfolding component_at
  low_some = (r.some_bit, r.rising)

  pub overlap_fewer : overlap_in b k < high_in b k + 1 - low_in b k
  unfolding component_at
  overlap_fewer = r.lapped

-- ---- the components' width

module _ (b : List ℕ) (j : ℕ) where
  -- the width of what is left, component after component
  pub left_width : (k : ℕ) → k < component_count_in b j → width (left b j k) ≡ high_in b (first_component_in b j + k) - overlap_in b (first_component_in b j + k) + 1 - low_in b (first_component_in b j + k) + width (left b j (k + 1))
  unfolding width piece component_at
  left_width k l = ap width (left_next b j k l)

  pub left_over : (k : ℕ) → component_count_in b j ≤ k → width (left b j k) ≡ 0
  unfolding width
  left_over k l = ap width (left_none b j k l)

  pub components_none : (components_ok b j ≡ true → ⊥) → None ≡ components_width b j
  unfolding components_width
  components_none n = ap (λ (t : Bool). cond t (Some (width_of (subframes_of b) (sample_at b j))) None) (refuse _ n)

  pub components_all_lem : components_ok b j ≡ true → components_width b j ≡ Some (width_of (subframes_of b) (sample_at b j))
  unfolding components_width
  components_all_lem h = ap (λ (t : Bool). cond t (Some (width_of (subframes_of b) (sample_at b j))) None) h

  -- what a width tells
  pub measured : (w : ℕ) → components_width b j ≡ Some w → (components_ok b j ≡ true) × (w ≡ width_of (subframes_of b) (sample_at b j))
  unfolding components_width
  measured w e = go (components_ok b j) e
    where
      go : (t : Bool) → cond t (Some (width_of (subframes_of b) (sample_at b j))) None ≡ Some w → (t ≡ true) × (w ≡ width_of (subframes_of b) (sample_at b j))
      go true e = (refl, cc)
      go false e = absurd (cc)

  -- ---- the sample's

  pub unlawful : (SampleLaw (limits_in b) (subframes_of b) (sample_at b j) → ⊥) → None ≡ lawful_width b j
  unfolding lawful_width
  unlawful n = ap (λ (t : Bool). cond t (Some (width_of (subframes_of b) (sample_at b j))) None) (refuse _ (λ h. n (sample_law (limits_in b) (subframes_of b) (sample_at b j) h)))

  pub lawful_is : SampleLaw (limits_in b) (subframes_of b) (sample_at b j) → Some (width_of (subframes_of b) (sample_at b j)) ≡ lawful_width b j
  unfolding lawful_width
  lawful_is r = ap (λ (t : Bool). cond t (Some (width_of (subframes_of b) (sample_at b j))) None) (sym (sample_made (limits_in b) (subframes_of b) (sample_at b j) r))

  -- a lawful sample's components have one
  pub some_width : Within (limits_in b) sheet_limits → SampleLaw (limits_in b) (subframes_of b) (sample_at b j) → components_width b j ≡ None → ⊥
  some_width w r e = no_width (sym (components_all_lem (passes b j w r)) ∙ e)
    where
      no_width : Some (width_of (subframes_of b) (sample_at b j)) ≡ None → ⊥
      no_width e = cc
