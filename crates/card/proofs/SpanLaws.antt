-- A frame's spans over the bytes of a table. Assumes nothing.
use mathlib.Core.Path.{◌≡◌, refl, ap, ap₂, ◌∙◌}
use mathlib.Core.List.{List}
use Prim.Native.Nat.{ℕ, ◌+◌, ◌-◌, ◌*◌, ◌≤◌, ◌<◌}
use native.Mathlib.Numerals.{add-one}
use native.Mathlib.Omega.{arith}
use Rattle.lay.proofs.Below.{sum_most}
use Rattle.model.specs.Margin.{margin_bits, margin_as}
use Rattle.model.specs.Content.{Subframe, subframe, subframes}
use Rattle.model.specs.Forms.{sheet_limits, limits_in}
use Rattle.model.specs.Frame.{frame_words}
use Rattle.model.specs.Stored.{subframes_in, bits_in, words_in, leading_in, trailing_in, home_in, word_in, low_in, high_in, overlap_in}
use Rattle.model.specs.View.{subframe_at, component_at, view}
use Rattle.model.specs.Meaning.{ComponentLaw}
use Rattle.model.proofs.Margins.{known_number, known_most}
use Rattle.model.proofs.Views.{subframes_view, subframe_view}
use Rattle.rules.specs.Ruled.{subframes_of, SubframesLaw, Ruled}
use Rattle.rules.proofs.Widths.{word_small, high_small}
use Rattle.card.proofs.MarginLaws.{KnownAt}
use Rattle.carding.specs.Layout.{subframe_bits, bits_before, words_begin, word_begins, component_begins}

-- what a subframe's entry says, within its limits
pub record Narrow (b : List ℕ) (i : ℕ) : Type 0 where
  pub bits : bits_in b i ≤ sheet_limits.bits
  pub words : words_in b i ≤ sheet_limits.words

-- and its margins, where they are known
pub record MarginsNarrow (b : List ℕ) (i : ℕ) : Type 0 where
  pub leading : leading_in b i ≤ sheet_limits.margin
  pub trailing : trailing_in b i ≤ sheet_limits.margin

-- what a component's entry says
pub record Inside (b : List ℕ) (k : ℕ) : Type 0 where
  pub some_home : 1 ≤ home_in b k
  pub declared : home_in b k ≤ subframes_in b
  pub some_word : 1 ≤ word_in b k
  pub few_words : word_in b k ≤ sheet_limits.words
  pub some_bit : 1 ≤ low_in b k
  pub rising : low_in b k ≤ high_in b k
  pub few_bits : high_in b k ≤ sheet_limits.bits
  pub lapped : overlap_in b k < high_in b k + 1 - low_in b k

module _ (b : List ℕ) where
  pub span_first : bits_before (view b) 0 ≡ 0
  unfolding bits_before
  span_first = refl

  module _ (i : ℕ) (l : i < subframes_in b) where
    module _ (k : KnownAt b i) where
      bits_there : subframe_bits (subframe (view b) i) ≡ leading_in b i + words_in b i * bits_in b i + trailing_in b i
      unfolding subframe_bits subframe_at
      bits_there =
          ap subframe_bits (subframe_view b i l)
          ∙ ap₂ (λ (m n : ℕ). m + words_in b i * bits_in b i + n) (known_number (leading_in b i) k.leading) (known_number (trailing_in b i) k.trailing)

      pub span_next : bits_before (view b) (i + 1) ≡ bits_before (view b) i + (leading_in b i + words_in b i * bits_in b i + trailing_in b i)
      unfolding bits_before
      span_next = rw add-one (ap (λ (n : ℕ). bits_before (view b) i + n) bits_there)

      pub begins_there : words_begin (view b) i ≡ bits_before (view b) i + leading_in b i
      unfolding words_begin subframe_at
      begins_there =
          ap (λ (f : Subframe). bits_before (view b) i + margin_bits f.leading) (subframe_view b i l)
          ∙ ap (λ (n : ℕ). bits_before (view b) i + n) (known_number (leading_in b i) k.leading)

      pub margins_there : SubframesLaw b → MarginsNarrow b i
      unfolding subframe_at
      margins_there r =
          let s = r.each i l in
          let w = r.within in
          let a = known_most (limits_in b) (margin_as (leading_in b i)) s.leading k.leading in
          let z = known_most (limits_in b) (margin_as (trailing_in b i)) s.trailing k.trailing in
          let m = known_number (leading_in b i) k.leading in
          let n = known_number (trailing_in b i) k.trailing in
          record { leading = omega (arith, a, m, w.margin); trailing = omega (arith, z, n, w.margin) }

    pub bits_are : (subframe (view b) i).bits ≡ bits_in b i
    unfolding subframe_at
    bits_are = ap (λ (f : Subframe). f.bits) (subframe_view b i l)

    pub words_are : (subframe (view b) i).words ≡ words_in b i
    unfolding subframe_at
    words_are = ap (λ (f : Subframe). f.words) (subframe_view b i l)

    pub narrow_there : SubframesLaw b → Narrow b i
    unfolding subframe_at
    narrow_there r =
        let s = r.each i l in
        let w = r.within in
        record {
          bits = omega (arith, s.few_bits, w.bits);
          words = omega (arith, s.few_words, w.words);
        }

  pub few_words_lem : Ruled b → frame_words (view b) ≤ sheet_limits.words * sheet_limits.subframes
  unfolding frame_words
  few_words_lem r =
      let n = subframes_view b in
      let m = sum_most sheet_limits.words (subframes (view b)) (λ i. (subframe (view b) i).words)
      (λ i l. let o : i < subframes_in b = omega (arith, n) in let w = words_are i o in let v = narrow_there i o r.subframes in omega (arith, w, v.words)) in
      omega (arith, m, n, r.laid.head.sized.few_subframes)

  module _ (k : ℕ) (r : SubframesLaw b) (c : ComponentLaw (subframes_of b) (component_at b k)) where
    pub inside : Inside b k
    unfolding component_at
    inside =
        let n = subframes_view b in
        let h : home_in b k ≤ subframes_in b = omega (arith, c, n) in
        record {
          some_home = c.some_home;
          declared = h;
          some_word = c.some_word;
          few_words = word_small b r k c;
          some_bit = c.some_bit;
          rising = c.rising;
          few_bits = high_small b r k c;
          lapped = c.lapped;
        }

    pub component_there : component_begins (view b) (component_at b k) ≡ words_begin (view b) (home_in b k - 1) + (word_in b k - 1) * bits_in b (home_in b k - 1) + (low_in b k - 1)
    unfolding component_begins word_begins component_at
    component_there =
        let o : home_in b k - 1 < subframes_in b = omega (arith, inside) in
        rw (bits_are (home_in b k - 1) o)
