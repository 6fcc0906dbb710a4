-- A sample read straight from the stream is what the frame at that position gives. Assumes nothing.
use mathlib.Core.Path.{◌≡◌, sym, ap, ◌∙◌, subst}
use mathlib.Core.List.{List}
use Prim.Native.Nat.{ℕ, ◌+◌, ◌-◌, ◌<◌}
use native.Mathlib.Omega.{arith}
use lib.Dec.{eqb}
use lib.ListN.{length, get_or}
use Rattle.bits.specs.Word.{bit_at, field}
use Rattle.lay.specs.Below.{tab}
use Rattle.lay.proofs.Below.{sum_same, all_same, length_tab, get_or_tab, get_or_flat}
use Rattle.stream.specs.Stream.{stream_bit}
use Rattle.stream.proofs.Streams.{from_bit}
use Rattle.sample.specs.Component.{Place, Names, Named}
use Rattle.sample.specs.Flat.{before, position}
use Rattle.sample.specs.Joining.{join}
use Rattle.sample.specs.Source.{bit_in, gather, places}
use Rattle.sample.proofs.Sources.{join_gather, sources_agree}
use Rattle.model.specs.Content.{Content, Component, Parameter, Sample, subframe, subframes, parameter, sample, component}
use Rattle.model.specs.Samples.{word_counts, whole, wholes, pieces, place_in, holds_at, holds}
use Rattle.model.specs.Rules.{bit_count}
use Rattle.model.specs.Limits.{Limits}
use Rattle.model.specs.Forms.{limits_in}
use Rattle.model.specs.Meaning.{ComponentLaw, SampleLaw}
use Rattle.model.specs.Stored.{parameters_in}
use Rattle.model.specs.View.{view}
use Rattle.model.proofs.Lapping.{tab_named, given_named}
use Rattle.model.proofs.Views.{parameter_view}
use Rattle.rules.specs.Ruled.{Ruled}
use Rattle.framing.specs.Reading.{raw_of}
use Rattle.carding.specs.Layout.{word_begins, word_in, frame_at, word_starts, source_at, raw_at, held_from, Carries}
use Rattle.carding.proofs.Frames.{before_sum, frame_word, frame_meets, frame_part}

-- ---- the frame and the stream, bit by bit

module _ (c : Content) (y : List ℕ) (p : ℕ) where
  -- where word w of subframe i begins, in the frame's order
  begins_word : (i w : ℕ) → i < subframes c → w < (subframe c i).words → get_or (word_starts c) (before (word_counts c.subframes) (i + 1) + w) 0 ≡ word_begins c i w
  unfolding word_starts
  begins_word i w l m =
      let long = sum_same i (λ k. length (tab (subframe c k).words (word_begins c k))) (λ k. (subframe c k).words) (λ k o. length_tab (subframe c k).words (word_begins c k)) in
      ap (λ (n : ℕ). get_or (word_starts c) (n + w) 0) (before_sum c i (omega arith) ∙ sym long)
      ∙ get_or_flat (subframes c) (λ i. tab (subframe c i).words (word_begins c i)) 0 i w l (omega (arith, length_tab (subframe c i).words (word_begins c i)))
      ∙ get_or_tab (subframe c i).words (word_begins c i) 0 w m

  -- "equal to the stream's bits": bit j of word w of subframe i
  pub frame_bit : (i w j : ℕ) → i < subframes c → w < (subframe c i).words → j < (subframe c i).bits
      → bit_at (get_or (frame_at c y p) (before (word_counts c.subframes) (i + 1) + w) 0) j ≡ stream_bit y (p + word_begins c i w + j)
  unfolding word_in
  frame_bit i w j l m o =
      ap (λ (x : ℕ). bit_at x j) (frame_word c y p i w l m) ∙ from_bit y (p + word_begins c i w) (subframe c i).bits j o

  -- the frame at p carries them
  pub frame_carries : Carries c y p (frame_at c y p)
  frame_carries = record { fits = frame_meets c y p; bit = frame_bit }

  component_bit : (d : Component) → ComponentLaw c.subframes d → (q : Place) → Names (whole c.subframes d) q → source_at c y p q ≡ bit_in (frame_at c y p) q
  unfolding source_at whole position
  component_bit d r q n =
      let i : ℕ = d.subframe - 1 in
      let w : ℕ = d.word - 1 in
      let e : d.subframe ≡ i + 1 = omega (arith, r) in
      let here : before (word_counts c.subframes) (i + 1) + w ≡ q.word = ap (λ (k : ℕ). before (word_counts c.subframes) k + w) (sym e) ∙ n.0 in
      let l : i < subframes c = omega (arith, r) in
      let m : w < (subframe c i).words = omega (arith, r) in
      ap (λ (k : ℕ). stream_bit y (p + get_or (word_starts c) k 0 + q.bit)) (sym here)
      ∙ ap (λ (k : ℕ). stream_bit y (p + k + q.bit)) (begins_word i w l m)
      ∙ sym (frame_bit i w q.bit l m (omega (arith, r, n.1, n.2)))
      ∙ ap (λ (k : ℕ). bit_at (get_or (frame_at c y p) k 0) q.bit) here

  -- a bit that some component of a sample names
  pub named_bit : {lim : Limits} (s : Sample) → SampleLaw lim c.subframes s → (q : Place) → Named (wholes c.subframes s) q → source_at c y p q ≡ bit_in (frame_at c y p) q
  unfolding wholes
  named_bit s r q h =
      tab_named (length s.components) (λ k. whole c.subframes (component s k)) q _ (λ k l n. component_bit (component s k) (r.each k l) q n) h

  pub sample_straight : {lim : Limits} (s : Sample) → SampleLaw lim c.subframes s → gather (source_at c y p) (places (pieces c.subframes s)) ≡ join (frame_at c y p) (pieces c.subframes s)
  sample_straight s r =
      sources_agree (source_at c y p) (bit_in (frame_at c y p)) (pieces c.subframes s) (λ q h. named_bit s r q (given_named c.subframes s q h))
      ∙ sym (join_gather (frame_at c y p) (pieces c.subframes s))

  -- and its components against a value, each where it stands
  pub held_straight : {lim : Limits} (s : Sample) → SampleLaw lim c.subframes s → (v : ℕ) → held_from c y p s v ≡ holds c.subframes (frame_at c y p) s v
  unfolding held_from holds holds_at whole
  held_straight s r v =
      all_same (length s.components) _ (holds_at c.subframes (frame_at c y p) s v)
      (λ k l.
      ap (λ (x : ℕ). eqb x (field v (place_in c.subframes s k) (bit_count (component s k))))
      (sym (frame_part c y p (component s k) (r.each k l))))

-- of a table that the check accepts, every sample
module _ (b y : List ℕ) (p i j : ℕ) (r : Ruled b) (l : i < parameters_in b) (m : j < length (parameter (view b) i).samples) where
  law : SampleLaw (limits_in b) (view b).subframes (sample (parameter (view b) i) j)
  law = rw (parameter_view b i l) ((r.parameters.each i l).each j (subst (λ (q : Parameter). j < length q.samples) (parameter_view b i l) m))

  pub straight : raw_at (view b) y p i j ≡ raw_of (view b) (frame_at (view b) y p) i j
  unfolding raw_at raw_of
  straight = sample_straight (view b) y p (sample (parameter (view b) i) j) law

  pub straight_bit : (q : Place) → Named (wholes (view b).subframes (sample (parameter (view b) i) j)) q → source_at (view b) y p q ≡ bit_in (frame_at (view b) y p) q
  straight_bit = named_bit (view b) y p (sample (parameter (view b) i) j) law

  pub straight_held : (v : ℕ) → held_from (view b) y p (sample (parameter (view b) i) j) v ≡ holds (view b).subframes (frame_at (view b) y p) (sample (parameter (view b) i) j) v
  straight_held = held_straight (view b) y p (sample (parameter (view b) i) j) law
