-- The frame at a position: its words, that it meets the table, and what its components hold. Assumes nothing.
use mathlib.Core.Path.{◌≡◌, refl, sym, ap, ap₂, ◌∙◌}
use mathlib.Core.Bool.{true}
use mathlib.Core.List.{List}
use Prim.Native.Nat.{ℕ, zero, suc, ◌+◌, ◌-◌, ◌≤◌, ◌<◌}
use native.Mathlib.Nat.{add_assoc}
use native.Mathlib.Omega.{arith}
use lib.ListN.{length, get_or}
use Rattle.bits.specs.Word.{field}
use Rattle.lay.specs.Below.{sum, tab, flat}
use Rattle.lay.proofs.Below.{sum_same, length_tab, get_or_tab, length_flat, get_or_flat}
use Rattle.stream.specs.Stream.{bits_from}
use Rattle.stream.proofs.Streams.{from_lt, field_from_lem}
use Rattle.sample.specs.Flat.{before, position}
use Rattle.sample.specs.Joining.{part_of}
use Rattle.sample.specs.Component.{bits_of}
use Rattle.sample.proofs.Flats.{before_first, before_next}
use Rattle.model.specs.Content.{Content, Component, subframe, subframes}
use Rattle.model.specs.Samples.{word_counts, whole}
use Rattle.model.specs.Frame.{frame_words, meets}
use Rattle.model.specs.Meaning.{ComponentLaw}
use Rattle.model.proofs.Frames.{meets_made}
use Rattle.carding.specs.Layout.{word_begins, word_in, frame_at, component_begins}

-- ---- how many words stand before a subframe

pub before_sum : (c : Content) (i : ℕ) → i ≤ subframes c → before (word_counts c.subframes) (i + 1) ≡ sum i (λ k. (subframe c k).words)
unfolding word_counts
before_sum c zero h = before_first (tab (subframes c) (λ k. (subframe c k).words))
before_sum c (suc i) h =
    let n = subframes c in
    let ws = tab n (λ k. (subframe c k).words) in
    let q : suc i + 1 ≡ i + 2 = omega arith in
    let e = length_tab n (λ k. (subframe c k).words) in
    ap (before ws) q
    ∙ before_next ws i (omega arith)
    ∙ ap₂ ◌+◌ (before_sum c i (omega arith)) (get_or_tab n (λ k. (subframe c k).words) 0 i (omega arith))

module _ (c : Content) (y : List ℕ) (p : ℕ) where
  -- a subframe's words
  abbrev pub row : ℕ → List ℕ
  row i = tab (subframe c i).words (word_in c y p i)

  rows_long : (n : ℕ) → sum n (λ k. length (row k)) ≡ sum n (λ k. (subframe c k).words)
  rows_long n = sum_same n _ _ (λ k l. length_tab (subframe c k).words (word_in c y p k))

  pub frame_rows : frame_at c y p ≡ flat (subframes c) row
  unfolding frame_at
  frame_rows = refl

  pub rows_length : (n : ℕ) → length (flat n row) ≡ sum n (λ k. (subframe c k).words)
  rows_length n = length_flat n row ∙ rows_long n

  pub frame_long : length (frame_at c y p) ≡ frame_words c
  unfolding frame_at frame_words
  frame_long = length_flat (subframes c) row ∙ rows_long (subframes c)

  -- word w of subframe i, where the frame has it
  pub frame_word : (i w : ℕ) → i < subframes c → w < (subframe c i).words → get_or (frame_at c y p) (before (word_counts c.subframes) (i + 1) + w) 0 ≡ word_in c y p i w
  unfolding frame_at
  frame_word i w l m =
      let e = length_tab (subframe c i).words (word_in c y p i) in
      ap (λ (n : ℕ). get_or (frame_at c y p) (n + w) 0) (before_sum c i (omega arith) ∙ sym (rows_long i))
      ∙ get_or_flat (subframes c) row 0 i w l (omega arith)
      ∙ get_or_tab (subframe c i).words (word_in c y p i) 0 w m

  -- "words handed out meet the table"
  pub frame_meets : meets c (frame_at c y p) ≡ true
  unfolding word_in
  frame_meets =
      meets_made c (frame_at c y p)
      (record {
        long = frame_long;
        below = λ i w l m. rw (frame_word i w l m) (from_lt y (p + word_begins c i w) (subframe c i).bits);
      })

  -- what a component holds stands in the stream as it is: no word need be cut for it
  pub frame_part : (d : Component) → ComponentLaw c.subframes d → part_of (frame_at c y p) (whole c.subframes d) ≡ bits_from y (p + component_begins c d) (bits_of (whole c.subframes d))
  unfolding part_of whole position word_in component_begins
  frame_part d r =
      let i : ℕ = d.subframe - 1 in
      let w : ℕ = d.word - 1 in
      let s : ℕ = d.low - 1 in
      let n : ℕ = d.high + 1 - d.low in
      let e : d.subframe ≡ i + 1 = omega (arith, r) in
      ap (λ (k : ℕ). field (get_or (frame_at c y p) (before (word_counts c.subframes) k + w) 0) s n) e
      ∙ ap (λ (x : ℕ). field x s n) (frame_word i w (omega (arith, r)) (omega (arith, r)))
      ∙ field_from_lem y (p + word_begins c i w) (subframe c i).bits s n (omega (arith, r))
      ∙ ap (λ (k : ℕ). bits_from y k n) (add_assoc p (word_begins c i w) s)
