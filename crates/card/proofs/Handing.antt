-- The rows of words that make a frame, over the bytes of a table. Assumes nothing.
use mathlib.Core.Path.{◌≡◌, refl, sym, ap, ◌∙◌}
use mathlib.Core.List.{List}
use Prim.Native.Nat.{ℕ, ◌+◌, ◌*◌, ◌≤◌, ◌<◌}
use native.Mathlib.Nat.{add_assoc}
use native.Mathlib.Numerals.{add-one}
use native.Mathlib.Omega.{arith}
use lib.ListN.{length}
use Rattle.lay.specs.Below.{sum, tab, flat}
use Rattle.lay.specs.Bytes.{put}
use Rattle.lay.proofs.Below.{sum_up, sum_more, length_tab, tab_same}
use Rattle.lay.proofs.Puts.{put_none, put_then, length_put}
use Rattle.stream.specs.Stream.{bits_from}
use Rattle.model.specs.Content.{subframe, subframes}
use Rattle.model.specs.Frame.{frame_words}
use Rattle.model.specs.Stored.{subframes_in, bits_in, words_in}
use Rattle.model.specs.View.{view}
use Rattle.model.proofs.Views.{subframes_view}
use Rattle.carding.specs.Layout.{words_begin, word_begins, word_in, frame_at}
use Rattle.carding.proofs.Frames.{row, rows_length, frame_rows}
use Rattle.card.proofs.SpanLaws.{bits_are, words_are}

module _ (b y : List ℕ) (p : ℕ) where
  -- the words before subframe i
  abbrev pub words_to : ℕ → ℕ
  words_to i = sum i (λ k. (subframe (view b) k).words)

  -- the row that is read: begin is where its words begin
  pub row_read : (i : ℕ) → i < subframes_in b → (begin bits count : ℕ) → begin ≡ words_begin (view b) i → bits ≡ bits_in b i → count ≡ words_in b i → tab count (λ w. bits_from y (p + begin + w * bits) bits) ≡ row (view b) y p i
  unfolding word_in word_begins
  row_read i l begin bits count e f g =
      let n = (subframe (view b) i).bits in
      rw (e, f ∙ sym (bits_are b i l), g ∙ sym (words_are b i l))
      (tab_same (subframe (view b) i).words _ _ (λ w m. ap (λ (k : ℕ). bits_from y k n) (add_assoc p (words_begin (view b) i) (w * n))))

  -- the rows before i stand in the words, and nothing else is changed
  pub record Handed (out₀ out : List ℕ) (count at i : ℕ) : Type 0 where
    pub counted : count ≡ subframes_in b
    pub within : i ≤ count
    pub room : frame_words (view b) ≤ length out₀
    pub long : length out ≡ length out₀
    pub stands : at ≡ words_to i
    pub done : out ≡ put out₀ 0 (flat i (row (view b) y p))

  pub handed_none : (out₀ : List ℕ) (count : ℕ) → count ≡ subframes_in b → frame_words (view b) ≤ length out₀ → Handed out₀ out₀ count 0 0
  handed_none out₀ count e r =
      record { counted = e; within = omega arith; room = r; long = refl; stands = refl; done = sym (put_none out₀ 0) }

  module _ {out₀ out : List ℕ} {count at i : ℕ} (v : Handed out₀ out count at i) where
    module _ (l : i < count) where
      -- the next row is the frame's, and has room
      pub next_inside : at + (subframe (view b) i).words ≤ frame_words (view b)
      unfolding frame_words
      next_inside = omega (arith, v, sum_up (subframes (view b)) (λ k. (subframe (view b) k).words) i (omega (arith, v, subframes_view b)))

      pub next_room : at + (subframe (view b) i).words ≤ length out₀
      next_room = omega (arith, v.room, next_inside)

      pub handed_more : {after : List ℕ} {n : ℕ} → after ≡ put out at (row (view b) y p i) → n ≡ (subframe (view b) i).words → Handed out₀ after count (at + n) (i + 1)
      handed_more {after} {n} e f =
          let k = rows_length (view b) y p i in
          let m = length_tab (subframe (view b) i).words (word_in (view b) y p i) in
          record {
            counted = v.counted;
            within = omega (arith, v);
            room = v.room;
            long = ap length e ∙ length_put out at (row (view b) y p i) (omega (arith, v.long, m, next_room)) ∙ v.long;
            stands = omega (arith, v.stands, f, sum_more i (λ k. (subframe (view b) k).words));
            done = rw add-one (put_then out₀ out after 0 (flat i (row (view b) y p)) (row (view b) y p i) at v.done e (omega (arith, v.stands, k)) (omega (arith, m, next_room)));
          }

    pub handed_all : count ≤ i → out ≡ put out₀ 0 (frame_at (view b) y p)
    handed_all l =
        let q : i ≡ subframes (view b) = omega (arith, v, subframes_view b) in
        v.done ∙ ap (λ (n : ℕ). put out₀ 0 (flat n (row (view b) y p))) q ∙ ap (put out₀ 0) (sym (frame_rows (view b) y p))
