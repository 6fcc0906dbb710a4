-- A frame written onto a card is answered: at the first bit with its own words, behind other bits there or earlier. Assumes
-- nothing.
use mathlib.Core.Path.{◌≡◌, refl, sym, ap, ◌∙◌}
use mathlib.Core.Bool.{true}
use mathlib.Core.List.{List}
use Prim.Native.Nat.{ℕ, ◌≤◌}
use native.Mathlib.Omega.{arith}
use lib.ListN.{length}
use Rattle.lay.specs.Bytes.{put}
use Rattle.model.specs.Content.{parameters}
use Rattle.model.specs.Frame.{frame_words, meets}
use Rattle.model.specs.View.{view}
use Rattle.model.specs.Accepts.{accepts}
use Rattle.framing.specs.Comparing.{compared_in, compared_number}
use Rattle.carding.specs.Layout.{frame_at}
use Rattle.carding.specs.Search.{position_from}
use Rattle.carding.specs.Answer.{margins_told, carded_of, handed_of, longest_stream, found_at}
use Rattle.carding.specs.Writing.{Margins, written}
use Rattle.carding.proofs.CardCases.{handed_out, answered}
use Rattle.carding.proofs.Back.{there_and_back, written_found, written_whole}

-- a table that the check accepts and whose margins are known, a frame that meets it and that comparing passes, and room for its words
pub record Writable (b f words : List ℕ) : Type 0 where
  pub accepted : accepts b ≡ true
  pub some : parameters (view b) ≡ 0 → ⊥
  pub told : margins_told b ≡ true
  pub fits : meets (view b) f ≡ true
  pub passes : compared_number (compared_in (view b) f) ≡ 0
  pub room : frame_words (view b) ≤ length words

-- what is answered for a card
pub record AnsweredAt (b y words : List ℕ) (p : ℕ) : Type 0 where
  pub found : found_at p (frame_words (view b)) ≡ carded_of b y 0 words
  pub handed : put words 0 (frame_at (view b) y p) ≡ handed_of b y 0 words

module _ (b f words : List ℕ) (h : Writable b f words) (m : Margins) (k front n back : ℕ) where
  abbrev card : List ℕ
  card = written (view b) m f k front n back

  module _ (short : length card ≤ longest_stream) where
    answers : (p : ℕ) → p ≡ position_from (view b) card 0 → p ≤ k → AnsweredAt b card words p
    answers p e l =
        let s = handed_out (view b) card 0 words e (omega (arith, written_whole (view b) m f k front n back)) refl h.room refl in
        let a = answered b card 0 words h.accepted h.some h.told short s.0 s.1 in
        record { found = a.0; handed = a.1 }

    -- behind any bits: there or earlier
    pub answered_there : position_from (view b) card 0 ≤ k
    answered_there = written_found (view b) m f k front n back h.fits h.passes

    pub answered_so : AnsweredAt b card words (position_from (view b) card 0)
    answered_so = answers (position_from (view b) card 0) refl answered_there

-- at the first bit: position 0, and exactly these words in front of what was lent
module _ (b f words : List ℕ) (h : Writable b f words) (m : Margins) (n back : ℕ) (short : length (written (view b) m f 0 0 n back) ≤ longest_stream) where
  pub answered_first : (found_at 0 (frame_words (view b)) ≡ carded_of b (written (view b) m f 0 0 n back) 0 words) × (put words 0 f ≡ handed_of b (written (view b) m f 0 0 n back) 0 words)
  answered_first =
      let y = written (view b) m f 0 0 n back in
      let l = answered_there b f words h m 0 0 n back short in
      let a = answers b f words h m 0 0 n back short 0 (omega arith) (omega arith) in
      (a.found, ap (put words 0) (sym (there_and_back (view b) m f 0 0 n back h.fits)) ∙ a.handed)
