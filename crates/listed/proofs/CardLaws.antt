-- A row of a card's listing: the position, a comma, the listing's row. Assumes nothing.
use mathlib.Core.List.{List, [], ◌∷◌, ◌++◌}
use Prim.Native.Nat.{ℕ, ◌+◌, ◌≤◌, ◌<◌}
use native.Mathlib.Omega.{arith}
use lib.ListN.{length, length-append}
use Rattle.model.specs.Stored.{parameters_in}
use Rattle.model.specs.View.{view}
use Rattle.rules.specs.Ruled.{Ruled}
use Rattle.listed.specs.Cards.{card_row, card_row_most}
use Rattle.listed.specs.Decimals.{decimal_text}
use Rattle.listed.specs.Lines.{comma}
use Rattle.listed.specs.Listing.{sample_row, row_most}
use Rattle.listed.proofs.DecimalLaws.{decimal_short}
use Rattle.listed.proofs.LineLaws.{Step, Room, part_step, room_start, room_step, field_short}
use Rattle.listed.proofs.RowLaws.{row_most_lem}

module _ (b : List ℕ) (h : Ruled b) (i : ℕ) (l : i < parameters_in b) (f : List ℕ) (p : ℕ) where
  pub card_row_most_lem : (j : ℕ) → length (card_row (view b) f p i j) ≤ card_row_most
  unfolding card_row
  card_row_most_lem j =
      omega (arith, length-append (decimal_text p) (comma ∷ sample_row (view b) f i j), decimal_short p, row_most_lem b h i l f j)

  module _ (out : List ℕ) (o : ℕ) (r : o + card_row_most ≤ length out) (m : List ℕ) (a : ℕ) (s : Step out o (decimal_text p ++ (comma ∷ [])) a m) where
    room : Room out a m (o + 21)
    room = room_step out out m (decimal_text p ++ (comma ∷ [])) o a o 21 (room_start out o) (field_short p comma) (omega (arith, r)) s

    pub row_room : a + row_most ≤ length m
    row_room = omega (arith, r, room.long, room.here)

    pub card_row_put : (j e : ℕ) (after : List ℕ) → Step m a (sample_row (view b) f i j) e after → Step out o (card_row (view b) f p i j) e after
    unfolding card_row
    card_row_put j e after t =
        part_step out m after (decimal_text p) (sample_row (view b) f i j) o a e comma s t (omega (arith, r, room.here, row_most_lem b h i l f j))
