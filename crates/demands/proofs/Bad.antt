-- A bench that refuses no read, no placing and no comparison, and wipes the words on bad input: it does not meet the demands.
-- Each of these by itself is refuted in Useless. Assumes nothing.
use Prim.Native.Nat.{ℕ}
use mathlib.Core.Path.{◌≡◌, refl}
use mathlib.Core.List.{List, []}
use lib.IntN.{pos}
use Rattle.framing.specs.Reading.{Read, read_of, read_number}
use Rattle.framing.specs.Placing.{place_of, placed_of}
use Rattle.framing.specs.declared.read.Reading.TheVariants.{Sample}
use Rattle.demands.specs.Calls.{Calls}
use Rattle.demands.specs.Demands.{Demands}
use Rattle.demands.proofs.Ours.{ours}
use Rattle.demands.proofs.Useless.{some_read_refused}
use Rattle.std.specs.Prelude.{Ok, Err, None}
use Rattle.framing.specs.Placing.{Placed}

-- a refused read is answered with 7 of 3 bits
abbrev answered : Read → Read
answered (Ok r) = Ok r
answered (Err w) = Ok (Sample 7 3 (pos 7))

-- the words are wiped on bad input
abbrev wiped : Placed → List ℕ → List ℕ
wiped (Ok _) g = g
wiped (Err w) g = []

abbrev bad : Calls
bad =
    record {
      make = ours.make;
      made = ours.made;
      check = ours.check;
      read = λ t f p s. answered (read_of t f p s);
      place = λ t f p s v. (Ok tt);
      placed = λ t f p s v. wiped (place_of t f p s v) (placed_of t f p s v);
      compare = λ t f. Ok None;
      page = ours.page;
      paged = ours.paged;
      name = ours.name;
      name_number = ours.name_number;
      name_by = ours.name_by;
      name_by_number = ours.name_by_number;
      card_from = ours.card_from;
      handed_from = ours.handed_from;
      card = ours.card;
      handed = ours.handed;
      frame_bits = ours.frame_bits;
    }

pub bad_refuted : Demands bad → ⊥
bad_refuted D = some_read_refused bad D (λ t f p s. go (read_of t f p s))
  where
    go : (r : Read) → read_number (answered r) ≡ 0
    go (Ok r) = unfold read_number in refl
    go (Err w) = unfold read_number in refl
