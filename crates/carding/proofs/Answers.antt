-- A card's position: the least of all, and none exactly when there is none. Assumes nothing.
use mathlib.Core.Path.{◌≡◌}
use mathlib.Core.Bool.{true, false}
use mathlib.Core.List.{List}
use Prim.Native.Nat.{ℕ, ◌+◌, ◌*◌, ◌≤◌, ◌<◌}
use native.Mathlib.Omega.{arith}
use borrow.Author.Tests.{le-leb, leb-true}
use lib.Dec.{leb}
use lib.ListN.{length}
use Rattle.lay.specs.Below.{find}
use Rattle.lay.proofs.Below.{find_holds, find_least}
use Rattle.lay.proofs.Tests.{and_0, and_1, and_both, differ}
use Rattle.model.specs.Content.{Content}
use Rattle.carding.specs.Layout.{frame_bits}
use Rattle.carding.specs.Search.{whole_at, agrees_at, sought_at, position_from, found_from, FirstFrame}

-- "a whole frame fits": its last trailing bit is the stream's
pub whole_inside : (c : Content) (y : List ℕ) (p : ℕ) → whole_at c y p ≡ true → p + frame_bits c ≤ 8 * length y
unfolding whole_at
whole_inside c y p w = leb-true (p + frame_bits c) (8 * length y) w

module _ (c : Content) (y : List ℕ) (from : ℕ) where
  -- a position that is sought is not before the answered one
  pub found_by : (p : ℕ) → from ≤ p → whole_at c y p ≡ true → agrees_at c y p ≡ true → position_from c y from ≤ p
  unfolding position_from
  found_by p a w g =
      let l = whole_inside c y p w in
      find_least (8 * length y + 1) (sought_at c y from) p (omega arith) (and_both (le-leb from p a) (and_both w g))

  pub found_first : found_from c y from ≡ true → FirstFrame c y from (position_from c y from)
  unfolding found_from position_from
  found_first h =
      let l : find (8 * length y + 1) (sought_at c y from) ≤ 8 * length y = leb-true _ _ h in
      let t = find_holds (8 * length y + 1) (sought_at c y from) (omega arith) in
      record {
        after = leb-true _ _ (and_0 _ _ t);
        whole = and_0 _ _ (and_1 (leb from (position_from c y from)) _ t);
        agrees = and_1 (whole_at c y (position_from c y from)) _ (and_1 (leb from (position_from c y from)) _ t);
        none_earlier = λ k a m w g. let z = found_by k a w g in omega arith;
      }

  -- "25 exactly when no such position exists"
  pub some_found : (p : ℕ) → from ≤ p → whole_at c y p ≡ true → agrees_at c y p ≡ true → found_from c y from ≡ true
  unfolding found_from
  some_found p a w g =
      let l = whole_inside c y p w in
      le-leb (position_from c y from) (8 * length y) (omega (arith, found_by p a w g))

  pub none_found : found_from c y from ≡ false → (p : ℕ) → from ≤ p → whole_at c y p ≡ true → agrees_at c y p ≡ true → ⊥
  none_found h p a w g = differ h (some_found p a w g)

  -- no other position is the first
  pub first_is : (p : ℕ) → FirstFrame c y from p → p ≡ position_from c y from
  first_is p f =
      let found = found_first (some_found p f.after f.whole f.agrees) in
      let least = found_by p f.after f.whole f.agrees in
      not_earlier p (position_from c y from) least (λ l. f.none_earlier (position_from c y from) found.after l found.whole found.agrees)
    where
      not_earlier : (p q : ℕ) → q ≤ p → (q < p → ⊥) → p ≡ q
      not_earlier p q l h = omega (arith, h)
