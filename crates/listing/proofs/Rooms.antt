-- A frame's words lie within the lent words. Assumes nothing.
use mathlib.Core.Path.{◌≡◌, refl, ap}
use mathlib.Core.Bool.{Bool, true, false, cond, not, ◌&&◌}
use mathlib.Core.List.{List}
use Prim.Native.Nat.{ℕ, ◌*◌, ◌/◌, ◌%◌, ◌≤◌}
use native.Mathlib.Omega.{arith}
use borrow.Author.Tests.{leb-true}
use lib.Dec.{eqb, leb}
use lib.ListN.{length}
use Rattle.lay.specs.Bytes.{num_at, put}
use Rattle.lay.proofs.Below.{length_tab}
use Rattle.lay.proofs.Puts.{length_put}
use Rattle.listed.specs.Listing.{words_of}
use Rattle.bench.specs.Texts.{WordsFill}

pub words_room : (bytes lent after : List ℕ) (n : ℕ) → WordsFill bytes lent n after → n ≡ 0 → length bytes / 2 ≤ length after
unfolding words_of
words_room bytes lent after n h e = go (not (eqb (length bytes % 2) 1)) (leb (length bytes / 2) (length lent)) refl h.0 h.1
  where
    go : (x y : Bool) → leb (length bytes / 2) (length lent) ≡ y → n ≡ cond (x && y) 0 19 → after ≡ cond (x && y) (put lent 0 (words_of bytes)) lent → length bytes / 2 ≤ length after
    go true true l p q =
        let t = length_tab (length bytes / 2) (λ i. num_at 2 bytes (2 * i)) in
        let u = leb-true (length bytes / 2) (length lent) l in
        omega (arith, u, ap length q, length_put lent 0 (words_of bytes) (omega (arith, t, u)))
    go true false l p q = absurd (omega (arith, p, e))
    go false y l p q = absurd (omega (arith, p, e))
