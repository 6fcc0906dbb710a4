-- The walk over the positions of a stream. Assumes nothing.
use mathlib.Core.Path.{◌≡◌, refl, sym, ap, ◌∙◌}
use mathlib.Core.Bool.{Bool, true, false, cond, and-false}
use mathlib.Core.List.{List, [], ◌∷◌}
use Prim.Native.Nat.{ℕ, ◌+◌, ◌-◌, ◌*◌, ◌≤◌, ◌<◌}
use native.Mathlib.Decide.{dec_lt}
use native.Mathlib.Omega.{arith}
use borrow.Author.Tests.{le-leb, lt-leb, leb-true, ne_eqb}
use lib.Dec.{leb}
use lib.ListN.{length}
use Rattle.std.specs.Prelude.{Some, None, slice_get}
use Rattle.std.proofs.lemmas.Bool.{leb-false}
use Rattle.lay.proofs.Below.{find_none, find_at}
use Rattle.lay.proofs.Tests.{and_both}
use Rattle.stream.specs.Promise.{Skips}
use Rattle.model.specs.Content.{Content}
use Rattle.carding.specs.Layout.{frame_bits}
use Rattle.carding.specs.Search.{whole_at, agrees_at, sought_at, position_from, found_from}
use Rattle.card.specs.declared.rows.Row.{Row}
use Rattle.card.specs.Promise.{first_found}
use Rattle.card.specs.Sieve.{row_holds, NextSifted}

-- ---- positions that the sieve's first row keeps back

pub sifted_first : (y : List ℕ) (p : ℕ) (s : List Row) {row : Row} {r : ℕ} → Some row ≡ slice_get s 0 → Skips y (p + row.at) row.width row.want r → NextSifted y p s (r - row.at)
unfolding row_holds
sifted_first y p [] e h = absurd (cc)
sifted_first y p (x ∷ xs) {row} {r} e h =
    record {
      after = omega (arith, h.after);
      kept_back = λ k l m. rw (ap (row_holds y k) (sym same) ∙ fails k l m) refl;
      near = omega (arith, h.near);
    }
  where
    same : row ≡ x
    same = cc

    fails : (k : ℕ) → p ≤ k → k < r - row.at → row_holds y k row ≡ false
    fails k l m = ne_eqb _ _ (h.unlike (k + row.at) (omega arith) (omega arith))

-- ---- the walk

module _ (c : Content) (y : List ℕ) (from : ℕ) where
  -- no position before p is it
  pub record Walked (bits end p : ℕ) : Type 0 where
    pub whole : bits ≡ frame_bits c
    pub ends : end ≡ 8 * length y
    pub least : from ≤ p
    pub none : (k : ℕ) → k < p → sought_at c y from k ≡ false

  module _ {bits end p : ℕ} (v : Walked bits end p) where
    pub walk_found : p + bits ≤ end → agrees_at c y p ≡ true → Some p ≡ first_found c y from
    unfolding first_found found_from position_from whole_at
    walk_found l h =
        let w : p + frame_bits c ≤ 8 * length y = omega (arith, v.whole, v.ends) in
        let e : position_from c y from ≡ p = find_at (8 * length y + 1) (sought_at c y from) p (omega arith) (and_both (le-leb from p v.least) (and_both (le-leb _ _ w) h)) v.none in
        rw (e, le-leb p (8 * length y) (omega arith)) refl

    pub walk_ends : end < p + bits → None ≡ first_found c y from
    unfolding first_found found_from position_from whole_at
    walk_ends l =
        rw (find_none (8 * length y + 1) (sought_at c y from) (λ k m. go k (dec_lt k p)), lt-leb (8 * length y + 1) (8 * length y) (omega arith)) refl
      where
        go : (k : ℕ) → Dec (k < p) → sought_at c y from k ≡ false
        go k (yes d) = v.none k d
        go k (no d) =
            let w : 8 * length y < k + frame_bits c = omega (arith, v.whole, v.ends) in
            rw (lt-leb (k + frame_bits c) (8 * length y) w, and-false (leb from k))

-- ---- what the position found says

pub none_found : (c : Content) (y : List ℕ) (from : ℕ) → None ≡ first_found c y from → 8 * length y < position_from c y from
unfolding first_found found_from
none_found c y from e = go (leb (position_from c y from) (8 * length y)) refl e
  where
    go : (t : Bool) → leb (position_from c y from) (8 * length y) ≡ t → None ≡ cond t (Some (position_from c y from)) None → 8 * length y < position_from c y from
    go true q e = absurd (cc)
    go false q e = leb-false _ _ q

-- a position found lies in the stream
pub record FoundAt (c : Content) (y : List ℕ) (from p : ℕ) : Type 0 where
  pub is : p ≡ position_from c y from
  pub inside : p ≤ 8 * length y

pub found_there : (c : Content) (y : List ℕ) (from : ℕ) {p : ℕ} → Some p ≡ first_found c y from → FoundAt c y from p
unfolding first_found found_from
found_there c y from {p} e = go (leb (position_from c y from) (8 * length y)) refl e
  where
    go : (t : Bool) → leb (position_from c y from) (8 * length y) ≡ t → Some p ≡ cond t (Some (position_from c y from)) None → FoundAt c y from p
    go true q e = let s : p ≡ position_from c y from = cc in record { is = s; inside = omega (arith, s, leb-true _ _ q) }
    go false q e = absurd (cc)
