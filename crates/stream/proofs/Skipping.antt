-- Positions passed over: the eight of a byte, byte after byte. Assumes nothing.
use mathlib.Core.Path.{◌≡◌, refl, ap, ◌∙◌}
use mathlib.Core.Bool.{true}
use mathlib.Core.List.{List}
use Prim.Native.Nat.{ℕ, ◌+◌, ◌-◌, ◌*◌, ◌/◌, ◌≤◌, ◌<◌}
use native.Mathlib.Decide.{dec_lt}
use native.Mathlib.Omega.{arith}
use lib.ListN.{length}
use Rattle.bits.specs.Word.{field}
use Rattle.stream.specs.Stream.{bits_from}
use Rattle.stream.specs.Promise.{Window, Skips, EightUnlike, FirstLike, BitIn}
use Rattle.std.specs.Prelude.{Some, None}

-- ---- in a stream

-- no position from k to before byte a
pub record Passed (y : List ℕ) (k n want a : ℕ) : Type 0 where
  pub since : k / 8 ≤ a
  pub unlike : (j : ℕ) → k ≤ j → j < 8 * a → bits_from y j n ≡ want → ⊥
  pub near : a ≤ k / 8 + length y

pub passed_none : (y : List ℕ) (k n want a : ℕ) → a ≡ k / 8 → Passed y k n want a
passed_none y k n want a e = record { since = omega arith; unlike = λ j l m q. omega (arith, e, l, m); near = omega arith }

module _ (y : List ℕ) (k n want a : ℕ) (h : Passed y k n want a) where
  -- all that stands before k's bit in byte a has passed
  pub passed_skips : (s : ℕ) → BitIn a k s → Skips y k n want (8 * a + s)
  passed_skips s q =
      record {
        after = q.behind;
        unlike = λ j l m e. h.unlike j l (inside j l m (dec_lt 0 s)) e;
        near = far (dec_lt 0 s);
      }
    where
      inside : (j : ℕ) → k ≤ j → j < 8 * a + s → Dec (0 < s) → j < 8 * a
      inside j l m (yes d) = let t = q.there d in absurd (omega arith)
      inside j l m (no d) = omega arith

      far : Dec (0 < s) → 8 * a + s ≤ k + 8 * length y
      far (yes d) = let t = q.there d in omega arith
      far (no d) = omega (arith, h.near)

  module _ {v : ℕ} (w : Window 4 y a v) (l : a + 4 ≤ length y) (t : n ≤ 16) where
    -- a field of the bytes there is the number in the stream
    here : (j : ℕ) → 8 * a ≤ j → j < 8 * (a + 1) → bits_from y j n ≡ want → field v (j - 8 * a) n ≡ want
    here j b m e =
        let s : ℕ = j - 8 * a in
        let at : 8 * a + s ≡ j = omega arith in
        w.reads s n (omega arith) ∙ ap (λ (b : ℕ). bits_from y b n) at ∙ e

    -- byte a too, where none of its bits from k's on is it
    pub passed_more : ((s : ℕ) → s < 8 → k ≤ 8 * a + s → field v s n ≡ want → ⊥) → Passed y k n want (a + 1)
    passed_more u =
        record {
          since = omega (arith, h.since);
          unlike = λ j b m e. go j b m e (dec_lt j (8 * a));
          near = omega (arith, h.since);
        }
      where
        go : (j : ℕ) → k ≤ j → j < 8 * (a + 1) → bits_from y j n ≡ want → Dec (j < 8 * a) → ⊥
        go j b m e (yes d) = h.unlike j b d e
        go j b m e (no d) = u (j - 8 * a) (omega arith) (omega arith) (here j (omega arith) m e)

    pub passed_eight : EightUnlike v n want true → Passed y k n want (a + 1)
    passed_eight u = passed_more (λ s o b. u.unlike refl s o)

    module _ {s : ℕ} (q : BitIn a k s) where
      -- a bit of byte a behind which k stands is before s
      from : (j : ℕ) → j < 8 → k ≤ 8 * a + j → s ≤ j
      from j o b = go (dec_lt 0 s)
        where
          go : Dec (0 < s) → s ≤ j
          go (yes d) = let t = q.there d in omega arith
          go (no d) = omega arith

      pub passed_last : FirstLike v s n want None → Passed y k n want (a + 1)
      passed_last f = passed_more (λ j o b. f j (from j o b) o)

      pub found_like : {r : ℕ} → FirstLike v s n want (Some r) → Skips y k n want (8 * a + r)
      found_like {r} f =
          record {
            after = omega (arith, q.behind, f.0);
            unlike = λ j b m g. go j b m g (dec_lt j (8 * a));
            near = omega (arith, h.since);
          }
        where
          go : (j : ℕ) → k ≤ j → j < 8 * a + r → bits_from y j n ≡ want → Dec (j < 8 * a) → ⊥
          go j b m g (yes d) = h.unlike j b d g
          go j b m g (no d) = f.2 (j - 8 * a) (from (j - 8 * a) (omega arith) (omega arith)) (omega arith) (here j (omega arith) (omega arith) g)
