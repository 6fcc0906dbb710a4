-- Words of bytes, one after the other. Assumes nothing.
use mathlib.Core.Path.{◌≡◌, refl, sym, ap, subst, ◌∙◌}
use mathlib.Core.List.{List}
use Prim.Native.Nat.{ℕ, zero, suc, ◌+◌, ◌*◌, ◌/◌, ◌≤◌, ◌<◌}
use native.Mathlib.Nat.{not-suc-le-zero, le_of_suc-le-suc}
use native.Mathlib.Omega.{arith}
use native.Mathlib.Numerals.{add-one}
use lib.ListN.{length, set, get_or, take, drop}
use lib.Seq.{drop-drop}
use mir.Syntax.{w16}
use Rattle.std.specs.Simd.{first_chunks}
use Rattle.std.specs.Int.{from_le_bytes}
use Rattle.lay.specs.Below.{tab}
use Rattle.lay.specs.Bytes.{num_at, part, put}
use Rattle.lay.proofs.Bytes.{num_read, number_two}
use Rattle.lay.proofs.Below.{length_tab}
use Rattle.lay.proofs.Puts.{put_none}
use Rattle.listed.specs.Listing.{words_of}
use Rattle.listed.proofs.LineLaws.{put_ended}

-- the i-th pair of the bytes
pair : (k i : ℕ) (b d : List ℕ) → i < k → get_or (first_chunks 2 k b) i d ≡ part b (2 * i) 2
pair zero i b d h = absurd (not-suc-le-zero h)
pair (suc k) zero b d h = refl
pair (suc k) (suc i) b d h =
    let e : 2 + 2 * i ≡ 2 * suc i = omega arith in
    pair k i (drop 2 b) d (le_of_suc-le-suc h) ∙ ap (take 2) (drop-drop (2 * i) 2 b ∙ ap (λ (n : ℕ). drop n b) e)

-- spells the i-th word
pub pair_word : (b d : List ℕ) (cs : List (List ℕ)) (i r : ℕ) → cs ≡ first_chunks 2 (length b / 2) b → i < length b / 2 → r ≡ from_le_bytes w16 (get_or cs i d) → r ≡ num_at 2 b (2 * i)
pair_word b d cs i r e h f =
    let p : get_or cs i d ≡ part b (2 * i) 2 = ap (λ (l : List (List ℕ)). get_or l i d) e ∙ pair (length b / 2) i b d h in
    num_read 2 b (2 * i) (get_or cs i d) r (omega (arith, h)) p (λ l. f ∙ number_two (get_or cs i d) l)

-- the first i words are there
pub record Words (bytes words₀ words : List ℕ) (i : ℕ) : Type 0 where
  pub few : i ≤ length bytes / 2
  pub done : words ≡ put words₀ 0 (tab i (λ k. num_at 2 bytes (2 * k)))

pub words_start : (bytes words : List ℕ) → Words bytes words words 0
words_start bytes words = record { few = omega arith; done = sym (put_none words 0) }

module _ (bytes words₀ words : List ℕ) (i : ℕ) (w : Words bytes words₀ words i) (room : length bytes ≤ 2 * length words₀) where
  pub words_next : (x : ℕ) (after : List ℕ) → i < length bytes / 2 → x ≡ num_at 2 bytes (2 * i) → after ≡ set words i x → Words bytes words₀ after (i + 1)
  words_next x after m e a =
      let t = length_tab i (λ k. num_at 2 bytes (2 * k)) in
      let p = put_ended words₀ words after (tab i (λ k. num_at 2 bytes (2 * k))) 0 i (num_at 2 bytes (2 * i)) w.done (omega (arith, t)) (a ∙ ap (set words i) e) (omega (arith, m, room)) in
      record {
        few = omega (arith, m);
        done = subst (λ (k : ℕ). after ≡ put words₀ 0 (tab k (λ j. num_at 2 bytes (2 * j)))) (sym (add-one i)) p.1;
      }

  pub words_end : length bytes / 2 ≤ i → words ≡ put words₀ 0 (words_of bytes)
  unfolding words_of
  words_end m =
      let e : i ≡ length bytes / 2 = omega (arith, w.few, m) in
      w.done ∙ ap (λ (k : ℕ). put words₀ 0 (tab k (λ j. num_at 2 bytes (2 * j)))) e
