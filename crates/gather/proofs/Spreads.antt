-- The subframes that record pairs stand for: one pair for all of them, or one pair each. Assumes nothing.
use mathlib.Core.Path.{◌≡◌, refl, sym, ap, ◌∙◌}
use mathlib.Core.Bool.{Bool, true, false, cond}
use mathlib.Core.Logic.{◌⊎◌, inl, inr}
use mathlib.Core.List.{List, [], ◌∷◌}
use Prim.Native.Nat.{ℕ, zero, suc, ◌-◌, ◌≤◌}
use native.Mathlib.Omega.{arith}
use borrow.Author.Tests.{eqb-true, eqb-false}
use lib.Dec.{eqb}
use lib.ListN.{length, get_or}
use Rattle.lay.specs.Below.{tab}
use Rattle.lay.proofs.Below.{length_tab, get_or_tab}
use Rattle.lineforms.specs.LineFields.{pair_index, declared_for}
use Rattle.model.specs.Content.{Subframe, no_subframe}
use Rattle.gather.specs.Book.{spread, words_of, bits_of}
use Rattle.gather.proofs.Rows.{Each}

module _ (s : ℕ) (pairs : List Subframe) where
  abbrev Spread : Bool → List Subframe
  Spread t = cond t (tab s (λ i. get_or pairs 0 no_subframe)) pairs

  pub spread_long : (length pairs ≡ 1) ⊎ (length pairs ≡ s) → length (spread s pairs) ≡ s
  unfolding spread
  spread_long h = go (eqb (length pairs) 1) refl h
    where
      go : (t : Bool) → eqb (length pairs) 1 ≡ t → (length pairs ≡ 1) ⊎ (length pairs ≡ s) → length (Spread t) ≡ s
      go true e h = length_tab s (λ i. get_or pairs 0 no_subframe)
      go false e (inl p) = absurd (eqb-false (length pairs) 1 e p)
      go false e (inr p) = p

  pub spread_each : (P : Subframe → Type 0) → Each P no_subframe pairs → Each P no_subframe (spread s pairs)
  unfolding spread
  spread_each P h = go (eqb (length pairs) 1) refl
    where
      go : (t : Bool) → eqb (length pairs) 1 ≡ t → Each P no_subframe (Spread t)
      go true e k l =
          let n = length_tab s (λ i. get_or pairs 0 no_subframe) in
          rw (get_or_tab s (λ i. get_or pairs 0 no_subframe) no_subframe k (omega arith)) (h 0 (omega (arith, eqb-true (length pairs) 1 e)))
      go false e k l = h k l

  -- subframe c's pair
  spread_at : (c : ℕ) → 1 ≤ c → c ≤ s → get_or (spread s pairs) (c - 1) no_subframe ≡ get_or pairs (pair_index (length pairs) c) no_subframe
  unfolding spread pair_index
  spread_at c l m = go (eqb (length pairs) 1)
    where
      go : (t : Bool) → get_or (Spread t) (c - 1) no_subframe ≡ get_or pairs (cond t 0 (c - 1)) no_subframe
      go true = get_or_tab s (λ i. get_or pairs 0 no_subframe) no_subframe (c - 1) (omega arith)
      go false = refl

-- ---- what the pairs declare

words_long : (ps : List Subframe) → length (words_of ps) ≡ length ps
unfolding words_of
words_long [] = refl
words_long (p ∷ ps) = ap suc (words_long ps)

bits_long : (ps : List Subframe) → length (bits_of ps) ≡ length ps
unfolding bits_of
bits_long [] = refl
bits_long (p ∷ ps) = ap suc (bits_long ps)

words_at : (ps : List Subframe) (k : ℕ) → get_or (words_of ps) k 0 ≡ (get_or ps k no_subframe).words
unfolding words_of
words_at [] zero = refl
words_at [] (suc k) = refl
words_at (p ∷ ps) zero = refl
words_at (p ∷ ps) (suc k) = words_at ps k

bits_at : (ps : List Subframe) (k : ℕ) → get_or (bits_of ps) k 0 ≡ (get_or ps k no_subframe).bits
unfolding bits_of
bits_at [] zero = refl
bits_at [] (suc k) = refl
bits_at (p ∷ ps) zero = refl
bits_at (p ∷ ps) (suc k) = bits_at ps k

module _ (s : ℕ) (pairs : List Subframe) (c : ℕ) (l : 1 ≤ c) (m : c ≤ s) where
  pub declared_words : declared_for (words_of pairs) c ≡ (get_or (spread s pairs) (c - 1) no_subframe).words
  unfolding declared_for
  declared_words =
      ap (λ (n : ℕ). get_or (words_of pairs) (pair_index n c) 0) (words_long pairs)
      ∙ words_at pairs (pair_index (length pairs) c)
      ∙ ap (λ (f : Subframe). f.words) (sym (spread_at s pairs c l m))

  pub declared_bits : declared_for (bits_of pairs) c ≡ (get_or (spread s pairs) (c - 1) no_subframe).bits
  unfolding declared_for
  declared_bits =
      ap (λ (n : ℕ). get_or (bits_of pairs) (pair_index n c) 0) (bits_long pairs)
      ∙ bits_at pairs (pair_index (length pairs) c)
      ∙ ap (λ (f : Subframe). f.bits) (sym (spread_at s pairs c l m))
