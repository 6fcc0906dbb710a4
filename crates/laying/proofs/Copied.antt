-- Record pairs laid down once or for all subframes are the subframes' part. Assumes nothing.
use mathlib.Core.Path.{◌≡◌, refl, sym, ap, ◌∙◌}
use mathlib.Core.Bool.{Bool, true, false, cond}
use mathlib.Core.List.{List, [], ◌∷◌, ◌++◌}
use Prim.Native.Nat.{ℕ, zero, suc}
use native.Mathlib.Omega.{arith}
use lib.Dec.{eqb}
use lib.ListN.{length, get_or}
use borrow.Author.Tests.{eqb-true}
use Rattle.lay.specs.Below.{tab}
use Rattle.model.specs.Items.{subframe_part}
use Rattle.model.specs.Content.{Subframe, no_subframe}
use Rattle.model.specs.Write.{subframe_values}
use Rattle.gather.specs.Book.{spread}
use Rattle.laying.specs.Parts.{entry, subframe_bytes, copied, copies_bytes, copies}
use Rattle.laying.proofs.Fronts.{nil_end}
use Rattle.laying.proofs.Grown.{subframe_more}

-- one pair for n subframes
repeated : (n : ℕ) (f : Subframe) → subframe_bytes (tab n (λ i. f)) ≡ copied n f
repeated zero f = unfold subframe_bytes in refl
repeated (suc n) f = subframe_more (tab n (λ i. f)) f ∙ ap (λ (l : List ℕ). l ++ entry subframe_part (subframe_values f)) (repeated n f)

-- each once
once : (fs : List Subframe) → subframe_bytes fs ≡ copies_bytes 1 fs
unfolding subframe_bytes copies_bytes
once [] = refl
once (f ∷ fs) = ap (λ (l : List ℕ). entry subframe_part (subframe_values f) ++ l) (once fs)

one_pair : (n : ℕ) (fs : List Subframe) → length fs ≡ 1 → subframe_bytes (tab n (λ i. get_or fs 0 no_subframe)) ≡ copies_bytes n fs
unfolding copies_bytes
one_pair n [] h = absurd (omega arith)
one_pair n (f ∷ []) h = repeated n f ∙ sym (nil_end (copied n f))
one_pair n (f ∷ g ∷ fs) h = absurd (omega arith)

pub spread_copied : (declared : ℕ) (fs : List Subframe) → subframe_bytes (spread declared fs) ≡ copies_bytes (copies (length fs) declared) fs
unfolding spread
spread_copied declared fs = go (eqb (length fs) 1) refl
  where
    go : (t : Bool) → eqb (length fs) 1 ≡ t → subframe_bytes (cond t (tab declared (λ i. get_or fs 0 no_subframe)) fs) ≡ copies_bytes (cond t declared 1) fs
    go true e = one_pair declared fs (eqb-true (length fs) 1 e)
    go false e = once fs
