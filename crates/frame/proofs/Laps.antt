-- The bits that a sample's components overlap, added up: none exactly where it has no overlap. Assumes nothing.
use mathlib.Core.Path.{◌≡◌, sym, ap, ◌∙◌}
use mathlib.Core.Bool.{Bool, true, false, not}
use mathlib.Core.List.{List}
use Prim.Native.Nat.{ℕ}
use native.Mathlib.Omega.{arith}
use borrow.Author.Tests.{eq-eqb, ne_eqb}
use lib.Dec.{eqb}
use lib.ListN.{length}
use Rattle.lay.specs.Below.{sum}
use Rattle.lay.proofs.Below.{any_none, sum_up, sum_same, sum_const}
use Rattle.lay.proofs.Tests.{differ, holds_not}
use Rattle.model.specs.Content.{Sample, component}
use Rattle.model.specs.Samples.{overlapped}
use Rattle.model.specs.Stored.{component_count_in}
use Rattle.model.specs.View.{sample_at}
use Rattle.model.proofs.Lapping.{not_overlapped_lem}
use Rattle.model.proofs.Views.{components_at}

-- those of the first k components
abbrev pub over_bits : Sample → ℕ → ℕ
over_bits s k = sum k (λ i. (component s i).overlap)

module _ (s : Sample) where
  -- where they add up to none, no component has one
  plain : over_bits s (length s.components) ≡ 0 → overlapped s ≡ false
  unfolding overlapped
  plain z =
      any_none (length s.components) (λ k. not (eqb (component s k).overlap 0))
      (λ k l. ap not (eq-eqb (component s k).overlap 0 (omega (arith, sum_up (length s.components) (λ i. (component s i).overlap) k l))))

  -- and the other way round
  none : overlapped s ≡ false → over_bits s (length s.components) ≡ 0
  none h = sum_same (length s.components) _ (λ k. 0) (not_overlapped_lem s h) ∙ sum_const 0 (length s.components) ∙ omega arith

  told : {n : ℕ} → n ≡ over_bits s (length s.components) → (laps : Bool) → overlapped s ≡ laps → not (eqb n 0) ≡ laps
  told e true h = holds_not _ (ne_eqb _ 0 (λ z. differ (plain (sym e ∙ z)) h))
  told e false h = ap not (eq-eqb _ 0 (e ∙ none h))

pub over_laps : (b : List ℕ) (j : ℕ) {n : ℕ} → n ≡ over_bits (sample_at b j) (component_count_in b j) → not (eqb n 0) ≡ overlapped (sample_at b j)
over_laps b j e = told (sample_at b j) (e ∙ ap (over_bits (sample_at b j)) (sym (components_at b j))) _ (λ i. overlapped (sample_at b j))
