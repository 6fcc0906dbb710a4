-- A component's overlap and the next one's bits, by their entries. Assumes nothing.
use mathlib.Core.Path.{◌≡◌, sym, ap, ap₂, ◌∙◌}
use mathlib.Core.Bool.{Bool, cond}
use mathlib.Core.List.{List}
use Prim.Native.Nat.{ℕ, ◌+◌, ◌-◌, ◌≤◌, ◌<◌}
use native.Mathlib.Omega.{arith}
use borrow.Author.Tests.{lt-ltb, le-ltb}
use lib.ListN.{length}
use Rattle.model.specs.Content.{Component, component}
use Rattle.model.specs.Rules.{bit_count, next_bits}
use Rattle.model.specs.Stored.{first_component_in, component_count_in, low_in, high_in, overlap_in}
use Rattle.model.specs.View.{component_at, sample_at}
use Rattle.model.proofs.Views.{components_at, component_at_lem}
use Rattle.stored.specs.Entry.{ComponentOf}
use Rattle.stored.specs.declared.items.ComponentEntry.{ComponentEntry}

module _ (b : List ℕ) (j k first : ℕ) (f : first ≡ first_component_in b j) where
  pub overlap_read : {x : ComponentEntry} → k < component_count_in b j → ComponentOf b (first + k) x → (component (sample_at b j) k).overlap ≡ x.overlap
  unfolding component_at
  overlap_read l x =
      ap (λ (c : Component). c.overlap) (component_at_lem b j k l) ∙ sym (ap (λ (f : ℕ). overlap_in b (f + k)) f) ∙ sym x.overlap_is

  pub next_read : {y : ComponentEntry} → k + 1 < component_count_in b j → ComponentOf b (first + (k + 1)) y → next_bits (sample_at b j) k ≡ y.high + 1 - y.low
  unfolding next_bits component_at
  next_read {y} l e =
      let n = components_at b j in
      let s = sample_at b j in
      ap (λ (t : Bool). cond t (bit_count (component s (k + 1))) 0) (lt-ltb (k + 1) (length s.components) (omega (arith, n, l)))
      ∙ ap bit_count (component_at_lem b j (k + 1) l)
      ∙ ap (λ (f : ℕ). high_in b (f + (k + 1)) + 1 - low_in b (f + (k + 1))) (sym f)
      ∙ sym (ap₂ (λ (h l : ℕ). h + 1 - l) e.high_is e.low_is)

  pub next_none : component_count_in b j ≤ k + 1 → next_bits (sample_at b j) k ≡ 0
  unfolding next_bits
  next_none l =
      let n = components_at b j in
      let s = sample_at b j in
      ap (λ (t : Bool). cond t (bit_count (component s (k + 1))) 0) (le-ltb (k + 1) (length s.components) (omega (arith, n, l)))
