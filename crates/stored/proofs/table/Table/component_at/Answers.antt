-- Each item of the entry stands at its place.
use Prim.Native.Nat.{ℕ, ◌+◌, ◌*◌, ◌≤◌, ◌<◌}
use mathlib.Core.Path.{◌≡◌, refl, ap, ◌∙◌}
use mathlib.Core.Bool.{true}
use mathlib.Core.List.{List}
use native.Mathlib.Omega.{arith}
use lib.ListN.{length}
use Rattle.lay.specs.Slots.{plain}
use Rattle.lay.specs.Layout.{slots_of}
use Rattle.lay.specs.Reading.{place_of}
use Rattle.lay.specs.declared.item.Place.{Place}
use Rattle.model.specs.Items as item
use Rattle.model.specs.Items.{component_part}
use Rattle.model.specs.Forms.{layout_of, layout_in}
use Rattle.model.specs.Stored.{count_in}
use Rattle.stored.specs.Entry.{OpenedOf}
use Rattle.stored.specs.Shapes.{component_shape}
use Rattle.stored.specs.declared.forms.ComponentShape.{ComponentShape}
use Rattle.stored.specs.declared.items.Opened.{Opened}
use Rattle.stored.proofs.Reading.{known_here, shape_here, component_small, component_here, item_place, plain_component_lem, item_number, room}
use Rattle.stored.proofs.table.Table.component_at.Goals as goal

module _ {b : List ℕ} {o : Opened} (z : OpenedOf b o) {n : ℕ} (l : n < count_in b component_part) {s : ComponentShape} (e : s ≡ component_shape (layout_of o.form)) where
  -- item i of the entry, which the shape has as f tells, is within, and of a width that is read
  held : (i : ℕ) (f : ComponentShape → Place) → f (component_shape (layout_in b)) ≡ place_of (slots_of (layout_in b) component_part) i → record { wide_in_bounds : o.starts.components + s.size * n + (f s).at + (f s).wide ≤ length b; wide_value : plain (f s).wide ≡ true }
  held i f r = let q = shape_here component_shape z e in room (item_place (component_here z n l q) i (f s) (ap f q ∙ r) (plain_component_lem z.sized.formed i))

pub component_shape-s-requires : goal.component_shape-s-requires
component_shape-s-requires c = let z = c.args.self.now.opened_of in known_here z.sized.formed z.form_is

pub overflow_mul-at : goal.overflow_mul-at
overflow_mul-at c =
    let z = c.args.self.now.opened_of in
    let q = shape_here component_shape z c.component_shape-s.ensures in
    omega (arith, component_small z _ c.requires.k_bound q)

pub overflow_add-at : goal.overflow_add-at
overflow_add-at c =
    let z = c.args.self.now.opened_of in
    let q = shape_here component_shape z c.component_shape-s.ensures in
    omega (arith, component_small z _ c.requires.k_bound q)

pub item_at-subframe-requires : goal.item_at-subframe-requires
item_at-subframe-requires c =
    held c.args.self.now.opened_of c.requires.k_bound c.component_shape-s.ensures item.home (λ (s : ComponentShape). s.subframe) refl

pub item_at-word-requires : goal.item_at-word-requires
item_at-word-requires c =
    held c.args.self.now.opened_of c.requires.k_bound c.component_shape-s.ensures item.word (λ (s : ComponentShape). s.word) refl

pub item_at-low-requires : goal.item_at-low-requires
item_at-low-requires c =
    held c.args.self.now.opened_of c.requires.k_bound c.component_shape-s.ensures item.low (λ (s : ComponentShape). s.low) refl

pub item_at-high-requires : goal.item_at-high-requires
item_at-high-requires c =
    held c.args.self.now.opened_of c.requires.k_bound c.component_shape-s.ensures item.high (λ (s : ComponentShape). s.high) refl

pub item_at-overlap-requires : goal.item_at-overlap-requires
item_at-overlap-requires c =
    held c.args.self.now.opened_of c.requires.k_bound c.component_shape-s.ensures item.overlap (λ (s : ComponentShape). s.overlap) refl

pub returns : goal.returns
returns c =
    let z = c.args.self.now.opened_of in
    let q = shape_here component_shape z c.component_shape-s.ensures in
    let h = component_here z _ c.requires.k_bound q in
    record {
      subframe_is = item_number h item.home _ (ap (λ (s : ComponentShape). s.subframe) q) _ c.item_at-subframe.ensures.0;
      word_is = item_number h item.word _ (ap (λ (s : ComponentShape). s.word) q) _ c.item_at-word.ensures.0;
      low_is = item_number h item.low _ (ap (λ (s : ComponentShape). s.low) q) _ c.item_at-low.ensures.0;
      high_is = item_number h item.high _ (ap (λ (s : ComponentShape). s.high) q) _ c.item_at-high.ensures.0;
      overlap_is = item_number h item.overlap _ (ap (λ (s : ComponentShape). s.overlap) q) _ c.item_at-overlap.ensures.0;
      subframe_below = c.item_at-subframe.ensures.1;
      word_below = c.item_at-word.ensures.1;
      low_below = c.item_at-low.ensures.1;
      high_below = c.item_at-high.ensures.1;
      overlap_below = c.item_at-overlap.ensures.1;
    }
