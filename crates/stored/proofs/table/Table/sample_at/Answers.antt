-- Each item of the entry stands at its place.
use Prim.Native.Nat.{ℕ, ◌+◌, ◌*◌, ◌≤◌, ◌<◌}
use mathlib.Core.Path.{◌≡◌, refl, ap, ◌∙◌}
use mathlib.Core.Bool.{true}
use mathlib.Core.List.{List}
use native.Mathlib.Omega.{arith}
use lib.ListN.{length}
use Rattle.lay.specs.Slots.{plain}
use Rattle.lay.specs.Layout.{slots_of}
use Rattle.lay.specs.Reading.{place_of}
use Rattle.lay.specs.declared.item.Place.{Place}
use Rattle.model.specs.Items as item
use Rattle.model.specs.Items.{sample_part}
use Rattle.model.specs.Forms.{layout_of, layout_in}
use Rattle.model.specs.Stored.{count_in}
use Rattle.stored.specs.Entry.{OpenedOf}
use Rattle.stored.specs.Shapes.{sample_shape}
use Rattle.stored.specs.declared.forms.SampleShape.{SampleShape}
use Rattle.stored.specs.declared.items.Opened.{Opened}
use Rattle.stored.proofs.Reading.{known_here, shape_here, sample_small, sample_here, item_place, plain_sample_lem, item_number, room}
use Rattle.stored.proofs.table.Table.sample_at.Goals as goal

module _ {b : List ℕ} {o : Opened} (z : OpenedOf b o) {n : ℕ} (l : n < count_in b sample_part) {s : SampleShape} (e : s ≡ sample_shape (layout_of o.form)) where
  -- item i of the entry, which the shape has as f tells, is within, and of a width that is read
  held : (i : ℕ) (f : SampleShape → Place) → f (sample_shape (layout_in b)) ≡ place_of (slots_of (layout_in b) sample_part) i → record { wide_in_bounds : o.starts.samples + s.size * n + (f s).at + (f s).wide ≤ length b; wide_value : plain (f s).wide ≡ true }
  held i f r = let q = shape_here sample_shape z e in room (item_place (sample_here z n l q) i (f s) (ap f q ∙ r) (plain_sample_lem z.sized.formed i))

pub sample_shape-s-requires : goal.sample_shape-s-requires
sample_shape-s-requires c = let z = c.args.self.now.opened_of in known_here z.sized.formed z.form_is

pub overflow_mul-at : goal.overflow_mul-at
overflow_mul-at c =
    let z = c.args.self.now.opened_of in
    let q = shape_here sample_shape z c.sample_shape-s.ensures in
    omega (arith, sample_small z _ c.requires.j_bound q)

pub overflow_add-at : goal.overflow_add-at
overflow_add-at c =
    let z = c.args.self.now.opened_of in
    let q = shape_here sample_shape z c.sample_shape-s.ensures in
    omega (arith, sample_small z _ c.requires.j_bound q)

pub item_at-time-requires : goal.item_at-time-requires
item_at-time-requires c =
    held c.args.self.now.opened_of c.requires.j_bound c.sample_shape-s.ensures item.time (λ (s : SampleShape). s.time) refl

pub item_at-first-requires : goal.item_at-first-requires
item_at-first-requires c =
    held c.args.self.now.opened_of c.requires.j_bound c.sample_shape-s.ensures item.first_component (λ (s : SampleShape). s.first) refl

pub item_at-count-requires : goal.item_at-count-requires
item_at-count-requires c =
    held c.args.self.now.opened_of c.requires.j_bound c.sample_shape-s.ensures item.component_count (λ (s : SampleShape). s.count) refl

pub returns : goal.returns
returns c =
    let z = c.args.self.now.opened_of in
    let q = shape_here sample_shape z c.sample_shape-s.ensures in
    let h = sample_here z _ c.requires.j_bound q in
    record {
      time_is = item_number h item.time _ (ap (λ (s : SampleShape). s.time) q) _ c.item_at-time.ensures.0;
      first_is = item_number h item.first_component _ (ap (λ (s : SampleShape). s.first) q) _ c.item_at-first.ensures.0;
      count_is = item_number h item.component_count _ (ap (λ (s : SampleShape). s.count) q) _ c.item_at-count.ensures.0;
      time_below = c.item_at-time.ensures.1;
      first_below = c.item_at-first.ensures.1;
      count_below = c.item_at-count.ensures.1;
    }
