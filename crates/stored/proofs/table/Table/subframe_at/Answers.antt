-- Each item of the entry stands at its place.
use Prim.Native.Nat.{ℕ, ◌+◌, ◌*◌, ◌≤◌, ◌<◌}
use mathlib.Core.Path.{◌≡◌, refl, ap, ◌∙◌}
use mathlib.Core.Bool.{true}
use mathlib.Core.List.{List}
use native.Mathlib.Omega.{arith}
use lib.ListN.{length}
use Rattle.lay.specs.Slots.{plain}
use Rattle.lay.specs.Layout.{slots_of}
use Rattle.lay.specs.Reading.{place_of}
use Rattle.lay.specs.declared.item.Place.{Place}
use Rattle.model.specs.Items as item
use Rattle.model.specs.Items.{subframe_part, entry_items}
use Rattle.model.specs.Forms.{layout_of, layout_in}
use Rattle.model.specs.Stored.{count_in}
use Rattle.stored.specs.Entry.{OpenedOf}
use Rattle.stored.specs.Shapes.{subframe_shape}
use Rattle.stored.specs.declared.forms.SubframeShape.{SubframeShape}
use Rattle.stored.specs.declared.items.Opened.{Opened}
use Rattle.stored.proofs.Reading.{known_here, shape_here, subframe_small, subframe_here, item_place, long_place, plain_subframe_lem, long_numerator_lem, item_number, room}
use Rattle.stored.proofs.table.Table.subframe_at.Goals as goal

module _ {b : List ℕ} {o : Opened} (z : OpenedOf b o) {n : ℕ} (l : n < count_in b subframe_part) {s : SubframeShape} (e : s ≡ subframe_shape (layout_of o.form)) where
  -- item i of the entry, which the shape has as f tells, is within, and of a width that is read, but for the numerator
  held : (i : ℕ) (f : SubframeShape → Place) → f (subframe_shape (layout_in b)) ≡ place_of (slots_of (layout_in b) subframe_part) i → i < entry_items subframe_part → (i ≡ item.numerator → ⊥) → record { wide_in_bounds : o.starts.subframes + s.size * n + (f s).at + (f s).wide ≤ length b; wide_value : plain (f s).wide ≡ true }
  held i f r k d = let q = shape_here subframe_shape z e in room (item_place (subframe_here z n l q) i (f s) (ap f q ∙ r) (plain_subframe_lem z.sized.formed i k d))

pub subframe_shape-s-requires : goal.subframe_shape-s-requires
subframe_shape-s-requires c = let z = c.args.self.now.opened_of in known_here z.sized.formed z.form_is

pub overflow_mul-at : goal.overflow_mul-at
overflow_mul-at c =
    let z = c.args.self.now.opened_of in
    let q = shape_here subframe_shape z c.subframe_shape-s.ensures in
    omega (arith, subframe_small z _ c.requires.i_bound q)

pub overflow_add-at : goal.overflow_add-at
overflow_add-at c =
    let z = c.args.self.now.opened_of in
    let q = shape_here subframe_shape z c.subframe_shape-s.ensures in
    omega (arith, subframe_small z _ c.requires.i_bound q)

pub item_at-bits-requires : goal.item_at-bits-requires
item_at-bits-requires c =
    held c.args.self.now.opened_of c.requires.i_bound c.subframe_shape-s.ensures item.bits (λ (s : SubframeShape). s.bits) refl (omega arith) (λ e. absurd (omega (arith, e)))

pub item_at-words-requires : goal.item_at-words-requires
item_at-words-requires c =
    held c.args.self.now.opened_of c.requires.i_bound c.subframe_shape-s.ensures item.words (λ (s : SubframeShape). s.words) refl (omega arith) (λ e. absurd (omega (arith, e)))

pub item_at-leading-requires : goal.item_at-leading-requires
item_at-leading-requires c =
    held c.args.self.now.opened_of c.requires.i_bound c.subframe_shape-s.ensures item.leading (λ (s : SubframeShape). s.leading) refl (omega arith) (λ e. absurd (omega (arith, e)))

pub item_at-trailing-requires : goal.item_at-trailing-requires
item_at-trailing-requires c =
    held c.args.self.now.opened_of c.requires.i_bound c.subframe_shape-s.ensures item.trailing (λ (s : SubframeShape). s.trailing) refl (omega arith) (λ e. absurd (omega (arith, e)))

pub long_at-numerator-requires : goal.long_at-numerator-requires
long_at-numerator-requires c =
    let z = c.args.self.now.opened_of in
    let q = shape_here subframe_shape z c.subframe_shape-s.ensures in
    room (long_place (subframe_here z _ c.requires.i_bound q) item.numerator _ (ap (λ (s : SubframeShape). s.numerator) q) (long_numerator_lem z.sized.formed))

pub item_at-denominator-requires : goal.item_at-denominator-requires
item_at-denominator-requires c =
    held c.args.self.now.opened_of c.requires.i_bound c.subframe_shape-s.ensures item.denominator (λ (s : SubframeShape). s.denominator) refl (omega arith) (λ e. absurd (omega (arith, e)))

pub returns : goal.returns
returns c =
    let z = c.args.self.now.opened_of in
    let q = shape_here subframe_shape z c.subframe_shape-s.ensures in
    let h = subframe_here z _ c.requires.i_bound q in
    record {
      bits_is = item_number h item.bits _ (ap (λ (s : SubframeShape). s.bits) q) _ c.item_at-bits.ensures.0;
      words_is = item_number h item.words _ (ap (λ (s : SubframeShape). s.words) q) _ c.item_at-words.ensures.0;
      leading_is = item_number h item.leading _ (ap (λ (s : SubframeShape). s.leading) q) _ c.item_at-leading.ensures.0;
      trailing_is = item_number h item.trailing _ (ap (λ (s : SubframeShape). s.trailing) q) _ c.item_at-trailing.ensures.0;
      numerator_is = item_number h item.numerator _ (ap (λ (s : SubframeShape). s.numerator) q) _ c.long_at-numerator.ensures;
      denominator_is = item_number h item.denominator _ (ap (λ (s : SubframeShape). s.denominator) q) _ c.item_at-denominator.ensures.0;
      bits_below = c.item_at-bits.ensures.1;
      words_below = c.item_at-words.ensures.1;
      leading_below = c.item_at-leading.ensures.1;
      trailing_below = c.item_at-trailing.ensures.1;
      denominator_below = c.item_at-denominator.ensures.1;
    }
