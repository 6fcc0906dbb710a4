-- Each item at its place.
use Prim.Native.Nat.{ℕ, ◌+◌, ◌≤◌, ◌<◌}
use mathlib.Core.Path.{refl, sym, ap, ◌≡◌, ◌∙◌}
use native.Mathlib.Omega.{arith}
use lib.Dec.{eqb}
use mathlib.Core.Bool.{true, false}
use lib.ListN.{get_or}
use Rattle.lay.specs.declared.item.Place.{Place}
use Rattle.lay.specs.Reading.{place_of}
use Rattle.stored.specs.Shapes.{subframe_shape}
use Rattle.lay.specs.Slots.{plain, long}
use Rattle.lay.specs.Layout.{slots_of}
use Rattle.model.specs.Items as item
use Rattle.model.specs.Items.{subframe_part, entry_items}
use Rattle.model.specs.Forms.{newest, rows}
use Rattle.model.specs.Write.{subframe_values}
use Rattle.laying.specs.Parts.{size, new_layout}
use Rattle.laying.proofs.Placing.{none_done, one_done, all_done}
use Rattle.maker.specs.Entries.{said_subframe}
use Rattle.maker.proofs.ItemPlaces.{new_sound, place_room}
use Rattle.model.proofs.Margins.{number_back}
use Rattle.stored.specs.declared.forms.SubframeShape.{SubframeShape}
use Rattle.maker.proofs.entries.put_subframe.Goals as goal

-- room for an item but the numerator, which is long
room : (o m : ℕ) (s : SubframeShape) → s ≡ subframe_shape new_layout → o + size subframe_part ≤ m → (k : ℕ) → k < entry_items subframe_part → eqb k item.numerator ≡ false → (f : SubframeShape → Place) → f (subframe_shape new_layout) ≡ place_of (slots_of new_layout subframe_part) k
    → (o + (f s).at + (f s).wide ≤ m) × (plain (f s).wide ≡ true)
room o m s e h k l n f p =
    place_room plain (slots_of new_layout subframe_part) o m k (f s) h (ap f e ∙ p) (rw n at (new_sound.plain_subframe k l))

pub put_item-requires : goal.put_item-requires
unfolding newest rows
put_item-requires c = let r = room _ _ _ c.subframe_shape-s.ensures c.requires item.bits (omega arith) refl (λ s. s.bits) refl in record { wide_in_bounds = omega (arith, r.0); wide_value = r.1 }

pub put_item-requires-2 : goal.put_item-requires-2
unfolding newest rows
put_item-requires-2 c = let r = room _ _ _ c.subframe_shape-s.ensures c.requires item.words (omega arith) refl (λ s. s.words) refl in record { wide_in_bounds = omega (arith, r.0); wide_value = r.1 }

pub put_item-requires-3 : goal.put_item-requires-3
unfolding newest rows
put_item-requires-3 c = let r = room _ _ _ c.subframe_shape-s.ensures c.requires item.leading (omega arith) refl (λ s. s.leading) refl in record { wide_in_bounds = omega (arith, r.0); wide_value = r.1 }

pub put_item-requires-4 : goal.put_item-requires-4
unfolding newest rows
put_item-requires-4 c = let r = room _ _ _ c.subframe_shape-s.ensures c.requires item.trailing (omega arith) refl (λ s. s.trailing) refl in record { wide_in_bounds = omega (arith, r.0); wide_value = r.1 }

pub put_long-requires : goal.put_long-requires
unfolding newest rows
put_long-requires c = let r = place_room long (slots_of new_layout subframe_part) _ _ item.numerator _ c.requires (ap (λ (s : SubframeShape). s.numerator) c.subframe_shape-s.ensures) new_sound.long_numerator in record { wide_in_bounds = omega (arith, r.0); wide_value = r.1 }

pub put_item-requires-5 : goal.put_item-requires-5
unfolding newest rows
put_item-requires-5 c = let r = room _ _ _ c.subframe_shape-s.ensures c.requires item.denominator (omega arith) refl (λ s. s.denominator) refl in record { wide_in_bounds = omega (arith, r.0); wide_value = r.1 }

pub returns : goal.returns
unfolding newest rows subframe_values
returns c =
    let q = c.subframe_shape-s.ensures in
    let v : ℕ → ℕ = λ k. get_or (subframe_values (said_subframe c.args.p)) k 0 in
    let t = new_sound.tidy_part subframe_part (omega arith) in
    let d0 = none_done (entry_items subframe_part) (slots_of new_layout subframe_part) v c.args.out.now c.args.o t c.requires in
    let one = one_done (entry_items subframe_part) (slots_of new_layout subframe_part) v c.args.out.now c.args.o t c.requires in
    let d1 = one _ item.bits _ _ _ _ d0 (ap (λ (s : SubframeShape). s.bits) q) refl c.put_item.ensures in
    let d2 = one _ item.words _ _ _ _ d1 (ap (λ (s : SubframeShape). s.words) q) refl c.put_item-2.ensures in
    let d3 = one _ item.leading _ _ _ _ d2 (ap (λ (s : SubframeShape). s.leading) q) (sym (number_back _)) c.put_item-3.ensures in
    let d4 = one _ item.trailing _ _ _ _ d3 (ap (λ (s : SubframeShape). s.trailing) q) (sym (number_back _)) c.put_item-4.ensures in
    let d5 = one _ item.numerator _ _ _ _ d4 (ap (λ (s : SubframeShape). s.numerator) q) refl c.put_long.ensures in
    let d6 = one _ item.denominator _ _ _ _ d5 (ap (λ (s : SubframeShape). s.denominator) q) refl c.put_item-5.ensures in
    all_done (entry_items subframe_part) (slots_of new_layout subframe_part) v c.args.out.now c.args.o t c.requires _ _ refl d6
