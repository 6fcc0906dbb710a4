-- Each item at its place.
use Prim.Native.Nat.{ℕ, ◌+◌, ◌*◌, ◌≤◌}
use mathlib.Core.Path.{refl, ap, ◌∙◌, ◌≡◌}
use native.Mathlib.Omega.{arith}
use mathlib.Core.Bool.{true}
use lib.ListN.{get_or}
use Rattle.lay.specs.Bytes.{put}
use Rattle.lay.specs.declared.item.Place.{Place}
use Rattle.lay.specs.Reading.{place_of}
use Rattle.stored.specs.Shapes.{component_shape}
use Rattle.lay.specs.Slots.{plain}
use Rattle.lay.specs.Layout.{slots_of}
use Rattle.lay.proofs.Slots.{wide_plain}
use Rattle.model.specs.Items as item
use Rattle.model.specs.Items.{component_part, entry_items}
use Rattle.model.specs.Forms.{newest, rows}
use Rattle.model.specs.Write.{component_values}
use Rattle.laying.specs.Parts.{size, new_layout, entry}
use Rattle.laying.proofs.Placing.{none_done, one_done, all_done}
use Rattle.maker.specs.Entries.{said_component}
use Rattle.maker.proofs.ItemPlaces.{new_sound, entry_at, place_room}
use Rattle.stored.specs.declared.forms.ComponentShape.{ComponentShape}
use Rattle.maker.proofs.entries.put_component.Goals as goal

-- room for an item
room : (start i m : ℕ) (s : ComponentShape) → s ≡ component_shape new_layout → start + size component_part * i + size component_part ≤ m → (k : ℕ) (f : ComponentShape → Place) → f (component_shape new_layout) ≡ place_of (slots_of new_layout component_part) k
    → (start + s.size * i + (f s).at + (f s).wide ≤ m) × (plain (f s).wide ≡ true)
room start i m s e h k f p =
    place_room plain (slots_of new_layout component_part) _ m k (f s) (entry_at component_part start _ i m (ap (λ (s : ComponentShape). s.size) e) h).ends (ap f e ∙ p) (wide_plain (slots_of new_layout component_part) new_sound.plain_component k)

pub put_item-requires : goal.put_item-requires
unfolding newest rows
put_item-requires c = let r = room _ _ _ _ c.component_shape-s.ensures c.requires item.home (λ s. s.subframe) refl in record { wide_in_bounds = omega (arith, r.0); wide_value = r.1 }

pub put_item-requires-2 : goal.put_item-requires-2
unfolding newest rows
put_item-requires-2 c = let r = room _ _ _ _ c.component_shape-s.ensures c.requires item.word (λ s. s.word) refl in record { wide_in_bounds = omega (arith, r.0); wide_value = r.1 }

pub put_item-requires-3 : goal.put_item-requires-3
unfolding newest rows
put_item-requires-3 c = let r = room _ _ _ _ c.component_shape-s.ensures c.requires item.low (λ s. s.low) refl in record { wide_in_bounds = omega (arith, r.0); wide_value = r.1 }

pub put_item-requires-4 : goal.put_item-requires-4
unfolding newest rows
put_item-requires-4 c = let r = room _ _ _ _ c.component_shape-s.ensures c.requires item.high (λ s. s.high) refl in record { wide_in_bounds = omega (arith, r.0); wide_value = r.1 }

pub put_item-requires-5 : goal.put_item-requires-5
unfolding newest rows
put_item-requires-5 c = let r = room _ _ _ _ c.component_shape-s.ensures c.requires item.overlap (λ s. s.overlap) refl in record { wide_in_bounds = omega (arith, r.0); wide_value = r.1 }

pub put_item-requires-6 : goal.put_item-requires-6
unfolding newest rows
put_item-requires-6 c = let r = room _ _ _ _ c.component_shape-s.ensures c.requires item.zero_byte (λ s. s.zero) refl in record { wide_in_bounds = omega (arith, r.0); wide_value = r.1 }

pub returns : goal.returns
unfolding newest rows component_values
returns c =
    let q = c.component_shape-s.ensures in
    let e = entry_at component_part _ _ _ _ (ap (λ (s : ComponentShape). s.size) q) c.requires in
    let v : ℕ → ℕ = λ k. get_or (component_values (said_component c.args.p)) k 0 in
    let t = new_sound.tidy_part component_part (omega arith) in
    let h = e.ends in
    let d0 = none_done (entry_items component_part) (slots_of new_layout component_part) v c.args.out.now _ t h in
    let one = one_done (entry_items component_part) (slots_of new_layout component_part) v c.args.out.now _ t h in
    let d1 = one _ item.home _ _ _ _ d0 (ap (λ (s : ComponentShape). s.subframe) q) refl c.put_item.ensures in
    let d2 = one _ item.word _ _ _ _ d1 (ap (λ (s : ComponentShape). s.word) q) refl c.put_item-2.ensures in
    let d3 = one _ item.low _ _ _ _ d2 (ap (λ (s : ComponentShape). s.low) q) refl c.put_item-3.ensures in
    let d4 = one _ item.high _ _ _ _ d3 (ap (λ (s : ComponentShape). s.high) q) refl c.put_item-4.ensures in
    let d5 = one _ item.overlap _ _ _ _ d4 (ap (λ (s : ComponentShape). s.overlap) q) refl c.put_item-5.ensures in
    let d6 = one _ item.zero_byte _ _ _ _ d5 (ap (λ (s : ComponentShape). s.zero) q) refl c.put_item-6.ensures in
    all_done (entry_items component_part) (slots_of new_layout component_part) v c.args.out.now _ t h _ _ refl d6
    ∙ ap (λ (o : ℕ). put c.args.out.now o (entry component_part (component_values (said_component c.args.p)))) e.is
