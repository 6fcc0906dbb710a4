-- Each item at its place.
use Prim.Native.Nat.{ℕ, ◌+◌, ◌*◌, ◌≤◌}
use mathlib.Core.Path.{refl, ap, ◌∙◌, ◌≡◌}
use native.Mathlib.Omega.{arith}
use mathlib.Core.Bool.{true}
use lib.ListN.{get_or}
use Rattle.lay.specs.Bytes.{put}
use Rattle.lay.specs.declared.item.Place.{Place}
use Rattle.lay.specs.Reading.{place_of}
use Rattle.stored.specs.Shapes.{sample_shape}
use Rattle.lay.specs.Slots.{plain}
use Rattle.lay.specs.Layout.{slots_of}
use Rattle.lay.proofs.Slots.{wide_plain}
use Rattle.model.specs.Items as item
use Rattle.model.specs.Items.{sample_part, entry_items}
use Rattle.model.specs.Forms.{newest, rows}
use Rattle.laying.specs.Parts.{size, new_layout, entry}
use Rattle.laying.proofs.Placing.{none_done, one_done, all_done}
use Rattle.maker.specs.Entries.{sample_by}
use Rattle.maker.proofs.ItemPlaces.{new_sound, entry_at, place_room}
use Rattle.stored.specs.declared.forms.SampleShape.{SampleShape}
use Rattle.maker.proofs.entries.put_sample.Goals as goal

-- room for an item
room : (start i m : ℕ) (s : SampleShape) → s ≡ sample_shape new_layout → start + size sample_part * i + size sample_part ≤ m → (k : ℕ) (f : SampleShape → Place) → f (sample_shape new_layout) ≡ place_of (slots_of new_layout sample_part) k
    → (start + s.size * i + (f s).at + (f s).wide ≤ m) × (plain (f s).wide ≡ true)
room start i m s e h k f p =
    place_room plain (slots_of new_layout sample_part) _ m k (f s) (entry_at sample_part start _ i m (ap (λ (s : SampleShape). s.size) e) h).ends (ap f e ∙ p) (wide_plain (slots_of new_layout sample_part) new_sound.plain_sample k)

pub put_item-requires : goal.put_item-requires
unfolding newest rows
put_item-requires c = let r = room _ _ _ _ c.sample_shape-s.ensures c.requires item.time (λ s. s.time) refl in record { wide_in_bounds = omega (arith, r.0); wide_value = r.1 }

pub put_item-requires-2 : goal.put_item-requires-2
unfolding newest rows
put_item-requires-2 c = let r = room _ _ _ _ c.sample_shape-s.ensures c.requires item.first_component (λ s. s.first) refl in record { wide_in_bounds = omega (arith, r.0); wide_value = r.1 }

pub put_item-requires-3 : goal.put_item-requires-3
unfolding newest rows
put_item-requires-3 c = let r = room _ _ _ _ c.sample_shape-s.ensures c.requires item.component_count (λ s. s.count) refl in record { wide_in_bounds = omega (arith, r.0); wide_value = r.1 }

pub returns : goal.returns
unfolding newest rows sample_by
returns c =
    let q = c.sample_shape-s.ensures in
    let e = entry_at sample_part _ _ _ _ (ap (λ (s : SampleShape). s.size) q) c.requires in
    let v : ℕ → ℕ = λ k. get_or (sample_by c.args.time c.args.first c.args.count) k 0 in
    let t = new_sound.tidy_part sample_part (omega arith) in
    let h = e.ends in
    let d0 = none_done (entry_items sample_part) (slots_of new_layout sample_part) v c.args.out.now _ t h in
    let one = one_done (entry_items sample_part) (slots_of new_layout sample_part) v c.args.out.now _ t h in
    let d1 = one _ item.time _ _ _ _ d0 (ap (λ (s : SampleShape). s.time) q) refl c.put_item.ensures in
    let d2 = one _ item.first_component _ _ _ _ d1 (ap (λ (s : SampleShape). s.first) q) refl c.put_item-2.ensures in
    let d3 = one _ item.component_count _ _ _ _ d2 (ap (λ (s : SampleShape). s.count) q) refl c.put_item-3.ensures in
    all_done (entry_items sample_part) (slots_of new_layout sample_part) v c.args.out.now _ t h _ _ refl d3
    ∙ ap (λ (o : ℕ). put c.args.out.now o (entry sample_part (sample_by c.args.time c.args.first c.args.count))) e.is
