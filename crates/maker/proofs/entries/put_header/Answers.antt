-- Each item at its place, in any order.
use Prim.Native.Nat.{ℕ, ◌+◌, ◌≤◌}
use mathlib.Core.Path.{refl, ap, ◌≡◌, ◌∙◌}
use native.Mathlib.Omega.{arith}
use mathlib.Core.Bool.{true}
use lib.ListN.{length, get_or}
use Rattle.lay.specs.declared.item.Place.{Place}
use Rattle.lay.specs.Reading.{place_of}
use Rattle.stored.specs.Shapes.{header_shape}
use Rattle.lay.specs.Slots.{span, plain}
use Rattle.lay.specs.Layout.{count, offset}
use Rattle.lay.proofs.Slots.{wide_plain}
use Rattle.model.specs.Items as item
use Rattle.model.specs.Items.{subframe_part, parameter_part, sample_part, component_part, head_items}
use Rattle.model.specs.Forms.{newest, rows}
use Rattle.laying.specs.Parts.{new_layout}
use Rattle.laying.proofs.Placing.{none_done, one_done, all_done}
use Rattle.maker.specs.Entries.{head_by}
use Rattle.maker.proofs.ItemPlaces.{new_sound, form_place, place_room}
use Rattle.stored.specs.declared.forms.HeaderShape.{HeaderShape}
use Rattle.maker.proofs.entries.put_header.Goals as goal

-- room for an item
room : (m : ℕ) (s : HeaderShape) → s ≡ header_shape new_layout → span new_layout.header ≤ m → (k : ℕ) (f : HeaderShape → Place) → f (header_shape new_layout) ≡ place_of new_layout.header k
    → (0 + (f s).at + (f s).wide ≤ m) × (plain (f s).wide ≡ true)
room m s e h k f p = place_room plain new_layout.header 0 m k (f s) (omega arith) (ap f e ∙ p) (wide_plain new_layout.header new_sound.plain_head k)

pub put_item-requires : goal.put_item-requires
unfolding newest rows
put_item-requires c = let r = room _ _ c.header_shape-s.ensures c.requires item.total (λ s. s.total) refl in record { wide_in_bounds = omega (arith, r.0); wide_value = r.1 }

pub put_item-requires-2 : goal.put_item-requires-2
unfolding newest rows
put_item-requires-2 c = let r = place_room plain new_layout.header 0 (length c.args.out.now) item.form _ (omega (arith, c.requires)) form_place (wide_plain new_layout.header new_sound.plain_head item.form) in record { wide_in_bounds = omega (arith, r.0); wide_value = r.1 }

pub put_item-requires-3 : goal.put_item-requires-3
unfolding newest rows
put_item-requires-3 c = let r = room _ _ c.header_shape-s.ensures c.requires item.flags (λ s. s.flags) refl in record { wide_in_bounds = omega (arith, r.0); wide_value = r.1 }

pub put_item-requires-4 : goal.put_item-requires-4
unfolding newest rows
put_item-requires-4 c = let r = room _ _ c.header_shape-s.ensures c.requires item.zeros (λ s. s.zeros) refl in record { wide_in_bounds = omega (arith, r.0); wide_value = r.1 }

pub put_item-requires-5 : goal.put_item-requires-5
unfolding newest rows
put_item-requires-5 c = let r = room _ _ c.header_shape-s.ensures c.requires item.text (λ s. s.text) refl in record { wide_in_bounds = omega (arith, r.0); wide_value = r.1 }

pub put_item-requires-6 : goal.put_item-requires-6
unfolding newest rows
put_item-requires-6 c = let r = room _ _ c.header_shape-s.ensures c.requires (count subframe_part) (λ s. s.subframes) refl in record { wide_in_bounds = omega (arith, r.0); wide_value = r.1 }

pub put_item-requires-7 : goal.put_item-requires-7
unfolding newest rows
put_item-requires-7 c = let r = room _ _ c.header_shape-s.ensures c.requires (offset subframe_part) (λ s. s.subframe) refl in record { wide_in_bounds = omega (arith, r.0); wide_value = r.1 }

pub put_item-requires-8 : goal.put_item-requires-8
unfolding newest rows
put_item-requires-8 c = let r = room _ _ c.header_shape-s.ensures c.requires (count parameter_part) (λ s. s.parameters) refl in record { wide_in_bounds = omega (arith, r.0); wide_value = r.1 }

pub put_item-requires-9 : goal.put_item-requires-9
unfolding newest rows
put_item-requires-9 c = let r = room _ _ c.header_shape-s.ensures c.requires (offset parameter_part) (λ s. s.parameter) refl in record { wide_in_bounds = omega (arith, r.0); wide_value = r.1 }

pub put_item-requires-10 : goal.put_item-requires-10
unfolding newest rows
put_item-requires-10 c = let r = room _ _ c.header_shape-s.ensures c.requires (count sample_part) (λ s. s.samples) refl in record { wide_in_bounds = omega (arith, r.0); wide_value = r.1 }

pub put_item-requires-11 : goal.put_item-requires-11
unfolding newest rows
put_item-requires-11 c = let r = room _ _ c.header_shape-s.ensures c.requires (offset sample_part) (λ s. s.sample) refl in record { wide_in_bounds = omega (arith, r.0); wide_value = r.1 }

pub put_item-requires-12 : goal.put_item-requires-12
unfolding newest rows
put_item-requires-12 c = let r = room _ _ c.header_shape-s.ensures c.requires (count component_part) (λ s. s.components) refl in record { wide_in_bounds = omega (arith, r.0); wide_value = r.1 }

pub put_item-requires-13 : goal.put_item-requires-13
unfolding newest rows
put_item-requires-13 c = let r = room _ _ c.header_shape-s.ensures c.requires (offset component_part) (λ s. s.component) refl in record { wide_in_bounds = omega (arith, r.0); wide_value = r.1 }

pub returns : goal.returns
unfolding newest rows head_by
returns c =
    let q = c.header_shape-s.ensures in
    let v : ℕ → ℕ = λ k. get_or (head_by c.args.n c.args.a c.args.total c.args.sequential) k 0 in
    let t = new_sound.tidy_head in
    let h : 0 + span new_layout.header ≤ length c.args.out.now = omega (arith, c.requires) in
    let d0 = none_done head_items new_layout.header v c.args.out.now 0 t h in
    let one = one_done head_items new_layout.header v c.args.out.now 0 t h in
    let d1 = one _ item.total _ _ _ _ d0 (ap (λ (s : HeaderShape). s.total) q) refl c.put_item.ensures in
    let d2 = one _ item.form _ _ _ _ d1 form_place refl c.put_item-2.ensures in
    let d3 = one _ item.flags _ _ _ _ d2 (ap (λ (s : HeaderShape). s.flags) q) c.flag_of-flags.ensures.0 c.put_item-3.ensures in
    let d4 = one _ item.zeros _ _ _ _ d3 (ap (λ (s : HeaderShape). s.zeros) q) refl c.put_item-4.ensures in
    let d5 = one _ item.text _ _ _ _ d4 (ap (λ (s : HeaderShape). s.text) q) refl c.put_item-5.ensures in
    let d6 = one _ (count subframe_part) _ _ _ _ d5 (ap (λ (s : HeaderShape). s.subframes) q) refl c.put_item-6.ensures in
    let d7 = one _ (offset subframe_part) _ _ _ _ d6 (ap (λ (s : HeaderShape). s.subframe) q) refl c.put_item-7.ensures in
    let d8 = one _ (count parameter_part) _ _ _ _ d7 (ap (λ (s : HeaderShape). s.parameters) q) refl c.put_item-8.ensures in
    let d9 = one _ (offset parameter_part) _ _ _ _ d8 (ap (λ (s : HeaderShape). s.parameter) q) refl c.put_item-9.ensures in
    let d10 = one _ (count sample_part) _ _ _ _ d9 (ap (λ (s : HeaderShape). s.samples) q) refl c.put_item-10.ensures in
    let d11 = one _ (offset sample_part) _ _ _ _ d10 (ap (λ (s : HeaderShape). s.sample) q) refl c.put_item-11.ensures in
    let d12 = one _ (count component_part) _ _ _ _ d11 (ap (λ (s : HeaderShape). s.components) q) refl c.put_item-12.ensures in
    let d13 = one _ (offset component_part) _ _ _ _ d12 (ap (λ (s : HeaderShape). s.component) q) refl c.put_item-13.ensures in
    all_done head_items new_layout.header v c.args.out.now 0 t h _ _ refl d13
