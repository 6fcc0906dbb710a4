-- Each item at its place.
use Prim.Native.Nat.{ℕ, ◌+◌, ◌*◌, ◌≤◌}
use mathlib.Core.Path.{refl, ap, ◌∙◌, ◌≡◌}
use native.Mathlib.Omega.{arith}
use mathlib.Core.Bool.{true}
use lib.ListN.{get_or}
use Rattle.lay.specs.Bytes.{put}
use Rattle.lay.specs.declared.item.Place.{Place}
use Rattle.lay.specs.Reading.{place_of}
use Rattle.stored.specs.Shapes.{parameter_shape}
use Rattle.lay.specs.Slots.{plain}
use Rattle.lay.specs.Layout.{slots_of}
use Rattle.lay.proofs.Slots.{wide_plain}
use Rattle.model.specs.Items as item
use Rattle.model.specs.Items.{parameter_part, entry_items}
use Rattle.model.specs.Forms.{newest, rows}
use Rattle.laying.specs.Parts.{size, new_layout, entry}
use Rattle.laying.proofs.Placing.{none_done, one_done, all_done}
use Rattle.maker.specs.Entries.{parameter_by}
use Rattle.maker.proofs.ItemPlaces.{new_sound, entry_at, place_room}
use Rattle.stored.specs.declared.forms.ParameterShape.{ParameterShape}
use Rattle.maker.proofs.entries.put_parameter.Goals as goal

-- room for an item
room : (start i m : ℕ) (s : ParameterShape) → s ≡ parameter_shape new_layout → start + size parameter_part * i + size parameter_part ≤ m → (k : ℕ) (f : ParameterShape → Place) → f (parameter_shape new_layout) ≡ place_of (slots_of new_layout parameter_part) k
    → (start + s.size * i + (f s).at + (f s).wide ≤ m) × (plain (f s).wide ≡ true)
room start i m s e h k f p =
    place_room plain (slots_of new_layout parameter_part) _ m k (f s) (entry_at parameter_part start _ i m (ap (λ (s : ParameterShape). s.size) e) h).ends (ap f e ∙ p) (wide_plain (slots_of new_layout parameter_part) new_sound.plain_parameter k)

pub put_item-requires : goal.put_item-requires
unfolding newest rows
put_item-requires c = let r = room _ _ _ _ c.parameter_shape-s.ensures c.requires item.name_length (λ s. s.name) refl in record { wide_in_bounds = omega (arith, r.0); wide_value = r.1 }

pub put_item-requires-2 : goal.put_item-requires-2
unfolding newest rows
put_item-requires-2 c = let r = room _ _ _ _ c.parameter_shape-s.ensures c.requires item.mnemonic_length (λ s. s.mnemonic) refl in record { wide_in_bounds = omega (arith, r.0); wide_value = r.1 }

pub put_item-requires-3 : goal.put_item-requires-3
unfolding newest rows
put_item-requires-3 c = let r = room _ _ _ _ c.parameter_shape-s.ensures c.requires item.identification_length (λ s. s.identification) refl in record { wide_in_bounds = omega (arith, r.0); wide_value = r.1 }

pub put_item-requires-4 : goal.put_item-requires-4
unfolding newest rows
put_item-requires-4 c = let r = room _ _ _ _ c.parameter_shape-s.ensures c.requires item.parameter_flags (λ s. s.flags) refl in record { wide_in_bounds = omega (arith, r.0); wide_value = r.1 }

pub put_item-requires-5 : goal.put_item-requires-5
unfolding newest rows
put_item-requires-5 c = let r = room _ _ _ _ c.parameter_shape-s.ensures c.requires item.text_start (λ s. s.start) refl in record { wide_in_bounds = omega (arith, r.0); wide_value = r.1 }

pub put_item-requires-6 : goal.put_item-requires-6
unfolding newest rows
put_item-requires-6 c = let r = room _ _ _ _ c.parameter_shape-s.ensures c.requires item.first_sample (λ s. s.first) refl in record { wide_in_bounds = omega (arith, r.0); wide_value = r.1 }

pub put_item-requires-7 : goal.put_item-requires-7
unfolding newest rows
put_item-requires-7 c = let r = room _ _ _ _ c.parameter_shape-s.ensures c.requires item.sample_count (λ s. s.count) refl in record { wide_in_bounds = omega (arith, r.0); wide_value = r.1 }

pub put_item-requires-8 : goal.put_item-requires-8
unfolding newest rows
put_item-requires-8 c = let r = room _ _ _ _ c.parameter_shape-s.ensures c.requires item.value (λ s. s.value) refl in record { wide_in_bounds = omega (arith, r.0); wide_value = r.1 }

pub returns : goal.returns
unfolding newest rows parameter_by
returns c =
    let q = c.parameter_shape-s.ensures in
    let e = entry_at parameter_part _ _ _ _ (ap (λ (s : ParameterShape). s.size) q) c.requires in
    let v : ℕ → ℕ = λ k. get_or (parameter_by c.args.d) k 0 in
    let t = new_sound.tidy_part parameter_part (omega arith) in
    let h = e.ends in
    let d0 = none_done (entry_items parameter_part) (slots_of new_layout parameter_part) v c.args.out.now _ t h in
    let one = one_done (entry_items parameter_part) (slots_of new_layout parameter_part) v c.args.out.now _ t h in
    let d1 = one _ item.name_length _ _ _ _ d0 (ap (λ (s : ParameterShape). s.name) q) refl c.put_item.ensures in
    let d2 = one _ item.mnemonic_length _ _ _ _ d1 (ap (λ (s : ParameterShape). s.mnemonic) q) refl c.put_item-2.ensures in
    let d3 = one _ item.identification_length _ _ _ _ d2 (ap (λ (s : ParameterShape). s.identification) q) refl c.put_item-3.ensures in
    let d4 = one _ item.parameter_flags _ _ _ _ d3 (ap (λ (s : ParameterShape). s.flags) q) c.flags_of-flags.ensures c.put_item-4.ensures in
    let d5 = one _ item.text_start _ _ _ _ d4 (ap (λ (s : ParameterShape). s.start) q) refl c.put_item-5.ensures in
    let d6 = one _ item.first_sample _ _ _ _ d5 (ap (λ (s : ParameterShape). s.first) q) refl c.put_item-6.ensures in
    let d7 = one _ item.sample_count _ _ _ _ d6 (ap (λ (s : ParameterShape). s.count) q) refl c.put_item-7.ensures in
    let d8 = one _ item.value _ _ _ _ d7 (ap (λ (s : ParameterShape). s.value) q) refl c.put_item-8.ensures in
    all_done (entry_items parameter_part) (slots_of new_layout parameter_part) v c.args.out.now _ t h _ _ refl d8
    ∙ ap (λ (o : ℕ). put c.args.out.now o (entry parameter_part (parameter_by c.args.d))) e.is
