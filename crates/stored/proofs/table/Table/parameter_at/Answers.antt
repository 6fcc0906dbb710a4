-- Each item of the entry stands at its place.
use Prim.Native.Nat.{ℕ, ◌+◌, ◌*◌, ◌≤◌, ◌<◌}
use mathlib.Core.Path.{◌≡◌, refl, ap, ◌∙◌}
use mathlib.Core.Bool.{true}
use mathlib.Core.List.{List}
use native.Mathlib.Omega.{arith}
use lib.ListN.{length}
use Rattle.lay.specs.Slots.{plain}
use Rattle.lay.specs.Layout.{slots_of}
use Rattle.lay.specs.Reading.{place_of}
use Rattle.lay.specs.declared.item.Place.{Place}
use Rattle.model.specs.Items as item
use Rattle.model.specs.Items.{parameter_part}
use Rattle.model.specs.Forms.{layout_of, layout_in}
use Rattle.model.specs.Stored.{count_in}
use Rattle.stored.specs.Entry.{OpenedOf}
use Rattle.stored.specs.Shapes.{parameter_shape}
use Rattle.stored.specs.declared.forms.ParameterShape.{ParameterShape}
use Rattle.stored.specs.declared.items.Opened.{Opened}
use Rattle.stored.proofs.Reading.{known_here, shape_here, parameter_small, parameter_here, item_place, plain_parameter_lem, item_number, room}
use Rattle.stored.proofs.table.Table.parameter_at.Goals as goal

module _ {b : List ℕ} {o : Opened} (z : OpenedOf b o) {n : ℕ} (l : n < count_in b parameter_part) {s : ParameterShape} (e : s ≡ parameter_shape (layout_of o.form)) where
  -- item i of the entry, which the shape has as f tells, is within, and of a width that is read
  held : (i : ℕ) (f : ParameterShape → Place) → f (parameter_shape (layout_in b)) ≡ place_of (slots_of (layout_in b) parameter_part) i → record { wide_in_bounds : o.starts.parameters + s.size * n + (f s).at + (f s).wide ≤ length b; wide_value : plain (f s).wide ≡ true }
  held i f r = let q = shape_here parameter_shape z e in room (item_place (parameter_here z n l q) i (f s) (ap f q ∙ r) (plain_parameter_lem z.sized.formed i))

pub parameter_shape-s-requires : goal.parameter_shape-s-requires
parameter_shape-s-requires c = let z = c.args.self.now.opened_of in known_here z.sized.formed z.form_is

pub overflow_mul-at : goal.overflow_mul-at
overflow_mul-at c =
    let z = c.args.self.now.opened_of in
    let q = shape_here parameter_shape z c.parameter_shape-s.ensures in
    omega (arith, parameter_small z _ c.requires.i_bound q)

pub overflow_add-at : goal.overflow_add-at
overflow_add-at c =
    let z = c.args.self.now.opened_of in
    let q = shape_here parameter_shape z c.parameter_shape-s.ensures in
    omega (arith, parameter_small z _ c.requires.i_bound q)

pub item_at-name-requires : goal.item_at-name-requires
item_at-name-requires c =
    held c.args.self.now.opened_of c.requires.i_bound c.parameter_shape-s.ensures item.name_length (λ (s : ParameterShape). s.name) refl

pub item_at-mnemonic-requires : goal.item_at-mnemonic-requires
item_at-mnemonic-requires c =
    held c.args.self.now.opened_of c.requires.i_bound c.parameter_shape-s.ensures item.mnemonic_length (λ (s : ParameterShape). s.mnemonic) refl

pub item_at-identification-requires : goal.item_at-identification-requires
item_at-identification-requires c =
    held c.args.self.now.opened_of c.requires.i_bound c.parameter_shape-s.ensures item.identification_length (λ (s : ParameterShape). s.identification) refl

pub item_at-flags-requires : goal.item_at-flags-requires
item_at-flags-requires c =
    held c.args.self.now.opened_of c.requires.i_bound c.parameter_shape-s.ensures item.parameter_flags (λ (s : ParameterShape). s.flags) refl

pub item_at-start-requires : goal.item_at-start-requires
item_at-start-requires c =
    held c.args.self.now.opened_of c.requires.i_bound c.parameter_shape-s.ensures item.text_start (λ (s : ParameterShape). s.start) refl

pub item_at-first-requires : goal.item_at-first-requires
item_at-first-requires c =
    held c.args.self.now.opened_of c.requires.i_bound c.parameter_shape-s.ensures item.first_sample (λ (s : ParameterShape). s.first) refl

pub item_at-count-requires : goal.item_at-count-requires
item_at-count-requires c =
    held c.args.self.now.opened_of c.requires.i_bound c.parameter_shape-s.ensures item.sample_count (λ (s : ParameterShape). s.count) refl

pub item_at-value-requires : goal.item_at-value-requires
item_at-value-requires c =
    held c.args.self.now.opened_of c.requires.i_bound c.parameter_shape-s.ensures item.value (λ (s : ParameterShape). s.value) refl

pub returns : goal.returns
returns c =
    let z = c.args.self.now.opened_of in
    let q = shape_here parameter_shape z c.parameter_shape-s.ensures in
    let h = parameter_here z _ c.requires.i_bound q in
    record {
      name_is = item_number h item.name_length _ (ap (λ (s : ParameterShape). s.name) q) _ c.item_at-name.ensures.0;
      mnemonic_is_lem = item_number h item.mnemonic_length _ (ap (λ (s : ParameterShape). s.mnemonic) q) _ c.item_at-mnemonic.ensures.0;
      identification_is = item_number h item.identification_length _ (ap (λ (s : ParameterShape). s.identification) q) _ c.item_at-identification.ensures.0;
      flags_is = item_number h item.parameter_flags _ (ap (λ (s : ParameterShape). s.flags) q) _ c.item_at-flags.ensures.0;
      start_is = item_number h item.text_start _ (ap (λ (s : ParameterShape). s.start) q) _ c.item_at-start.ensures.0;
      first_is = item_number h item.first_sample _ (ap (λ (s : ParameterShape). s.first) q) _ c.item_at-first.ensures.0;
      count_is = item_number h item.sample_count _ (ap (λ (s : ParameterShape). s.count) q) _ c.item_at-count.ensures.0;
      value_is = item_number h item.value _ (ap (λ (s : ParameterShape). s.value) q) _ c.item_at-value.ensures.0;
      name_below = c.item_at-name.ensures.1;
      mnemonic_below = c.item_at-mnemonic.ensures.1;
      identification_below = c.item_at-identification.ensures.1;
      flags_below = c.item_at-flags.ensures.1;
      start_below = c.item_at-start.ensures.1;
      first_below = c.item_at-first.ensures.1;
      count_below = c.item_at-count.ensures.1;
      value_below = c.item_at-value.ensures.1;
    }
