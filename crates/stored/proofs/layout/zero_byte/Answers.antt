-- It stands at its place.
use mathlib.Core.Path.{ap}
use native.Mathlib.Omega.{arith}
use Rattle.model.specs.Items as item
use Rattle.stored.specs.Shapes.{component_shape}
use Rattle.stored.specs.declared.forms.ComponentShape.{ComponentShape}
use Rattle.stored.proofs.Reading.{known_here, shape_here, component_small, component_here, item_place, plain_component_lem, item_number, room}
use Rattle.stored.proofs.layout.zero_byte.Goals as goal

pub component_shape-s-requires : goal.component_shape-s-requires
component_shape-s-requires c = let z = c.args.t.now.opened_of in known_here z.sized.formed z.form_is

pub overflow_mul-at : goal.overflow_mul-at
overflow_mul-at c =
    let z = c.args.t.now.opened_of in
    let q = shape_here component_shape z c.component_shape-s.ensures in
    omega (arith, component_small z _ c.requires.k_bound q)

pub overflow_add-at : goal.overflow_add-at
overflow_add-at c =
    let z = c.args.t.now.opened_of in
    let q = shape_here component_shape z c.component_shape-s.ensures in
    omega (arith, component_small z _ c.requires.k_bound q)

pub item_at-requires : goal.item_at-requires
item_at-requires c =
    let z = c.args.t.now.opened_of in
    let q = shape_here component_shape z c.component_shape-s.ensures in
    room (item_place (component_here z _ c.requires.k_bound q) item.zero_byte _ (ap (λ (s : ComponentShape). s.zero) q) (plain_component_lem z.sized.formed item.zero_byte))

pub returns : goal.returns
returns c =
    let z = c.args.t.now.opened_of in
    let q = shape_here component_shape z c.component_shape-s.ensures in
    let h = component_here z _ c.requires.k_bound q in
    item_number h item.zero_byte _ (ap (λ (s : ComponentShape). s.zero) q) _ c.item_at.ensures.0
