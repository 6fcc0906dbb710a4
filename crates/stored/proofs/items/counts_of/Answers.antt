-- Each count stands at its place.
use mathlib.Core.Path.{ap}
use Rattle.lay.specs.Layout.{count}
use Rattle.model.specs.Items.{subframe_part, parameter_part, sample_part, component_part}
use Rattle.stored.specs.declared.forms.HeaderShape.{HeaderShape}
use Rattle.stored.proofs.Reading.{known_here, head_place, head_number, room}
use Rattle.stored.proofs.items.counts_of.Goals as goal

pub header_shape-h-requires : goal.header_shape-h-requires
header_shape-h-requires c = known_here c.args.b.now.formed c.args.b.now.form_is

pub item_at-subframes-requires : goal.item_at-subframes-requires
item_at-subframes-requires c = room (head_place c.args.b.now.formed c.args.b.now.form_is (count subframe_part) _ (ap (λ (h : HeaderShape). h.subframes) c.header_shape-h.ensures))

pub item_at-parameters-requires : goal.item_at-parameters-requires
item_at-parameters-requires c = room (head_place c.args.b.now.formed c.args.b.now.form_is (count parameter_part) _ (ap (λ (h : HeaderShape). h.parameters) c.header_shape-h.ensures))

pub item_at-samples-requires : goal.item_at-samples-requires
item_at-samples-requires c = room (head_place c.args.b.now.formed c.args.b.now.form_is (count sample_part) _ (ap (λ (h : HeaderShape). h.samples) c.header_shape-h.ensures))

pub item_at-components-requires : goal.item_at-components-requires
item_at-components-requires c = room (head_place c.args.b.now.formed c.args.b.now.form_is (count component_part) _ (ap (λ (h : HeaderShape). h.components) c.header_shape-h.ensures))

pub returns : goal.returns
returns c =
    let p = c.args.b.now in
    let h = c.header_shape-h.ensures in
    record {
      subframes_is = head_number p.formed p.form_is (count subframe_part) _ _ (ap (λ (h : HeaderShape). h.subframes) h) c.item_at-subframes.ensures.0;
      parameters_is = head_number p.formed p.form_is (count parameter_part) _ _ (ap (λ (h : HeaderShape). h.parameters) h) c.item_at-parameters.ensures.0;
      samples_is = head_number p.formed p.form_is (count sample_part) _ _ (ap (λ (h : HeaderShape). h.samples) h) c.item_at-samples.ensures.0;
      components_is = head_number p.formed p.form_is (count component_part) _ _ (ap (λ (h : HeaderShape). h.components) h) c.item_at-components.ensures.0;
    }
