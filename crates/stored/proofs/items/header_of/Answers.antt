-- Each item of the header stands at its place.
use mathlib.Core.Path.{ap}
use Rattle.lay.specs.Layout.{offset}
use Rattle.model.specs.Items as item
use Rattle.model.specs.Items.{subframe_part, parameter_part, sample_part, component_part}
use Rattle.stored.specs.declared.forms.HeaderShape.{HeaderShape}
use Rattle.stored.proofs.Reading.{known_here, head_place, head_number, room}
use Rattle.stored.proofs.items.header_of.Goals as goal

pub header_shape-h-requires : goal.header_shape-h-requires
header_shape-h-requires c = known_here c.args.b.now.formed c.args.b.now.form_is

pub item_at-total-requires : goal.item_at-total-requires
item_at-total-requires c = room (head_place c.args.b.now.formed c.args.b.now.form_is item.total _ (ap (λ (h : HeaderShape). h.total) c.header_shape-h.ensures))

pub item_at-flags-requires : goal.item_at-flags-requires
item_at-flags-requires c = room (head_place c.args.b.now.formed c.args.b.now.form_is item.flags _ (ap (λ (h : HeaderShape). h.flags) c.header_shape-h.ensures))

pub item_at-zeros-requires : goal.item_at-zeros-requires
item_at-zeros-requires c = room (head_place c.args.b.now.formed c.args.b.now.form_is item.zeros _ (ap (λ (h : HeaderShape). h.zeros) c.header_shape-h.ensures))

pub item_at-subframes-requires : goal.item_at-subframes-requires
item_at-subframes-requires c = room (head_place c.args.b.now.formed c.args.b.now.form_is (offset subframe_part) _ (ap (λ (h : HeaderShape). h.subframe) c.header_shape-h.ensures))

pub item_at-parameters-requires : goal.item_at-parameters-requires
item_at-parameters-requires c = room (head_place c.args.b.now.formed c.args.b.now.form_is (offset parameter_part) _ (ap (λ (h : HeaderShape). h.parameter) c.header_shape-h.ensures))

pub item_at-samples-requires : goal.item_at-samples-requires
item_at-samples-requires c = room (head_place c.args.b.now.formed c.args.b.now.form_is (offset sample_part) _ (ap (λ (h : HeaderShape). h.sample) c.header_shape-h.ensures))

pub item_at-components-requires : goal.item_at-components-requires
item_at-components-requires c = room (head_place c.args.b.now.formed c.args.b.now.form_is (offset component_part) _ (ap (λ (h : HeaderShape). h.component) c.header_shape-h.ensures))

pub item_at-text-requires : goal.item_at-text-requires
item_at-text-requires c = room (head_place c.args.b.now.formed c.args.b.now.form_is item.text _ (ap (λ (h : HeaderShape). h.text) c.header_shape-h.ensures))

pub returns : goal.returns
returns c =
    let p = c.args.b.now in
    let h = c.header_shape-h.ensures in
    record {
      total_is = head_number p.formed p.form_is item.total _ _ (ap (λ (h : HeaderShape). h.total) h) c.item_at-total.ensures.0;
      flags_is = head_number p.formed p.form_is item.flags _ _ (ap (λ (h : HeaderShape). h.flags) h) c.item_at-flags.ensures.0;
      zeros_is = head_number p.formed p.form_is item.zeros _ _ (ap (λ (h : HeaderShape). h.zeros) h) c.item_at-zeros.ensures.0;
      subframes_is = head_number p.formed p.form_is (offset subframe_part) _ _ (ap (λ (h : HeaderShape). h.subframe) h) c.item_at-subframes.ensures.0;
      parameters_is = head_number p.formed p.form_is (offset parameter_part) _ _ (ap (λ (h : HeaderShape). h.parameter) h) c.item_at-parameters.ensures.0;
      samples_is = head_number p.formed p.form_is (offset sample_part) _ _ (ap (λ (h : HeaderShape). h.sample) h) c.item_at-samples.ensures.0;
      components_is = head_number p.formed p.form_is (offset component_part) _ _ (ap (λ (h : HeaderShape). h.component) h) c.item_at-components.ensures.0;
      text_is = head_number p.formed p.form_is item.text _ _ (ap (λ (h : HeaderShape). h.text) h) c.item_at-text.ensures.0;
    }
