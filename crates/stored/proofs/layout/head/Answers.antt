-- The form, the header and the offsets, one after the other; what they say is handed on.
use mathlib.Core.Path.{refl, sym, ◌∙◌}
use Rattle.lay.proofs.Tests.{refuse, differ}
use Rattle.model.proofs.Laying.{formed, header, header_few, offsets, sized, head_formed, head_header, head_offsets, head_joined}
use Rattle.stored.proofs.Reading.{known_here, few_here, starts_here}
use Rattle.stored.proofs.Openings.{unopened, opened_as}
use Rattle.stored.proofs.layout.head.Goals as goal

pub returns-then-not-form_ok : goal.returns-then-not-form_ok
returns-then-not-form_ok c = unopened (refuse _ (λ h. differ (sym c.form_ok.ensures ∙ c.if-not-form_ok.true) (head_formed _ h)))

pub form_of-form-requires : goal.form_of-form-requires
form_of-form-requires c = (formed _ (sym c.form_ok.ensures ∙ c.if-not-form_ok.false)).long

pub invariant_of-formed : goal.invariant_of-formed
invariant_of-formed c = record { formed = formed _ (sym c.form_ok.ensures ∙ c.if-not-form_ok.false); form_is = c.form_of-form.ensures }

pub header_ok-requires : goal.header_ok-requires
header_ok-requires c =
    record { counts_of = c.counts_of-counts.ensures }

pub returns-then-not-header_ok : goal.returns-then-not-header_ok
returns-then-not-header_ok c = unopened (refuse _ (λ h. differ (sym c.header_ok.ensures ∙ c.if-not-header_ok.true) (head_header _ h)))

pub starts_of-starts-requires : goal.starts_of-starts-requires
starts_of-starts-requires c =
    let f = formed _ (sym c.form_ok.ensures ∙ c.if-not-form_ok.false) in
    let h = header _ (sym c.header_ok.ensures ∙ c.if-not-header_ok.false) in
    record { f_value = known_here f c.form_of-form.ensures; few = few_here c.counts_of-counts.ensures c.form_of-form.ensures (header_few _ h) }

pub offsets_ok-requires : goal.offsets_ok-requires
offsets_ok-requires c =
    let f = formed _ (sym c.form_ok.ensures ∙ c.if-not-form_ok.false) in
    record { starts_of = starts_here c.counts_of-counts.ensures f c.form_of-form.ensures c.starts_of-starts.ensures }

pub returns-then-not-offsets_ok : goal.returns-then-not-offsets_ok
returns-then-not-offsets_ok c = unopened (refuse _ (λ h. differ (sym c.offsets_ok.ensures ∙ c.if-not-offsets_ok.true) (head_offsets _ h)))

pub invariant_of-result : goal.invariant_of-result
invariant_of-result c =
    let f = formed _ (sym c.form_ok.ensures ∙ c.if-not-form_ok.false) in
    let g = sym c.header_ok.ensures ∙ c.if-not-header_ok.false in
    let s = sym c.offsets_ok.ensures ∙ c.if-not-offsets_ok.false in
    record {
      opened_of =
          record {
            sized = sized _ f (header _ g) (offsets _ s).fits;
            form_is = c.form_of-form.ensures;
            counts = c.counts_of-counts.ensures;
            starts = starts_here c.counts_of-counts.ensures f c.form_of-form.ensures c.starts_of-starts.ensures;
          };
    }

pub returns : goal.returns
returns c =
    let k = sym c.form_ok.ensures ∙ c.if-not-form_ok.false in
    let g = sym c.header_ok.ensures ∙ c.if-not-header_ok.false in
    let s = sym c.offsets_ok.ensures ∙ c.if-not-offsets_ok.false in
    opened_as (head_joined _ k g s) refl
