-- A lawful parameter's first sample has a component, and the sample's entry says where the first one stands.
use mathlib.Core.Path.{sym, ap, ◌∙◌}
use native.Mathlib.Omega.{arith}
use Rattle.model.specs.Stored.{home_in}
use Rattle.rules.proofs.Identifying.{first}
use Rattle.rules.proofs.identifiers.lies_in.Goals as goal

pub component_at-c-requires : goal.component_at-c-requires
component_at-c-requires c =
    let r = c.requires in
    let f = first _ _ c.args.r.now.ruled c.requires.i_bound in
    record { k_bound = omega arith }

pub returns : goal.returns
returns c =
    c.component_at-c.ensures.subframe_is
    ∙ ap (home_in c.args.r.now.declared.table.bytes.now) c.first_sample-s.ensures.first_is
    ∙ sym (first _ _ c.args.r.now.ruled c.requires.i_bound).home
