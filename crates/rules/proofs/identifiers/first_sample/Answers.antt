-- A lawful parameter has a sample, and its entry says where the first one stands.
use native.Mathlib.Omega.{arith}
use Rattle.rules.proofs.Identifying.{first}
use Rattle.rules.proofs.identifiers.first_sample.Goals as goal

pub sample_at-requires : goal.sample_at-requires
sample_at-requires c =
    let r = c.requires in
    let f = first _ _ c.args.r.now.ruled c.requires.i_bound in
    record { j_bound = omega arith }

pub returns : goal.returns
returns c = rw c.parameter_at-e.ensures.first_is at c.sample_at.ensures
