-- A number has at most twenty digits.
use native.Mathlib.Omega.{arith}
use Rattle.listed.proofs.LineLaws.{field_short}
use Rattle.trial.proofs.say.put.Goals as goal

pub returns : goal.returns
returns c =
    let a = c.args in
    omega (arith, c.put_field.ensures.0, field_short a.n a.after)
