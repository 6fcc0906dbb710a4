-- A value has a minus sign and at most twenty digits.
use native.Mathlib.Omega.{arith}
use mir.Syntax.{w64}
use mir.Val.{to_z, of_z}
use Rattle.listed.proofs.LineLaws.{value_short}
use Rattle.trial.proofs.say.put_signed.Goals as goal

pub bounds-out-e : goal.bounds-out-e
bounds-out-e c = omega (arith, value_short (to_z w64 (of_z w64 c.args.v)), c.put_value-e.ensures.0)

pub overflow_add-result : goal.overflow_add-result
overflow_add-result c = omega (arith, value_short (to_z w64 (of_z w64 c.args.v)), c.put_value-e.ensures.0)

pub returns : goal.returns
returns c = omega (arith, value_short (to_z w64 (of_z w64 c.args.v)), c.put_value-e.ensures.0)
