use mathlib.Core.Path.{sym, ◌∙◌}
use native.Mathlib.Omega.{arith}
use Rattle.ratio.proofs.Divisors.{gcd_step, gcd_done}
use Rattle.ratio.proofs.common_divisor.Goals as goal

pub loop-y-preserved : goal.loop-y-preserved
loop-y-preserved c = sym (gcd_step c.loop-y.x c.loop-y.y c.loop-y-test.true) ∙ c.loop-y.invariant

pub returns : goal.returns
returns c = sym (gcd_done c.loop-y.x c.loop-y.y (omega arith)) ∙ c.loop-y.invariant
