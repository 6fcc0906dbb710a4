-- Each division keeps the divisor, and what is left falls.
use mathlib.Core.Path.{◌≡◌}
use Rattle.ratio.specs.Ratio.{gcd}
use Rattle.ratio.proofs.common_divisor.Given as goal

abbrev pub invariant-loop-y : goal.invariant-loop-y
invariant-loop-y l = gcd l.x l.y ≡ gcd l.a l.b

abbrev pub decreases-loop-y : goal.decreases-loop-y
decreases-loop-y l = l.y
