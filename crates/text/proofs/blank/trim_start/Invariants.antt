use mathlib.Core.Path.{◌≡◌}
use lib.ListN.{length}
use Rattle.text.specs.Blanks.{trim_start}
use Rattle.text.proofs.blank.trim_start.Given as goal

abbrev pub invariant-loop-left : goal.invariant-loop-left
invariant-loop-left l = trim_start l.left ≡ trim_start l.s

abbrev pub decreases-loop-left : goal.decreases-loop-left
decreases-loop-left l = length l.left
