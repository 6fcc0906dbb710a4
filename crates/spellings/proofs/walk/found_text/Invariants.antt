-- The cursor stays ready, and each line leaves less behind it; its count of lines is at most its place.
use Prim.Native.Nat.{◌-◌}
use lib.ListN.{length}
use Rattle.lines.specs.Line.{Ready}
use Rattle.spellings.proofs.walk.found_text.Given as goal

abbrev pub invariant-loop-line : goal.invariant-loop-line
invariant-loop-line l = Ready l.sheet l.c

abbrev pub decreases-loop-line : goal.decreases-loop-line
decreases-loop-line l = length l.sheet - l.c.at
