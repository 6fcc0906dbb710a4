-- The width is summed component by component.
use Prim.Native.Nat.{◌*◌, ◌≤◌}
use lib.ListN.{drop}
use Rattle.sample.proofs.Walks.{Measuring}
use Rattle.sample.proofs.component.width_of.Given as goal

abbrev pub invariant-loop-c : goal.invariant-loop-c
invariant-loop-c l = (l.width ≤ 16 * l.c-index) × Measuring l.c-items (drop l.c-index l.c-items) l.width
