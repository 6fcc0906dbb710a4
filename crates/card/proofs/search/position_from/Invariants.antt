-- No position before p is the one that is looked for.
use Prim.Native.Nat.{◌+◌, ◌-◌, ◌*◌, ◌≤◌}
use Rattle.model.specs.View.{view}
use Rattle.carding.specs.Answer.{longest_stream}
use Rattle.card.proofs.Searching.{Walked}
use Rattle.card.proofs.search.position_from.Given as goal

abbrev pub invariant-loop-p : goal.invariant-loop-p
invariant-loop-p l = Walked (view l.s.ruled.declared.table.bytes.now) l.stream l.from l.bits l.end l.p × (l.p ≤ 4294967296 + 8 * longest_stream)

abbrev pub decreases-loop-p : goal.decreases-loop-p
decreases-loop-p l = l.end + 1 - l.p
