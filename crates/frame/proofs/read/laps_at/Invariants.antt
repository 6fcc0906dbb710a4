-- The components before k, none of them the last, overlap none.
use Prim.Native.Nat.{◌-◌}
use Rattle.lay.proofs.Passing.{Passed}
use Rattle.model.specs.Stored.{component_count_in}
use Rattle.framing.proofs.Held.{plain_at}
use Rattle.frame.proofs.read.laps_at.Given as goal

abbrev pub invariant-loop-k : goal.invariant-loop-k
invariant-loop-k l = Passed (component_count_in l.r.declared.table.bytes.now l.j - 1) (plain_at l.r.declared.table.bytes.now l.j) l.last l.k
