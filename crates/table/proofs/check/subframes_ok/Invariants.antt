-- The subframes before i are lawful.
use Rattle.lay.proofs.Passing.{Passed}
use Rattle.model.specs.Stored.{subframes_in}
use Rattle.table.proofs.Lawfully.{lawful_subframe}
use Rattle.table.proofs.check.subframes_ok.Given as goal

abbrev pub invariant-loop-i : goal.invariant-loop-i
invariant-loop-i l = Passed (subframes_in l.t.bytes.now) (lawful_subframe l.t.bytes.now) l.subframes l.i
