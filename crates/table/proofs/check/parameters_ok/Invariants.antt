-- The parameters before i are lawful.
use Rattle.lay.proofs.Passing.{Passed}
use Rattle.model.specs.Stored.{parameters_in}
use Rattle.table.proofs.Lawfully.{lawful_parameter}
use Rattle.table.proofs.check.parameters_ok.Given as goal

abbrev pub invariant-loop-i : goal.invariant-loop-i
invariant-loop-i l = Passed (parameters_in l.d.table.bytes.now) (lawful_parameter l.d.table.bytes.now) l.parameters l.i
