-- The rows of the parameters passed.
use Rattle.card.specs.Sieve.{rows_of, SieveOf}
use Rattle.card.proofs.sieve.sieve_of.Given as goal

abbrev pub invariant-loop-i : goal.invariant-loop-i
invariant-loop-i l = SieveOf l.s.ruled.declared.table.bytes.now (rows_of l.sieve)
