-- The rows so far are bits that every frame with this identifier has.
use Rattle.model.specs.Stored.{first_sample_in}
use Rattle.card.specs.Sieve.{rows_of}
use Rattle.card.proofs.Sieves.{Sifting}
use Rattle.card.proofs.sieve.sift_more.Given as goal

abbrev pub invariant-loop-k : goal.invariant-loop-k
invariant-loop-k l =
    let b = l.s.ruled.declared.table.bytes.now in
    Sifting b (first_sample_in b l.i) l.v (rows_of l.sieve) l.m.first l.m.count l.at l.k
