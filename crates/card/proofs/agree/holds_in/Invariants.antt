-- The components before k are their bits of v.
use Rattle.lay.proofs.Passing.{Passed}
use Rattle.model.specs.Samples.{holds_at}
use Rattle.model.specs.Stored.{component_count_in}
use Rattle.model.specs.View.{sample_at, view}
use Rattle.rules.specs.Ruled.{subframes_of}
use Rattle.carding.specs.Layout.{frame_at}
use Rattle.card.proofs.Runs.{Along}
use Rattle.card.proofs.agree.holds_in.Given as goal

abbrev pub invariant-loop-k : goal.invariant-loop-k
invariant-loop-k l =
    let b = l.s.ruled.declared.table.bytes.now in
    Along b l.j l.m.first l.m.count l.at l.k × Passed (component_count_in b l.j) (holds_at (subframes_of b) (frame_at (view b) l.stream l.p) (sample_at b l.j) l.v) l.m.count l.k
