-- The parameters before i read their values, where they are identifiers.
use Rattle.lay.proofs.Passing.{Passed}
use Rattle.model.specs.Stored.{parameters_in}
use Rattle.model.specs.View.{view}
use Rattle.carding.specs.Layout.{frame_at}
use Rattle.carding.specs.Search.{reads_at}
use Rattle.card.proofs.agree.agrees.Given as goal

abbrev pub invariant-loop-i : goal.invariant-loop-i
invariant-loop-i l =
    let t = l.s.ruled.declared.table in
    let b = t.bytes.now in
    Passed (parameters_in b) (reads_at (view b) (frame_at (view b) l.stream l.p)) t.opened.counts.parameters l.i
