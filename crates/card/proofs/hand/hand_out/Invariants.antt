-- Row by row.
use Rattle.card.proofs.Handing.{Handed}
use Rattle.card.proofs.hand.hand_out.Given as goal

abbrev pub invariant-loop-i : goal.invariant-loop-i
invariant-loop-i l =
    let t = l.s.ruled.declared.table in
    Handed t.bytes.now l.stream l.p l.initial.words l.words t.opened.counts.subframes l.at l.i
