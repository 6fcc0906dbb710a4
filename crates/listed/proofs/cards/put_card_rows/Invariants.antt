-- Row after row.
use Rattle.model.specs.View.{view}
use Rattle.listed.specs.Cards.{card_row, card_row_most}
use Rattle.listed.proofs.RowLaws.{Rows}
use Rattle.listed.proofs.cards.put_card_rows.Given as goal

abbrev pub invariant-loop-j : goal.invariant-loop-j
invariant-loop-j l = Rows l.f.based.now.ruled.declared.table.bytes.now l.i (card_row (view l.f.based.now.ruled.declared.table.bytes.now) l.f.words.now l.position l.i) card_row_most l.initial.out l.out l.at l.j
