-- Row after row.
use Rattle.model.specs.View.{view}
use Rattle.listed.specs.Listing.{sample_row, row_most}
use Rattle.listed.proofs.RowLaws.{Rows}
use Rattle.listed.proofs.listing.put_parameter.Given as goal

abbrev pub invariant-loop-j : goal.invariant-loop-j
invariant-loop-j l = Rows l.f.based.now.ruled.declared.table.bytes.now l.i (sample_row (view l.f.based.now.ruled.declared.table.bytes.now) l.f.words.now l.i) row_most l.initial.out l.out l.at l.j
