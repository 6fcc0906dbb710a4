-- Refused, too small or made.
use native.Mathlib.Omega.{arith}
use Rattle.model.specs.Forms.{newest, rows}
use Rattle.model.proofs.Rows.{known_newest}
use Rattle.maker.proofs.Makings.{taken, taken_few, taken_text, leaves_small, taken_walkable, taken_room, leaves_table}
use Rattle.maker.proofs.make.make.Goals as goal

pub starts_of-a-requires : goal.starts_of-a-requires
unfolding newest rows
starts_of-a-requires c = record { f_value = known_newest; few = taken_few (taken c.judge.ensures c.in_ok-x.was) c.counts_of-n.ensures }

pub overflow_add-total : goal.overflow_add-total
overflow_add-total c = omega (arith, taken_text (taken c.judge.ensures c.in_ok-x.was) c.counts_of-n.ensures, c.starts_of-a.ensures.text_below)

pub returns-then-table-total : goal.returns-then-table-total
unfolding newest rows
returns-then-table-total c = leaves_small (taken c.judge.ensures c.in_ok-x.was) c.counts_of-n.ensures c.starts_of-a.ensures _ c.if-table-total.true

pub walk-requires : goal.walk-requires
unfolding newest rows
walk-requires c = taken_walkable (taken c.judge.ensures c.in_ok-x.was) c.counts_of-n.ensures c.starts_of-a.ensures c.copies_of.ensures _ c.if-table-total.false

pub put_header-requires : goal.put_header-requires
unfolding newest rows
put_header-requires c = taken_room (taken c.judge.ensures c.in_ok-x.was) c.counts_of-n.ensures c.starts_of-a.ensures c.copies_of.ensures _ _ c.if-table-total.false c.walk.ensures

pub returns : goal.returns
unfolding newest rows
returns c = leaves_table (taken c.judge.ensures c.in_ok-x.was) c.counts_of-n.ensures c.starts_of-a.ensures c.copies_of.ensures _ _ _ c.if-table-total.false c.walk.ensures c.put_header.ensures
