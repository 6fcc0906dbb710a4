-- The row of what was read, by the table's name for the parameter.
use mathlib.Core.Path.{ap}
use Prim.Native.Nat.{◌+◌, ◌≤◌}
use mir.Facts.{to_z-of_z}
use native.Mathlib.Omega.{arith}
use lib.ListN.{length}
use Rattle.model.specs.Forms.{sheet_limits}
use Rattle.model.proofs.Laying.{parameter_here}
use Rattle.listed.proofs.RowSteps.{row_named}
use Rattle.listed.proofs.RowLaws.{name_short, count_short}
use borrow.Author.Rules.{rules}
use Rattle.listed.proofs.listing.put_read.Goals as goal

pub name_in-name-requires : goal.name_in-name-requires
name_in-name-requires c = record { parameter_here = parameter_here _ c.args.r.now.ruled.laid.entries _ c.requires.i_bound }

pub overflow_add-j : goal.overflow_add-j
overflow_add-j c =
    let k = count_short c.args.r.now.declared.table.bytes.now c.args.r.now.ruled c.args.i c.requires.i_bound in
    let h : c.args.j + 1 ≤ sheet_limits.samples_each = omega (arith, k, c.requires.j_bound) in
    search rules

pub put_row-requires : goal.put_row-requires
put_row-requires c =
    let n = name_short c.args.r.now.declared.table.bytes.now c.args.r.now.ruled c.args.i c.requires.i_bound in
    omega (arith, n, ap length c.name_in-name.ensures.0, c.requires.row_most_in_bounds)

pub returns : goal.returns
returns c = row_named _ _ _ _ _ _ _ _ _ _ _ (to_z-of_z c.ranges.value) c.name_in-name.ensures.0 c.put_row.ensures
