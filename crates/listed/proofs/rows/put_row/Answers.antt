-- The parts of the row, one after the other.
use mir.Syntax.{w64}
use mir.ValLaws.{to_z-of_z}
use Rattle.listed.proofs.RowSteps.{fits_1, fits_2, fits_3, fits_4, row_put, row_back}
use Rattle.listed.proofs.rows.put_row.Goals as goal

pub put_field-b-requires : goal.put_field-b-requires
put_field-b-requires c = fits_1 _ c.args.name.now _ c.requires _ _ c.put_part-a.ensures

pub put_field-c-requires : goal.put_field-c-requires
put_field-c-requires c = fits_2 _ c.args.name.now _ c.requires _ _ c.put_part-a.ensures _ _ _ c.put_field-b.ensures

pub put_field-d-requires : goal.put_field-d-requires
put_field-d-requires c = fits_3 _ c.args.name.now _ c.requires _ _ c.put_part-a.ensures _ _ _ c.put_field-b.ensures _ _ _ c.put_field-c.ensures

pub put_last-requires : goal.put_last-requires
put_last-requires c = fits_4 _ c.args.name.now _ c.requires _ _ c.put_part-a.ensures _ _ _ c.put_field-b.ensures _ _ _ c.put_field-c.ensures _ _ _ c.put_field-d.ensures

pub returns : goal.returns
returns c = row_back _ _ _ _ _ _ _ _ _ _ (to_z-of_z w64 _ c.ranges.value) (row_put _ c.args.name.now _ c.requires _ _ c.put_part-a.ensures _ _ _ c.put_field-b.ensures _ _ _ c.put_field-c.ensures _ _ _ c.put_field-d.ensures _ _ _ c.put_last.ensures)
