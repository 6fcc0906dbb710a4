-- The row is put by the name that the table answers.
use mathlib.Core.Path.{ap}
use native.Mathlib.Omega.{arith}
use mir.Facts.{to_z-of_z}
use lib.ListN.{length}
use Rattle.listed.proofs.RowSteps.{row_named}
use Rattle.bench.proofs.TextLaws.{answered_short}
use Rattle.bench.proofs.texts.put_named.Goals as goal

pub put_row-requires : goal.put_row-requires
put_row-requires c =
    omega (arith, ap length c.name.ensures.bytes, answered_short c.args.t.now c.args.parameter, c.requires)

pub returns : goal.returns
returns c = row_named _ _ _ _ _ _ _ _ _ _ _ (to_z-of_z c.ranges.value) c.name.ensures.bytes c.put_row.ensures
