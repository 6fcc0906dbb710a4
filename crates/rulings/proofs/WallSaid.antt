-- 01's sheet on the wall, in its own bytes, says the wall's Content. Assumes nothing.
use Rattle.model.specs.Wall.{wall}
use Rattle.gather.specs.WallSheet.{wall_sheet}
use Rattle.grammar.specs.Says.{Says}
use Rattle.grammar.proofs.Accepted.{accepted_says}
use Rattle.rulings.proofs.WallJudged.{wall_accepted}

pub wall_sheet_says : Says wall_sheet wall
wall_sheet_says = accepted_says wall_sheet wall wall_accepted
