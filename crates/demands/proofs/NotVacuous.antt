-- The demands are not empty: every Content has a frame that meets it (`zeros_meet` in model), so every sheet that is taken has its
-- reads; and there is a sheet of two subframes with an identifier in each. Assumes nothing.
use native.Mathlib.Omega.{arith}
use Rattle.model.proofs.TwoSubframes.{two, two_lawful}
use Rattle.grammar.specs.Plain.{decimal, pointed, plain_seconds, plain_sheet}
use Rattle.grammar.specs.Says.{Says}
use Rattle.grammar.proofs.Reachable.{reachable}

pub two_said : Says (plain_sheet two) two
unfolding plain_sheet plain_seconds pointed decimal
two_said = reachable two two_lawful (omega arith)
