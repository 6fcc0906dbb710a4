-- The worked examples of 01, one table under one theorem: samples, signs, placings and comparisons over the wall's table, sheets
-- with their rulings, the seconds among them, and the listing of the wall. Assumes nothing.
use Rattle.framing.proofs.Examples as frames
use Rattle.rulings.proofs.SheetExamples as sheets
use Rattle.demands.proofs.WallListed.{WallRows, wall_listed}

pub record All : Type 0 where
  pub framed : frames.AllHold frames.cases
  pub sheeted : sheets.AllHold sheets.cases
  pub listed : WallRows

pub all_examples : All
all_examples = record { framed = frames.examples; sheeted = sheets.examples; listed = wall_listed }
