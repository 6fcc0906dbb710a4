-- The word is read, its field replaced, and the word written back.
use Rattle.sample.specs.Placing.{place_one}
use Rattle.sample.proofs.placing.place_one.Goals as goal

pub returns : goal.returns
unfolding place_one
returns c = cc
