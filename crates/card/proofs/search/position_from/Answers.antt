use Rattle.card.proofs.Searching.{walk_ends}
use Rattle.card.proofs.search.position_from.Goals as goal

pub returns : goal.returns
returns c = walk_ends _ _ _ c.loop-p.invariant.0 c.loop-p-test.false
