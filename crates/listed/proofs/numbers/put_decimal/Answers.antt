-- The digits are the number's text, put where they belong.
use Rattle.listed.proofs.DecimalLaws.{decimal_put}
use Rattle.listed.proofs.numbers.put_decimal.Goals as goal

pub returns : goal.returns
returns c = decimal_put _ _ c.ranges.n.fits c.decimal-k.ensures.len _ _ _ _ c.decimal-k.ensures.digits c.put_text.ensures
