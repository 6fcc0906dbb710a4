-- The minus sign first; the magnitude of the least number is a number too.
use borrow.Author.Rules.{rules}
use Rattle.listed.proofs.Magnitudes.{negative_put, natural_put}
use Rattle.listed.proofs.numbers.put_value.Goals as goal

pub returns-then-v-lt0 : goal.returns-then-v-lt0
returns-then-v-lt0 c =
    negative_put _ _ _ _ _ c.args.v c.requires (search rules) (search rules) c.put_decimal.ensures

pub returns : goal.returns
returns c = natural_put _ _ _ _ _ c.args.v (search rules) (search rules) c.put_decimal-2.ensures
