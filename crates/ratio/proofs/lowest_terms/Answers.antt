use Rattle.ratio.specs.Ratio.{lowest_terms}
use Rattle.ratio.proofs.Reduced.{gcd_positive}
use Rattle.ratio.proofs.lowest_terms.Goals as goal

pub nonzero_div-result : goal.nonzero_div-result
nonzero_div-result c = rw c.common_divisor-d.ensures (gcd_positive _ _ c.requires)

pub nonzero_div-result-2 : goal.nonzero_div-result-2
nonzero_div-result-2 c = rw c.common_divisor-d.ensures (gcd_positive _ _ c.requires)

pub returns : goal.returns
unfolding lowest_terms
returns c = simp c.common_divisor-d.ensures
