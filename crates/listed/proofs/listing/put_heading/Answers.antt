use mathlib.Core.Path.{refl}
use native.Mathlib.Omega.{arith}
use Rattle.listed.proofs.LineLaws.{front_counts}
use Rattle.listed.proofs.listing.put_heading.Goals as goal

pub returns : goal.returns
returns c = let e = c.put_text.ensures in record { value = (refl, e); prefix_len = front_counts _ _ _ _ refl e (omega (arith, c.requires)) }
