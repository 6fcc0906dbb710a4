use mathlib.Core.Path.{◌∙◌}
use native.Mathlib.Omega.{arith}
use Rattle.lay.proofs.Bytes.{num_read, number_four}
use Rattle.lay.proofs.four_at.Goals as goal

pub returns : goal.returns
returns c = (num_read 4 _ _ _ _ c.requires c.bytes_at.ensures (λ e. c.from_le_bytes.ensures ∙ number_four _ e), omega arith)
