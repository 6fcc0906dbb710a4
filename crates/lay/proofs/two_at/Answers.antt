use mathlib.Core.Path.{◌∙◌}
use native.Mathlib.Omega.{arith}
use Rattle.lay.proofs.Bytes.{num_read, number_two}
use Rattle.lay.proofs.two_at.Goals as goal

pub returns : goal.returns
returns c = (num_read 2 _ _ _ _ c.requires c.bytes_at.ensures (λ e. c.from.ensures ∙ (c.from_le_bytes.ensures ∙ number_two _ e)), omega arith)
