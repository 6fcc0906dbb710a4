use mathlib.Core.Path.{◌∙◌}
use Rattle.lay.proofs.Bytes.{num_read, number_eight}
use Rattle.lay.proofs.eight_at.Goals as goal

pub returns : goal.returns
returns c = num_read 8 _ _ _ _ c.requires c.bytes_at.ensures (λ e. c.from_le_bytes.ensures ∙ number_eight _ e)
