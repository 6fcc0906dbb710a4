-- What the bench answers and leaves, as the struct.
use mathlib.Core.Path.{ap, ◌∙◌}
use Rattle.ffi.specs.Structs.{carded_out}
use Rattle.ffi.proofs.cards.orb_card.Goals as goal

pub returns : goal.returns
returns c = (c.carded_out.ensures ∙ ap carded_out c.card.ensures.0, c.card.ensures.1)
