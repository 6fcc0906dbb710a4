-- The number of what the bench answers, and the words it leaves.
use mathlib.Core.Path.{ap, ◌∙◌}
use Rattle.framing.specs.Placing.{place_number}
use Rattle.ffi.proofs.frames.orb_place.Goals as goal

pub returns : goal.returns
returns c = (c.place_number.ensures ∙ ap place_number c.place.ensures.0, c.place.ensures.1)
