-- What the bench answers, as the struct.
use mathlib.Core.Path.{ap, ◌∙◌}
use Rattle.framing.specs.Outcomes.{outcome_of}
use Rattle.ffi.proofs.frames.orb_read.Goals as goal

pub returns : goal.returns
returns c = c.outcome_of.ensures ∙ ap outcome_of c.read.ensures
