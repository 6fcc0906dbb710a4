-- What the bench answers and leaves, as the struct.
use mathlib.Core.Path.{sym, ap, subst, ◌∙◌}
use Rattle.ffi.specs.Structs.{made_out}
use Rattle.ffi.specs.Sizes.{LengthFits}
use Rattle.ffi.proofs.Lengths.{length_fits}
use Rattle.ffi.proofs.sheets.orb_make.Goals as goal

pub made_out-requires : goal.made_out-requires
made_out-requires c = subst LengthFits (sym c.make.ensures.0) (length_fits _ _)

pub returns : goal.returns
returns c = (c.made_out.ensures ∙ ap made_out c.make.ensures.0, c.make.ensures.1)
