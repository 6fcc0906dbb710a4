-- What the bench answers, as the struct.
use mathlib.Core.Path.{sym, ap, subst, ◌∙◌}
use Rattle.ffi.specs.Structs.{compared_out}
use Rattle.ffi.specs.Sizes.{SubframeFits}
use Rattle.ffi.proofs.Subframes.{subframe_fits_lem}
use Rattle.ffi.proofs.frames.orb_compare.Goals as goal

pub compared_out-requires : goal.compared_out-requires
compared_out-requires c = subst SubframeFits (sym c.compare.ensures) (subframe_fits_lem _ _)

pub returns : goal.returns
returns c = c.compared_out.ensures ∙ ap compared_out c.compare.ensures
