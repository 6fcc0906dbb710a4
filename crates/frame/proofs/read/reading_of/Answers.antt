-- By whether the copies agree. A signed number is read back as it is.
use mathlib.Core.Path.{sym, ap, ◌∙◌}
use mathlib.Core.Bool.{Bool, cond}
use lib.IntN.{ℤ}
use mir.Facts.{to_z-of_z}
use Rattle.framing.specs.declared.read.Reading.TheVariants.{Sample, OverlapDiffers}
use Rattle.frame.proofs.read.reading_of.Goals as goal

pub returns-then-agrees : goal.returns-then-agrees
returns-then-agrees c =
    let a = c.args in
    ap (λ (v : ℤ). Sample a.raw a.width v) (to_z-of_z c.ranges.value)
    ∙ sym (ap (λ (t : Bool). cond t (Sample a.raw a.width a.value) (OverlapDiffers a.raw a.width a.value)) c.if-agrees.true)

pub returns : goal.returns
returns c =
    let a = c.args in
    ap (λ (v : ℤ). OverlapDiffers a.raw a.width v) (to_z-of_z c.ranges.value)
    ∙ sym (ap (λ (t : Bool). cond t (Sample a.raw a.width a.value) (OverlapDiffers a.raw a.width a.value)) c.if-agrees.false)
