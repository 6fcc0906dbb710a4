-- Raw, or raw minus two to the width: by the half in which raw lies.
use mathlib.Core.Path.{sym, ◌∙◌}
use native.Mathlib.Omega.{arith}
use mir.Facts.{to_z_pos}
use mir.Syntax.{w64}
use Rattle.bits.proofs.Signs.{raw_63, signed_low, machine_is}
use Rattle.bits.proofs.sign.Goals as goal

pub returns-then-raw-power_of_two : goal.returns-then-raw-power_of_two
returns-then-raw-power_of_two c =
    let a = c.args in
    to_z_pos w64 (raw_63 a.width a.raw c.requires.1 c.requires.2)
    ∙ sym (signed_low a.width a.raw (omega (arith, c.if-raw-power_of_two.true, c.power_of_two.ensures)))

pub returns-else-raw-power_of_two : goal.returns-else-raw-power_of_two
returns-else-raw-power_of_two c =
    machine_is c.args.width c.args.raw c.requires.0 c.requires.1 c.requires.2 c.power_of_two-else-raw-power_of_two.ensures
    (omega (arith, c.if-raw-power_of_two.false, c.power_of_two.ensures))
