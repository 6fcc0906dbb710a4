-- A value below two to the 64 is below every higher power.
use mathlib.Core.Path.{sym, ◌∙◌}
use Prim.Native.Nat.{◌^◌, ◌≤◌}
use native.Mathlib.Omega.{arith}
use borrow.Author.Tests.{lt-ltb, le-leb}
use lib.Pow.{pow_mono}
use Rattle.judge.proofs.kept.fits.Goals as goal

pub returns-then-width-ge64 : goal.returns-then-width-ge64
returns-then-width-ge64 c =
    let a = c.args in
    let l : 2 ^ 64 ≤ 2 ^ a.width = pow_mono c.if-width-ge64.true in
    le-leb _ _ c.if-width-ge64.true ∙ sym (lt-ltb a.value (2 ^ a.width) (omega (arith, l)))
