-- Its high bit is lowered by the overlap.
use mathlib.Core.Path.{ap}
use Prim.Native.Nat.{◌-◌}
use native.Mathlib.Omega.{arith}
use Rattle.sample.specs.declared.component.Component.{Component}
use Rattle.model.specs.Samples.{whole, piece}
use Rattle.model.specs.View.{component_at}
use Rattle.rules.proofs.samples.piece_at.Goals as goal

pub overflow_sub-result : goal.overflow_sub-result
unfolding whole component_at
overflow_sub-result c =
    let w = ap (λ (p : Component). p.high) c.whole_at-w.ensures in
    let r = c.requires.component_law in
    omega (arith, w, c.component_at-c.ensures.overlap_is, r.lapped, r.rising, r.some_bit)

pub returns : goal.returns
unfolding whole piece component_at
returns c =
    let w = c.whole_at-w.ensures in
    let e = c.component_at-c.ensures in
    λ z. record { word = (w z).word; low = (w z).low; high = (w z).high - e.overlap_is z }
