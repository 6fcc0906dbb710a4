-- A field of the window.
use mathlib.Core.Path.{◌≡◌, ap, ◌∙◌}
use Prim.Native.Nat.{ℕ, ◌+◌, ◌*◌}
use native.Mathlib.Omega.{arith}
use Rattle.stream.specs.Stream.{bits_from}
use Rattle.stream.proofs.Streams.{from_lt}
use Rattle.stream.proofs.bits_at.Goals as goal

pub returns : goal.returns
returns c =
    let a = c.args in
    let y = a.stream.now in
    let byte = c.byte_of.ensures in
    let bit = c.bit_of.ensures in
    let whole : 8 * c.byte_of.result + c.bit_of.result ≡ a.k = omega (arith, byte, bit) in
    let is : c.field_of.result ≡ bits_from y a.k a.n =
    c.field_of.ensures
    ∙ c.window_at.ensures.reads c.bit_of.result a.n (omega (arith, bit, c.requires))
    ∙ ap (λ (m : ℕ). bits_from y m a.n) whole
    in
    (is, rw is (from_lt y a.k a.n))
