-- A component stands so far behind the words before it.
use mathlib.Core.Path.{◌≡◌, sym, ap, ap₂, ◌∙◌}
use Prim.Native.Nat.{ℕ, ◌+◌, ◌-◌, ◌<◌}
use native.Mathlib.Omega.{arith}
use Rattle.model.specs.Samples.{whole, piece}
use Rattle.model.specs.Stored.{subframes_in, home_in}
use Rattle.model.specs.View.{component_at}
use Rattle.card.proofs.SpanLaws.{inside, component_there}
use Rattle.card.proofs.spans.run_at.Goals as goal

pub returns : goal.returns
unfolding whole piece component_at
returns c =
    let f = inside c.args.d.now.table.bytes.now c.args.k c.args.d.now.subframes_law c.requires.component_law in
    let e = c.component_at-c.ensures in
    let b = c.args.d.now.table.bytes.now in
    let k = c.args.k in
    let home : ℕ = c.component_at-c.result.subframe - 1 in
    let q : home ≡ home_in b k - 1 = ap (λ (x : ℕ). x - 1) e.subframe_is in
    let l : home < subframes_in b = omega (arith, e, f) in
    let begin = c.requires.begins_of.each home l in
    let bits = c.subframe_at-f.ensures.bits_is in
    let at = c.bit_of-at.ensures in
    record {
      at_is = at.0 ∙ rw (begin, bits, q, e.word_is, e.low_is) (sym (component_there b k c.args.d.now.subframes_law c.requires.component_law));
      bits_is = ap₂ (λ (x y : ℕ). x + 1 - y) e.high_is e.low_is;
      given_is = omega (arith, e.high_is, e.low_is, e.overlap_is, f.lapped);
      few = omega (arith, e, f);
      small = at.1;
    }
