-- The width of the listed sample.
use mathlib.Core.Path.{sym, ap, ◌∙◌}
use Prim.Native.Nat.{ℕ, ◌+◌}
use native.Mathlib.Omega.{arith}
use Rattle.model.specs.Samples.{width_of}
use Rattle.model.specs.View.{sample_at}
use Rattle.rules.specs.Ruled.{subframes_of}
use Rattle.framing.specs.Reading.{width_is}
use Rattle.framing.proofs.Listed.{listed_at, here_at, pieces_here}
use Rattle.frame.proofs.place.width_in.Goals as goal

pub overflow_add-e : goal.overflow_add-e
overflow_add-e c =
    omega (arith, c.parameter_at-e.ensures, c.requires.j_bound)

pub width_at-requires : goal.width_at-requires
width_at-requires c =
    let t = c.args.r.now.declared.table.bytes.now in
    let e = c.parameter_at-e.ensures in
    let m = listed_at t c.args.i c.args.j c.args.r.now.ruled c.requires.i_bound c.requires.j_bound in
    let q = ap (λ (f : ℕ). f + c.args.j) e.first_is in
    record { sample_here = here_at t _ _ m q; pieces_here = pieces_here t _ _ m q }

pub returns : goal.returns
unfolding width_is
returns c =
    let t = c.args.r.now.declared.table.bytes.now in
    let i = c.args.i in
    let j = c.args.j in
    let e = c.parameter_at-e.ensures in
    let m = listed_at t i j c.args.r.now.ruled c.requires.i_bound c.requires.j_bound in
    let w = c.width_at.ensures.0 ∙ ap (λ (f : ℕ). width_of (subframes_of t) (sample_at t (f + j))) e.first_is in
    (w ∙ sym (ap (width_of (subframes_of t)) m.is), omega (arith, w, m.law.narrow, m.within.width))
