use mathlib.Core.Path.{subst}
use native.Mathlib.Omega.{arith}
use Rattle.stream.specs.Promise.{Window, EightUnlike}
use Rattle.stream.proofs.Streams.{window_made}
use Rattle.stream.proofs.Skipping.{passed_none, passed_eight, passed_last, passed_skips, found_like}
use Rattle.stream.proofs.skip.skip_unlike.Goals.{After-four_at-v, then-not-eight_unlike+in_default, else-not-eight_unlike}
use Rattle.stream.proofs.skip.skip_unlike.Goals as goal

pub loop-a-init : goal.loop-a-init
loop-a-init c = passed_none _ _ _ _ _ c.byte_of-a.ensures

window : (c : After-four_at-v) → Window 4 c.args.stream.now c.loop-a.a c.four_at-v.result
window c =
    window_made 4 _ _ _ (λ i. let byte = c.type_inv.stream i in omega arith) c.loop-a-test.true c.four_at-v.ensures.0

pub returns-in-Some : goal.returns-in-Some
returns-in-Some c =
    found_like _ _ _ _ _ c.loop-a.invariant (window (goal.at.returns-in-Some c).After-four_at-v) c.loop-a-test.true c.requires.2 c.bit_in.ensures c.in-Some.ensures

pub loop-a-preserved : goal.loop-a-preserved
loop-a-preserved c =
    let h = c.loop-a.invariant in
    let w = window (goal.at.loop-a-preserved c).After-four_at-v in
    let l = c.loop-a-test.true in
    let t = c.requires.2 in
    elim c.if-not-eight_unlike.branch [
      | then-not-eight_unlike+in_default x ↦ passed_last _ _ _ _ _ h w l t x.bit_in.ensures x.in_default.ensures
      | else-not-eight_unlike x ↦ passed_eight _ _ _ _ _ h w l t (subst (EightUnlike _ _ _) x.if-not-eight_unlike.false c.eight_unlike.ensures)
    ]

pub returns : goal.returns
returns c = passed_skips _ _ _ _ _ c.loop-a.invariant _ c.bit_in-2.ensures
