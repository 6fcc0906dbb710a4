use mathlib.Core.Path.{◌≡◌, refl, sym, ◌∙◌}
use Prim.Native.Nat.{◌<◌}
use native.Mathlib.Omega.{arith}
use Rattle.lay.proofs.Tests.{refuse, differ}
use Rattle.lay.proofs.Below.{all_more, all_below}
use Rattle.model.specs.Stored.{subframes_in}
use Rattle.rules.specs.Ruled.{all_taken}
use Rattle.rules.proofs.identifiers.all_taken.Invariants.{is_taken}
use Rattle.rules.proofs.identifiers.all_taken.Goals as goal

pub loop-s-init : goal.loop-s-init
loop-s-init c = record { within = omega arith; done = refl }

pub returns-then-not-is_taken : goal.returns-then-not-is_taken
unfolding all_taken
returns-then-not-is_taken c =
    let b = c.args.r.now.declared.table.bytes.now in
    let s = c.loop-s.s in
    let l : s < subframes_in b = omega arith in
    refuse _ (λ h. differ (sym c.is_taken.ensures ∙ c.if-not-is_taken.true) (all_below (subframes_in b) (is_taken b) h s l))

pub loop-s-preserved : goal.loop-s-preserved
loop-s-preserved c =
    let b = c.args.r.now.declared.table.bytes.now in
    record {
      within = omega arith;
      done = all_more c.loop-s.s (is_taken b) c.loop-s.invariant.done (sym c.is_taken.ensures ∙ c.if-not-is_taken.false);
    }

pub returns : goal.returns
unfolding all_taken
returns c =
    let full : c.loop-s.s ≡ subframes_in c.args.r.now.declared.table.bytes.now = omega arith in
    sym (rw full at c.loop-s.invariant.done)
