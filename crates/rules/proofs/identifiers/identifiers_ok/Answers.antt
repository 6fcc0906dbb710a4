use mathlib.Core.Path.{◌≡◌, refl, sym, ◌∙◌}
use Prim.Native.Nat.{◌<◌}
use native.Mathlib.Omega.{arith}
use Rattle.lay.proofs.Tests.{rule, refuse, differ}
use Rattle.lay.proofs.Below.{all_more, all_below}
use Rattle.model.specs.Content.{parameters}
use Rattle.model.specs.Identifiers.{identifies, identifiers_ok}
use Rattle.model.specs.Stored.{parameters_in}
use Rattle.model.specs.View.{view}
use Rattle.model.proofs.Views.{parameters_view}
use Rattle.rules.proofs.Identifying.{identifiers_at}
use Rattle.rules.proofs.identifiers.identifiers_ok.Goals as goal

pub loop-i-init : goal.loop-i-init
loop-i-init c = record { within = omega arith; done = refl }

pub returns-then-not-identifies_ok : goal.returns-then-not-identifies_ok
unfolding identifiers_ok
returns-then-not-identifies_ok c =
    let b = c.args.r.now.declared.table.bytes.now in
    let i = c.loop-i.i in
    let l : i < parameters (view b) = omega (arith, parameters_view b) in
    refuse _ (λ h. differ (sym c.identifies_ok.ensures ∙ c.if-not-identifies_ok.true) (all_below (parameters (view b)) (identifies (view b)) (rule _ h 0) i l))

pub loop-i-preserved : goal.loop-i-preserved
loop-i-preserved c =
    let b = c.args.r.now.declared.table.bytes.now in
    record {
      within = omega arith;
      done = all_more c.loop-i.i (identifies (view b)) c.loop-i.invariant.done (sym c.identifies_ok.ensures ∙ c.if-not-identifies_ok.false);
    }

pub returns : goal.returns
returns c =
    let b = c.args.r.now.declared.table.bytes.now in
    let full : c.loop-i.i ≡ parameters_in b = omega arith in
    c.all_taken.ensures ∙ sym (identifiers_at b (rw full at c.loop-i.invariant.done))
