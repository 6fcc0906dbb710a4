use mathlib.Core.Path.{◌≡◌, refl, sym, ◌∙◌}
use mathlib.Core.Bool.{true, false}
use native.Mathlib.Omega.{arith}
use Rattle.lay.proofs.Tests.{refuse, differ}
use Rattle.lay.proofs.Below.{all_more, all_below}
use Rattle.rules.specs.Ruled.{newly_identified}
use Rattle.rules.proofs.Identifying.{apart_from}
use Rattle.rules.proofs.identifiers.newly_identified.Goals.{then-is_identifier+else-not-identified_apart, else-is_identifier}
use Rattle.rules.proofs.identifiers.newly_identified.Goals as goal

pub loop-k-init : goal.loop-k-init
loop-k-init c = record { within = omega arith; done = refl }

pub returns-then-not-identified_apart : goal.returns-then-not-identified_apart
unfolding newly_identified
returns-then-not-identified_apart c =
    let b = c.args.r.now.declared.table.bytes.now in
    let i = c.args.i in
    let k = c.loop-k.k in
    let x : apart_from b i k ≡ false = rw (sym c.is_identifier.ensures ∙ c.if-is_identifier.true, sym c.identified_apart.ensures ∙ c.if-not-identified_apart.true) in
    refuse _ (λ h. differ x (all_below i (apart_from b i) h k (omega arith)))

pub loop-k-preserved : goal.loop-k-preserved
loop-k-preserved c =
    let b = c.args.r.now.declared.table.bytes.now in
    let i = c.args.i in
    let k = c.loop-k.k in
    let e = c.is_identifier.ensures in
    let x : apart_from b i k ≡ true =
    elim c.if-is_identifier.branch [
      | then-is_identifier+else-not-identified_apart w ↦ rw (sym e ∙ w.if-is_identifier.true, sym w.identified_apart.ensures ∙ w.if-not-identified_apart.false)
      | else-is_identifier w ↦ rw (sym e ∙ w.if-is_identifier.false)
    ] in
    record { within = omega arith; done = all_more k (apart_from b i) c.loop-k.invariant.done x }

pub returns : goal.returns
unfolding newly_identified
returns c =
    let full : c.loop-k.k ≡ c.args.i = omega arith in
    sym (rw full at c.loop-k.invariant.done)
