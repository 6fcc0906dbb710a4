use mathlib.Core.Path.{◌≡◌, refl, sym, ◌∙◌}
use mathlib.Core.Bool.{false}
use Prim.Native.Nat.{◌<◌}
use native.Mathlib.Numerals.{add-one}
use native.Mathlib.Omega.{arith}
use borrow.Author.Tests.{eq-eqb, ne_eqb}
use Rattle.lay.proofs.Tests.{and_both}
use Rattle.lay.proofs.Below.{any_made}
use Rattle.model.specs.Identifiers.{lies}
use Rattle.model.specs.Stored.{parameters_in}
use Rattle.model.specs.View.{parameter_at}
use Rattle.rules.proofs.Identifying.{takes, taken_at}
use Rattle.rules.proofs.identifiers.is_taken.Goals.{then-is_identifier+else-lies_in-s, else-is_identifier}
use Rattle.rules.proofs.identifiers.is_taken.Goals as goal

pub loop-i-init : goal.loop-i-init
loop-i-init c = record { within = omega arith; none = refl }

pub returns-then-lies_in-s : goal.returns-then-lies_in-s
returns-then-lies_in-s c =
    let b = c.args.r.now.declared.table.bytes.now in
    let s = c.args.s in
    let i = c.loop-i.i in
    let l : i < parameters_in b = omega arith in
    let e : lies (parameter_at b i) ≡ s = omega arith in
    sym (taken_at b s ∙ any_made (parameters_in b) (takes b s) i l (and_both (sym c.is_identifier.ensures ∙ c.if-is_identifier.true) (eq-eqb _ _ e)))

pub loop-i-preserved : goal.loop-i-preserved
loop-i-preserved c =
    let b = c.args.r.now.declared.table.bytes.now in
    let s = c.args.s in
    let i = c.loop-i.i in
    let e = c.is_identifier.ensures in
    let x : takes b s i ≡ false =
    elim c.if-is_identifier.branch [
      | then-is_identifier+else-lies_in-s w ↦ let f = ne_eqb (lies (parameter_at b i)) s (λ h. omega arith) in rw (sym e ∙ w.if-is_identifier.true, f)
      | else-is_identifier w ↦ rw (sym e ∙ w.if-is_identifier.false)
    ] in
    record { within = omega arith; none = rw (add-one, c.loop-i.invariant.none, x) }

pub returns : goal.returns
returns c =
    let b = c.args.r.now.declared.table.bytes.now in
    let full : c.loop-i.i ≡ parameters_in b = omega arith in
    sym (taken_at b c.args.s ∙ rw full at c.loop-i.invariant.none)
