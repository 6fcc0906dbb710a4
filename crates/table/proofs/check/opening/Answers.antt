-- The head, then what stands behind it; what the head said is handed on.
use mathlib.Core.Path.{◌≡◌, refl, sym, ap, subst, ◌∙◌}
use mathlib.Core.Bool.{true, false}
use mathlib.Core.List.{List}
use Prim.Native.Nat.{ℕ}
use Rattle.std.specs.Borrow.{Bor}
use Rattle.lay.proofs.Tests.{refuse, differ}
use Rattle.model.specs.Accepts.{head_ok, accepts}
use Rattle.model.proofs.Laying.{head as headed}
use Rattle.stored.specs.declared.table.Table.{Table}
use Rattle.stored.proofs.Openings.{unopened, opened_as, was_opened, was_not}
use Rattle.rules.specs.Ruled.{Ruled}
use Rattle.table.proofs.Accepting.{accepts_head, accepted_ruled}
use Rattle.table.proofs.check.opening.Goals as goal

pub returns-in_err-table : goal.returns-in_err-table
returns-in_err-table c = rw c.from_residual.ensures (unopened (refuse _ (λ h. differ (was_not c.in_err-table.ensures refl) (accepts_head _ h))))

pub body_ok-requires : goal.body_ok-requires
body_ok-requires c =
    let e = c.in_ok-table.ensures.of _ refl in
    record { head = headed _ (subst (λ (x : Bor (List ℕ)). head_ok x.now ≡ true) (sym e) (was_opened c.in_ok-table.ensures refl)) }

pub returns-then-not-body_ok : goal.returns-then-not-body_ok
returns-then-not-body_ok c =
    let e = c.in_ok-table.ensures.of _ refl in
    unopened (sym (subst (λ (x : Bor (List ℕ)). accepts x.now ≡ false) e (sym c.body_ok.ensures ∙ c.if-not-body_ok.true)))

pub declared-d-requires : goal.declared-d-requires
declared-d-requires c = record { subframes_law = (accepted_ruled _ (sym c.body_ok.ensures ∙ c.if-not-body_ok.false)).subframes }

pub invariant_of-result : goal.invariant_of-result
invariant_of-result c =
    record { ruled = subst (λ (x : Table). Ruled x.bytes.now) (sym c.declared-d.ensures) (accepted_ruled _ (sym c.body_ok.ensures ∙ c.if-not-body_ok.false)) }

pub returns : goal.returns
returns c =
    let e = c.in_ok-table.ensures.of _ refl in
    opened_as (subst (λ (x : Bor (List ℕ)). accepts x.now ≡ true) e (sym c.body_ok.ensures ∙ c.if-not-body_ok.false)) (ap (λ (x : Table). x.bytes) c.declared-d.ensures ∙ e)
