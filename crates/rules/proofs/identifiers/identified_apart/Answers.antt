-- The two tests are those of the values and of the subframes.
use mathlib.Core.Path.{sym}
use native.Mathlib.Omega.{arith}
use Rattle.lay.proofs.Tests.{refuse}
use Rattle.model.proofs.Meanings.{identified_law, identified_made}
use Rattle.rules.proofs.Identifying.{value_at}
use Rattle.rules.proofs.identifiers.identified_apart.Goals as goal

pub returns-then-d-e : goal.returns-then-d-e
returns-then-d-e c =
    let p = value_at c.args.r.now.declared.table.bytes.now c.args.k in
    let q = value_at c.args.r.now.declared.table.bytes.now c.args.i in
    refuse _ (λ h. (identified_law _ _ h).value (omega arith))

pub returns-then-lies_in : goal.returns-then-lies_in
returns-then-lies_in c = refuse _ (λ h. (identified_law _ _ h).place (omega arith))

pub returns : goal.returns
returns c =
    let p = value_at c.args.r.now.declared.table.bytes.now c.args.k in
    let q = value_at c.args.r.now.declared.table.bytes.now c.args.i in
    sym (identified_made _ _ (record { value = λ h. omega arith; place = λ h. omega arith }))
