-- 21 for an empty or unknown mnemonic, else the parameter.
use mathlib.Core.Path.{sym, ap, ◌∙◌}
use native.Mathlib.Omega.{arith}
use Prim.Native.Nat.{ℕ}
use Rattle.std.proofs.lemmas.Bool.Decides.{nat_tests}
use Rattle.std.specs.Option.{ok_or}
use Rattle.std.specs.Prelude.{Option}
use Rattle.table.specs.declared.reason.Reason.TheVariants.{NoParameter}
use Rattle.table.proofs.Asking.{mnemonic_empty, mnemonic_asked_for}
use Rattle.table.proofs.naming.with_mnemonic.Goals as goal

pub returns-then-is_empty : goal.returns-then-is_empty
returns-then-is_empty c = sym (mnemonic_empty _ _ (grind (arith, nat_tests)))

pub find_mnemonic-requires : goal.find_mnemonic-requires
find_mnemonic-requires c = record { entries = c.requires.entries }

pub returns : goal.returns
returns c =
    c.ok_or.ensures.value
    ∙ ap (λ (o : Option ℕ). ok_or o NoParameter) c.find_mnemonic.ensures
    ∙ sym (mnemonic_asked_for _ _ (grind (arith, nat_tests)))
