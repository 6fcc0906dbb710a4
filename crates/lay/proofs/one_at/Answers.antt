-- One byte is the number itself.
use mathlib.Core.Path.{sym, ◌∙◌}
use native.Mathlib.Omega.{arith}
use Rattle.lay.proofs.Bytes.{num_1}
use Rattle.lay.proofs.one_at.Goals as goal

pub returns : goal.returns
returns c = let byte = c.type_inv.t c.args.o in (c.from.ensures ∙ sym (num_1 c.args.t.now c.args.o (omega arith)), omega arith)
