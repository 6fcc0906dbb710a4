-- 21, else the parameter.
use mathlib.Core.Path.{sym}
use Rattle.table.proofs.Asking.{number_low, number_high, number_here}
use Rattle.table.proofs.naming.numbered.Goals as goal

pub returns-then-p-lt1 : goal.returns-then-p-lt1
returns-then-p-lt1 c = sym (number_low _ _ c.if-p-lt1.true)

pub returns-then-parameters-p : goal.returns-then-parameters-p
returns-then-parameters-p c = sym (number_high _ _ c.if-p-lt1.false c.if-parameters-p.true)

pub returns : goal.returns
returns c = sym (number_here _ _ c.if-p-lt1.false c.if-parameters-p.false)
