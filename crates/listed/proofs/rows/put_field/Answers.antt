use Prim.Native.Nat.{◌+◌, ◌≤◌}
use mathlib.Core.Path.{refl}
use borrow.Author.Rules.{rules}
use lib.ListN.{length}
use native.Mathlib.Omega.{arith}
use Rattle.listed.proofs.DecimalLaws.{decimal_short}
use Rattle.listed.proofs.LineLaws.{put_ended}
use Rattle.listed.proofs.rows.put_field.Goals.{After-put_decimal-e}
use Rattle.listed.proofs.rows.put_field.Goals as goal

-- there is room for the byte
room : (c : After-put_decimal-e) → c.put_decimal-e.result + 1 ≤ length c.args.out.now
room c = omega (arith, decimal_short c.args.n, c.put_decimal-e.ensures.0, c.requires)

pub bounds-out-e : goal.bounds-out-e
bounds-out-e c = let h = room (goal.at.bounds-out-e c).After-put_decimal-e in search rules

pub overflow_add-result : goal.overflow_add-result
overflow_add-result c = let h = room (goal.at.overflow_add-result c).After-put_decimal-e in search rules

pub returns : goal.returns
returns c = put_ended _ _ _ _ _ _ _ c.put_decimal-e.ensures.1 c.put_decimal-e.ensures.0 refl (room (goal.at.returns c).After-put_decimal-e)
