use mir.Syntax.{w64}
use mir.Val.{to_z, of_z}
use mir.ValLaws.{to_z-of_z}
use Rattle.listed.proofs.RowSteps.{last_back}
use Prim.Native.Nat.{◌+◌, ◌≤◌}
use mathlib.Core.Path.{refl}
use borrow.Author.Rules.{rules}
use lib.ListN.{length}
use native.Mathlib.Omega.{arith}
use Rattle.listed.proofs.LineLaws.{value_short}
use Rattle.listed.proofs.LineLaws.{put_ended}
use Rattle.listed.proofs.rows.put_last.Goals.{After-put_value-e}
use Rattle.listed.proofs.rows.put_last.Goals as goal

-- there is room for the byte
room : (c : After-put_value-e) → c.put_value-e.result + 1 ≤ length c.args.out.now
room c = omega (arith, value_short (to_z w64 (of_z w64 c.args.v)), c.put_value-e.ensures.0, c.requires)

pub bounds-out-e : goal.bounds-out-e
bounds-out-e c = let h = room (goal.at.bounds-out-e c).After-put_value-e in search rules

pub overflow_add-result : goal.overflow_add-result
overflow_add-result c = let h = room (goal.at.overflow_add-result c).After-put_value-e in search rules

pub returns : goal.returns
returns c = last_back _ _ _ _ _ _ _ (to_z-of_z w64 _ c.ranges.v) (put_ended _ _ _ _ _ _ _ c.put_value-e.ensures.1 c.put_value-e.ensures.0 refl (room (goal.at.returns c).After-put_value-e))
