use native.Mathlib.Omega.{arith}
use mathlib.Core.Path.{sym, ◌∙◌}
use Rattle.std.proofs.Common.{of_calls}
use Rattle.lines.proofs.Cuts.{Next, found_next}
use Rattle.intake.proofs.list.each_line.Given as given
use Rattle.intake.proofs.list.each_line.Goals.{In_ok-line}
use Rattle.intake.proofs.list.each_line.Goals as goal

module _ (g : given.Over) where
  -- what the cursor found
  found : (c : In_ok-line g) → Next c.args.list.now c.loop-c.c c.in_ok-line.line.start c.in_ok-line.line.end c.in_ok-line.line.next
  found c = found_next _ _ c.loop-c.invariant.0 _ (sym c.next.ensures ∙ c.in_ok-line.was)

pub between-requires : goal.between-requires
between-requires g c =
    let k = found g (goal.at.between-requires g c).In_ok-line in
    (k.ordered, omega arith)

pub loop-c-smaller : goal.loop-c-smaller
loop-c-smaller g c =
    let k = found g (goal.at.loop-c-smaller g c).In_ok-line in
    omega arith

pub loop-c-preserved : goal.loop-c-preserved
loop-c-preserved g c = ((found g (goal.at.loop-c-preserved g c).In_ok-line).ready, search of_calls)
