use native.Mathlib.Omega.{arith}
use mathlib.Core.Path.{sym, ◌∙◌}
use Rattle.lines.proofs.Cuts.{Next, found_next}
use Rattle.spellings.proofs.walk.found_text.Goals.{In-Ok}
use Rattle.spellings.proofs.walk.found_text.Goals as goal

-- what the cursor found
found : (c : In-Ok) → Next c.args.sheet.now c.loop-line.c c.in-Ok.line.start c.in-Ok.line.end c.in-Ok.line.next
found c = found_next _ _ c.loop-line.invariant _ (sym c.next.ensures ∙ c.in-Ok.is)

pub between-requires : goal.between-requires
between-requires c =
    let k = found (goal.at.between-requires c).In-Ok in
    (k.ordered, omega arith)

pub loop-line-smaller : goal.loop-line-smaller
loop-line-smaller c =
    let k = found (goal.at.loop-line-smaller c).In-Ok in
    omega arith

pub loop-line-preserved : goal.loop-line-preserved
loop-line-preserved c = (found (goal.at.loop-line-preserved c).In-Ok).ready
