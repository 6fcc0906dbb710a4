use mathlib.Core.Path.{sym, ◌∙◌}
use Rattle.maker.proofs.Writing as writing
use Rattle.maker.proofs.walk.walk.Goals as goal

pub loop-found-init : goal.loop-found-init
loop-found-init c = writing.walk_start _ _ _ _ c.requires _ c.nothing-x.ensures

pub between-line-requires : goal.between-line-requires
between-line-requires c = writing.walk_bounds c.loop-found.invariant _ (sym c.next.ensures ∙ c.in-Ok.is)

pub emit-requires : goal.emit-requires
emit-requires c =
    let w = c.loop-found.invariant in
    (writing.walk_open w, writing.walk_room w _ (sym c.next.ensures ∙ c.in-Ok.is) _ c.between-line.ensures _ c.form_of-f.ensures)

pub counted-x-requires : goal.counted-x-requires
counted-x-requires c = writing.walk_small c.loop-found.invariant

pub loop-found-smaller : goal.loop-found-smaller
loop-found-smaller c = writing.walk_less c.loop-found.invariant _ (sym c.next.ensures ∙ c.in-Ok.is)

pub loop-found-preserved : goal.loop-found-preserved
loop-found-preserved c =
    writing.walk_next c.loop-found.invariant _ (sym c.next.ensures ∙ c.in-Ok.is) _ c.between-line.ensures _ c.form_of-f.ensures
    _ c.emit.ensures _ c.counted-x.ensures _ c.due_after-due.ensures

pub returns : goal.returns
returns c = writing.walk_end c.loop-found.invariant _ (sym c.next.ensures ∙ c.in_default.is)
