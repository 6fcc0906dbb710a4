use mathlib.Core.Path.{sym, ap, ◌∙◌}
use Prim.Native.Nat.{◌<◌}
use native.Mathlib.Omega.{arith}
use Rattle.lay.specs.Bytes.{put}
use Rattle.model.specs.Stored.{subframes_in}
use Rattle.card.proofs.SpanLaws.{words_are, few_words_lem}
use Rattle.card.proofs.Handing.{handed_none, next_inside, next_room, handed_more, row_read}
use Rattle.card.proofs.hand.hand_out.Goals.{In-loop-i}
use Rattle.card.proofs.hand.hand_out.Goals as goal

here : (c : In-loop-i) → c.loop-i.i < subframes_in c.args.s.now.ruled.declared.table.bytes.now
here c = omega (arith, c.loop-i.invariant, c.loop-i-test.true)

pub loop-i-init : goal.loop-i-init
loop-i-init c = handed_none _ c.args.stream.now c.args.p _ _ c.args.s.now.ruled.declared.table.opened_of.counts.subframes_is c.requires.t_in_bounds

pub hand_row-requires-clause-count_in_bounds : goal.hand_row-requires-clause-count_in_bounds
hand_row-requires-clause-count_in_bounds c =
    let v = c.loop-i.invariant in
    let w = words_are c.args.s.now.ruled.declared.table.bytes.now c.loop-i.i (here (goal.at.hand_row-requires-clause-count_in_bounds c).In-loop-i) in
    omega (arith, v.long, next_room _ _ _ v c.loop-i-test.true, w, c.subframe_at-f.ensures)

pub overflow_add-at : goal.overflow_add-at
overflow_add-at c =
    let b = c.args.s.now.ruled.declared.table.bytes.now in
    let w = words_are b c.loop-i.i (here (goal.at.overflow_add-at c).In-loop-i) in
    omega (arith, next_inside _ _ _ c.loop-i.invariant c.loop-i-test.true, few_words_lem b c.args.s.now.ruled.ruled, w, c.subframe_at-f.ensures)

pub loop-i-preserved : goal.loop-i-preserved
loop-i-preserved c =
    let b = c.args.s.now.ruled.declared.table.bytes.now in
    let i = c.loop-i.i in
    let l = here (goal.at.loop-i-preserved c).In-loop-i in
    let e = c.subframe_at-f.ensures in
    handed_more _ _ _ c.loop-i.invariant c.loop-i-test.true
    (c.hand_row.ensures
    ∙ ap (put c.loop-i.words c.loop-i.at) (row_read b c.args.stream.now c.args.p i l _ _ _ (c.args.s.now.begins_of.each i l) e.bits_is e.words_is))
    (e.words_is ∙ sym (words_are b i l))
