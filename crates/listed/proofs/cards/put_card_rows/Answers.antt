use Prim.Native.Nat.{◌<◌}
use native.Mathlib.Omega.{arith}
use Rattle.model.specs.Stored.{sample_count_in}
use Rattle.listed.specs.Cards.{card_rows}
use Rattle.listed.proofs.RowLaws.{rows_start, rows_room, rows_next, rows_end}
use Rattle.listed.proofs.CardLaws.{card_row_most_lem}
use Rattle.listed.proofs.cards.put_card_rows.Goals as goal

pub loop-j-init : goal.loop-j-init
loop-j-init c =
    rows_start c.args.f.now.based.now.ruled.declared.table.bytes.now c.args.f.now.based.now.ruled.ruled c.args.i c.requires.i_bound _ _ _

pub put_card_row-at-requires : goal.put_card_row-at-requires
put_card_row-at-requires c =
    let t = c.args.f.now.based.now.ruled.declared.table.bytes.now in
    let i = c.args.i in
    let s = c.requires in
    let m : c.loop-j.j < sample_count_in t i = omega (arith, c.loop-j-test.true, c.parameter_at-e.ensures.count_is) in
    record { i_bound = s.i_bound; j_bound = m; card_row_most_in_bounds = rows_room t c.args.f.now.based.now.ruled.ruled i s.i_bound _ _ (card_row_most_lem t c.args.f.now.based.now.ruled.ruled i s.i_bound c.args.f.now.words.now c.args.position) _ _ _ _ c.loop-j.invariant s.card_rows_most_in_bounds m }

pub loop-j-preserved : goal.loop-j-preserved
loop-j-preserved c =
    let t = c.args.f.now.based.now.ruled.declared.table.bytes.now in
    let i = c.args.i in
    let s = c.requires in
    rows_next t c.args.f.now.based.now.ruled.ruled i s.i_bound _ _ (card_row_most_lem t c.args.f.now.based.now.ruled.ruled i s.i_bound c.args.f.now.words.now c.args.position) _ _ _ _ c.loop-j.invariant s.card_rows_most_in_bounds _ _ (omega (arith, c.loop-j-test.true, c.parameter_at-e.ensures.count_is)) c.put_card_row-at.ensures

pub shape_of-out : goal.shape_of-out
shape_of-out c = c.loop-j.invariant.long

pub returns : goal.returns
unfolding card_rows
returns c = let p = (let t = c.args.f.now.based.now.ruled.declared.table.bytes.now in
    let i = c.args.i in
    let s = c.requires in
    rows_end t c.args.f.now.based.now.ruled.ruled i s.i_bound _ _ (card_row_most_lem t c.args.f.now.based.now.ruled.ruled i s.i_bound c.args.f.now.words.now c.args.position) _ _ _ _ c.loop-j.invariant s.card_rows_most_in_bounds (omega (arith, c.loop-j-test.false, c.parameter_at-e.ensures.count_is))) in record { value = p.0; prefix_len = p.1 }
