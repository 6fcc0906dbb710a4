use Prim.Native.Nat.{◌<◌}
use native.Mathlib.Omega.{arith}
use Rattle.model.specs.Stored.{sample_count_in}
use Rattle.listed.specs.Listing.{parameter_rows}
use Rattle.listed.proofs.RowLaws.{row_most_lem, rows_start, rows_room, rows_next, rows_end}
use Rattle.listed.proofs.listing.put_parameter.Goals as goal

pub loop-j-init : goal.loop-j-init
loop-j-init c =
    rows_start c.args.f.now.based.now.ruled.declared.table.bytes.now c.args.f.now.based.now.ruled.ruled c.args.i c.requires.i_bound _ _ _

pub put_sample-at-requires : goal.put_sample-at-requires
put_sample-at-requires c =
    let t = c.args.f.now.based.now.ruled.declared.table.bytes.now in
    let i = c.args.i in
    let s = c.requires in
    let m : c.loop-j.j < sample_count_in t i = omega (arith, c.loop-j-test.true, c.parameter_at-e.ensures.count_is) in
    record { i_bound = s.i_bound; j_bound = m; row_most_in_bounds = rows_room t c.args.f.now.based.now.ruled.ruled i s.i_bound _ _ (row_most_lem t c.args.f.now.based.now.ruled.ruled i s.i_bound c.args.f.now.words.now) _ _ _ _ c.loop-j.invariant s.rows_most_in_bounds m }

pub loop-j-preserved : goal.loop-j-preserved
loop-j-preserved c =
    let t = c.args.f.now.based.now.ruled.declared.table.bytes.now in
    let i = c.args.i in
    let s = c.requires in
    rows_next t c.args.f.now.based.now.ruled.ruled i s.i_bound _ _ (row_most_lem t c.args.f.now.based.now.ruled.ruled i s.i_bound c.args.f.now.words.now) _ _ _ _ c.loop-j.invariant s.rows_most_in_bounds _ _ (omega (arith, c.loop-j-test.true, c.parameter_at-e.ensures.count_is)) c.put_sample-at.ensures

pub shape_of-out : goal.shape_of-out
shape_of-out c = c.loop-j.invariant.long

pub returns : goal.returns
unfolding parameter_rows
returns c = let p = (let t = c.args.f.now.based.now.ruled.declared.table.bytes.now in
    let i = c.args.i in
    let s = c.requires in
    rows_end t c.args.f.now.based.now.ruled.ruled i s.i_bound _ _ (row_most_lem t c.args.f.now.based.now.ruled.ruled i s.i_bound c.args.f.now.words.now) _ _ _ _ c.loop-j.invariant s.rows_most_in_bounds (omega (arith, c.loop-j-test.false, c.parameter_at-e.ensures.count_is))) in record { value = p.0; prefix_len = p.1 }
