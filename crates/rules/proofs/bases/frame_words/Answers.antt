-- A lawful table has a last subframe; its base and its words are all there are.
use mathlib.Core.Path.{◌≡◌, sym, ap₂, ◌∙◌}
use Prim.Native.Nat.{suc, ◌+◌, ◌-◌}
use native.Mathlib.Omega.{arith}
use Rattle.model.specs.Stored.{subframes_in}
use Rattle.rules.proofs.Homes.{words_all}
use Rattle.rules.proofs.bases.frame_words.Goals as goal

pub overflow_sub-last : goal.overflow_sub-last
overflow_sub-last c = omega (arith, c.args.b.now.ruled.declared.table.opened_of.counts.subframes_is, c.args.b.now.ruled.ruled.laid.head.header.some)

pub subframe_at-f-requires : goal.subframe_at-f-requires
subframe_at-f-requires c =
    record { i_bound = omega (arith, c.args.b.now.ruled.declared.table.opened_of.counts.subframes_is, c.args.b.now.ruled.ruled.laid.head.header.some) }

pub offset_bounds-b-last : goal.offset_bounds-b-last
offset_bounds-b-last c = omega (arith, c.args.b.now.ruled.declared.table.opened_of.counts.subframes_is, c.args.b.now.ruled.declared.table.opened_of.sized.few_subframes)

pub bounds-b-last : goal.bounds-b-last
bounds-b-last c =
    omega (arith, c.args.b.now.ruled.declared.table.opened_of.counts.subframes_is, c.args.b.now.ruled.declared.table.opened_of.sized.few_subframes, c.args.b.now.ruled.ruled.laid.head.header.some)

pub overflow_add-result : goal.overflow_add-result
overflow_add-result c =
    let n = c.args.b.now.ruled.declared.table.opened_of.counts.subframes_is in
    let o = c.args.b.now.ruled.ruled.laid.head.header.some in
    let h = c.args.b.now.bases_of.small (c.args.b.now.ruled.declared.table.opened.counts.subframes - 1) (omega (arith, n, o)) in
    omega (arith, h, c.subframe_at-f.ensures.words_below)

pub returns : goal.returns
returns c =
    let b = c.args.b.now.ruled.declared.table.bytes.now in
    let n = c.args.b.now.ruled.declared.table.opened_of.counts.subframes_is in
    let o = c.args.b.now.ruled.ruled.laid.head.header.some in
    let i = c.args.b.now.ruled.declared.table.opened.counts.subframes - 1 in
    let l : suc i ≡ subframes_in b = omega (arith, n, o) in
    ap₂ ◌+◌ (c.args.b.now.bases_of.each i (omega (arith, l))) c.subframe_at-f.ensures.words_is ∙ sym (words_all b i l)
