-- The word stands so far behind the words before its subframe.
use mathlib.Core.Path.{◌≡◌, ap, ap₂, ◌∙◌}
use Prim.Native.Nat.{ℕ, ◌+◌, ◌-◌}
use native.Mathlib.Omega.{arith}
use Rattle.sample.specs.Flat.{before, position}
use Rattle.model.specs.Samples.{word_counts, whole}
use Rattle.model.specs.Stored.{home_in}
use Rattle.model.specs.View.{component_at}
use Rattle.model.proofs.Views.{subframes_view}
use Rattle.rules.specs.Ruled.{subframes_of}
use Rattle.rules.proofs.Widths.{word_small}
use Rattle.rules.proofs.samples.whole_at.Goals as goal

pub overflow_sub-home : goal.overflow_sub-home
unfolding component_at
overflow_sub-home c =
    let b = c.args.d.now.table.bytes.now in
    omega (arith, c.component_at-c.ensures, c.requires.component_law, subframes_view b, c.args.d.now.table.opened_of.sized)

pub offset_bounds-before-home : goal.offset_bounds-before-home
unfolding component_at
offset_bounds-before-home c =
    let b = c.args.d.now.table.bytes.now in
    omega (arith, c.component_at-c.ensures, c.requires.component_law, subframes_view b, c.args.d.now.table.opened_of.sized)

pub bounds-before-home : goal.bounds-before-home
unfolding component_at
bounds-before-home c =
    let b = c.args.d.now.table.bytes.now in
    omega (arith, c.component_at-c.ensures, c.requires.component_law, subframes_view b, c.args.d.now.table.opened_of.sized)

pub overflow_cast-c : goal.overflow_cast-c
overflow_cast-c c = omega (arith, c.component_at-c.ensures.word_below)

pub position_of-word-requires : goal.position_of-word-requires
unfolding component_at
position_of-word-requires c =
    let b = c.args.d.now.table.bytes.now in
    let e = c.component_at-c.ensures in
    let w = c.requires.component_law in
    let v = subframes_view b in
    let h = c.requires.bases_of.small (c.component_at-c.result.subframe - 1) (omega (arith, e, w, v)) in
    (omega (arith, h), omega (arith, e, w), omega (arith, e, word_small b c.args.d.now.subframes_law _ w))

pub overflow_cast-result : goal.overflow_cast-result
overflow_cast-result c = omega (arith, c.component_at-c.ensures.low_below)

pub overflow_cast-result-2 : goal.overflow_cast-result-2
overflow_cast-result-2 c = omega (arith, c.component_at-c.ensures.high_below)

pub returns : goal.returns
unfolding whole component_at position
returns c =
    let b = c.args.d.now.table.bytes.now in
    let k = c.args.k in
    let e = c.component_at-c.ensures in
    let w = c.requires.component_law in
    let v = subframes_view b in
    let home = c.component_at-c.result.subframe - 1 in
    let h = c.requires.bases_of.each home (omega (arith, e, w, v)) in
    let q : home + 1 ≡ home_in b k = omega (arith, e, w) in
    let word = c.position_of-word.ensures ∙ ap₂ (λ (x y : ℕ). x + (y - 1)) (h ∙ ap (λ (x : ℕ). before (word_counts (subframes_of b)) x) q) e.word_is in
    let low = e.low_is in
    let high = e.high_is in
    λ z. record { word = word z; low = low z; high = high z }
