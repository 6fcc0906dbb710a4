use mathlib.Core.Path.{ap, ◌∙◌}
use mathlib.Core.List.{List, ◌∷◌}
use Prim.Native.Nat.{◌+◌}
use lib.ListN.{get_or, drop}
use Rattle.sample.specs.declared.component.Component.{Component}
use Rattle.sample.specs.Placing.{place}
use Rattle.sample.proofs.Walks.{nothing, left_next, left_none, Placing, placing_starts, placing_ends, placing_fits, placing_step}
use Rattle.sample.proofs.placing.place_all.Goals.{In-loop-c}
use Rattle.sample.proofs.placing.place_all.Goals as goal

pub loop-c-init : goal.loop-c-init
loop-c-init c = placing_starts _ _ _ (rw c.listed-c-items.ensures.value c.requires.fit)

-- what is left begins with the component that is read
next : (c : In-loop-c) → let xs = c.listed-c-items.result.now in let i = c.loop-c.c-index in Placing c.args.words.now xs c.args.value c.loop-c.words (get_or xs i nothing ∷ drop (i + 1) xs) c.loop-c.rest
next c =
    let xs = c.listed-c-items.result.now in
    left_next (λ (r : List Component). Placing c.args.words.now xs c.args.value c.loop-c.words r c.loop-c.rest) xs c.loop-c.c-index c.loop-c-test.true c.loop-c.invariant

pub place_one-requires : goal.place_one-requires
place_one-requires c = placing_fits _ _ _ _ _ (next (goal.at.place_one-requires c).In-loop-c)

pub bits_of-requires : goal.bits_of-requires
bits_of-requires c = (placing_fits _ _ _ _ _ (next (goal.at.bits_of-requires c).In-loop-c)).shaped

pub loop-c-preserved : goal.loop-c-preserved
loop-c-preserved c =
    placing_step _ _ _ _ _ (next (goal.at.loop-c-preserved c).In-loop-c) c.place_one.ensures c.bits_of.ensures.0 c.bits_above-rest.ensures

pub returns : goal.returns
returns c =
    let a = c.args in
    let xs = c.listed-c-items.result.now in
    let all = left_none (λ (r : List Component). Placing a.words.now xs a.value c.loop-c.words r c.loop-c.rest) xs c.loop-c.c-index c.loop-c-test.false c.loop-c.invariant in
    placing_ends a.words.now xs a.value all ∙ ap (λ (cs : List Component). place a.words.now cs a.value) c.listed-c-items.ensures.value
