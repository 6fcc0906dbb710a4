use mathlib.Core.Path.{ap, ◌∙◌}
use mathlib.Core.List.{List, ◌∷◌}
use Prim.Native.Nat.{◌+◌}
use native.Mathlib.Omega.{arith}
use lib.ListN.{get_or, drop}
use Rattle.sample.specs.Joining.{width}
use Rattle.sample.specs.declared.component.Component.{Component}
use Rattle.sample.proofs.Walks.{nothing, left_next, left_none, Measuring, measuring_starts, measuring_ends, measuring_shaped, measuring_step}
use Rattle.sample.proofs.component.width_of.Goals.{In-loop-c}
use Rattle.sample.proofs.component.width_of.Goals as goal

pub loop-c-init : goal.loop-c-init
loop-c-init c = (omega arith, measuring_starts _ (rw c.listed-c-items.ensures.value c.requires.shaped))

-- what is left begins with the component that is read
next : (c : In-loop-c) → let xs = c.listed-c-items.result.now in let i = c.loop-c.c-index in Measuring xs (get_or xs i nothing ∷ drop (i + 1) xs) c.loop-c.width
next c =
    let xs = c.listed-c-items.result.now in
    left_next (λ (r : List Component). Measuring xs r c.loop-c.width) xs c.loop-c.c-index c.loop-c-test.true c.loop-c.invariant.1

pub bits_of-width-requires : goal.bits_of-width-requires
bits_of-width-requires c = measuring_shaped _ _ _ (next (goal.at.bits_of-width-requires c).In-loop-c)

pub loop-c-preserved : goal.loop-c-preserved
loop-c-preserved c =
    (omega (arith, c.bits_of-width.ensures.1), measuring_step _ _ _ (next (goal.at.loop-c-preserved c).In-loop-c) c.bits_of-width.ensures.0)

pub returns : goal.returns
returns c =
    let xs = c.listed-c-items.result.now in
    let all = left_none (λ (r : List Component). Measuring xs r c.loop-c.width) xs c.loop-c.c-index c.loop-c-test.false c.loop-c.invariant.1 in
    (measuring_ends xs all ∙ ap width c.listed-c-items.ensures.value, omega arith)
