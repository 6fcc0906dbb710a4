use mathlib.Core.Path.{◌≡◌, sym, ap, ◌∙◌}
use Prim.Native.Nat.{◌+◌}
use native.Mathlib.Omega.{arith}
use Rattle.std.proofs.Common.{rules, tests}
use lib.ListN.{length, get_or, drop}
use Rattle.std.proofs.lemmas.Iterator.{YieldsList-from_slice}
use Rattle.std.proofs.lemmas.Iterator.Search.{any_from_yields_List}
use Rattle.std.proofs.lemmas.List.{at_drop_all}
use Rattle.std.proofs.lemmas.Slice.{between_to_end}
use Rattle.sample.specs.Clash.{clash, clash_any, twice}
use Rattle.sample.proofs.Walks.{nothing, any_clash, twice_from, twice_none}
use Rattle.sample.proofs.clash.names_twice.Goals.{After-any}
use Rattle.sample.proofs.clash.names_twice.Goals as goal

-- the component is held against all after it
held : (c : After-any) → let xs = c.listed-list.result.now in let i = c.loop-i.i in c.any.result ≡ clash_any (get_or xs i nothing) (drop (i + 1) xs)
held c =
    let xs = c.listed-list.result.now in
    let i = c.loop-i.i in
    let rest = c.iter.ensures.rest ∙ between_to_end xs (i + 1) (length xs) (omega arith) in
    any_from_yields_List (clash (get_or xs i nothing)) _ _ _ c.any.ensures.ran (YieldsList-from_slice (drop (i + 1) xs) rest) (λ x b q k. search (rules, tests))
    ∙ any_clash (get_or xs i nothing) (drop (i + 1) xs)

pub loop-i-preserved : goal.loop-i-preserved
loop-i-preserved c =
    let xs = c.listed-list.result.now in
    rw c.if-any.false at (twice_from xs c.loop-i.i c.loop-i-test.true (held (goal.at.loop-i-preserved c).After-any) c.loop-i.invariant)

pub returns-then-any : goal.returns-then-any
returns-then-any c =
    let xs = c.listed-list.result.now in
    rw c.if-any.true at (twice_from xs c.loop-i.i c.loop-i-test.true (held (goal.at.returns-then-any c).After-any) c.loop-i.invariant)
    ∙ ap twice c.listed-list.ensures.value

pub returns : goal.returns
returns c =
    let xs = c.listed-list.result.now in
    sym twice_none ∙ (sym (at_drop_all twice xs c.loop-i.i c.loop-i-test.false) ∙ (c.loop-i.invariant ∙ ap twice c.listed-list.ensures.value))
