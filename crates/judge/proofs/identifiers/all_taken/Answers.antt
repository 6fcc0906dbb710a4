use mathlib.Core.Path.{refl, ◌∙◌}
use borrow.Author.Rules.{rules}
use borrow.Author.Tests.{tests}
use Prim.Native.Nat.{◌+◌}
use native.Mathlib.Omega.{arith}
use Rattle.std.proofs.lemmas.Iterator.{YieldsList-from_range}
use Rattle.std.proofs.lemmas.Iterator.Search.{all_from_yields_List}
use Rattle.judge.specs.Sixteen.{taken_in}
use Rattle.judge.proofs.Lists.{all_range}
use Rattle.judge.proofs.identifiers.all_taken.Goals as goal

pub returns : goal.returns
returns c =
    let a = c.args in
    all_from_yields_List (λ s. taken_in a.kept.now (s + 1)) _ _ _ c.all.ensures.ran (YieldsList-from_range 0 a.subframes a.subframes refl (omega arith)) (λ x b q k. search (rules, tests))
    ∙ all_range a.subframes (λ s. taken_in a.kept.now (s + 1))
