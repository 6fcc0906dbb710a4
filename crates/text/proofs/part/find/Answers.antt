use native.Mathlib.Omega.{arith}
use mathlib.Core.Path.{◌≡◌, ◌∙◌}
use lib.Dec.{eqb}
use Rattle.std.specs.List.{position}
use Rattle.text.specs.Parts.{index_of}
use borrow.Author.Tests.{tests}
use borrow.Author.Rules.{rules}
use Rattle.std.proofs.lemmas.Iterator.{YieldsList-from_slice}
use Rattle.std.proofs.lemmas.Iterator.Search.{position_from_yields_List}
use Rattle.text.proofs.Finds.{found_is, index_le}
use Rattle.text.proofs.part.find.Goals as goal

pub returns : goal.returns
returns c =
    let e : c.position.result ≡ position (λ x. eqb x c.args.b) c.args.s.now = position_from_yields_List (λ x. eqb x c.args.b) _ _ _ c.position.ensures.ran (YieldsList-from_slice c.args.s.now cc) (λ x b q k. search (rules, tests)) in
    let i : c.unwrap_or.result ≡ index_of c.args.b c.args.s.now = c.unwrap_or.ensures ∙ found_is _ _ _ e in
    (i, omega (arith, index_le c.args.b c.args.s.now))
