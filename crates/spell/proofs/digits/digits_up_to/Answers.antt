use mathlib.Core.Path.{sym, ◌∙◌}
use native.Mathlib.Omega.{arith}
use borrow.Author.Tests.{tests}
use borrow.Author.Rules.{rules}
use Rattle.std.proofs.lemmas.Bool.Decides.{nat_tests}
use Rattle.std.proofs.lemmas.Iterator.{YieldsList-from_slice}
use Rattle.std.proofs.lemmas.Iterator.Search.{all_from_yields_List}
use Rattle.spell.specs.Digits.{is_digit}
use Rattle.spell.proofs.DigitLaws.{up_all, all_is}
use Rattle.spell.proofs.digits.digits_up_to.Goals as goal

pub returns-then-s-n : goal.returns-then-s-n
returns-then-s-n c =
    all_from_yields_List (is_digit c.args.base) _ _ _ c.all.ensures.ran (YieldsList-from_slice c.args.s.now cc) (λ x b q k. search (rules, tests))
    ∙ sym (up_all c.args.base c.args.n c.args.s.now (grind (arith, nat_tests)) c.if-s-n.true.1 ∙ all_is _ _)
