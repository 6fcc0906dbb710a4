use mathlib.Core.Path.{◌≡◌}
use mathlib.Core.Bool.{true, false}
use borrow.Author.Rules.{rules}
use borrow.Author.Tests.{tests}
use lib.ListN.{length}
use Rattle.std.proofs.lemmas.Iterator.{first_from_Range}
use Rattle.judge.specs.Sixteen.{bad_in, first_bad_in}
use Rattle.judge.proofs.Lists.{first_is}
use Rattle.judge.proofs.identifiers.first_bad.Goals as goal

pub returns : goal.returns
unfolding first_bad_in
returns c =
    let ks = c.args.kept.now in
    first_is (length ks) (bad_in ks) c.find.result
    (first_from_Range _ _ _ _ (λ i. bad_in ks i ≡ true) (λ i. bad_in ks i ≡ false) c.find.ensures.ran (λ x q k. search (rules, tests)) (λ x q k. search (rules, tests)))
