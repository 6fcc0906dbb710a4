-- Each test is one of the seconds'.
use mathlib.Core.Path.{sym, ◌∙◌}
use native.Mathlib.Nat.{mul_comm, mul-le-mul_left}
use native.Mathlib.Omega.{arith}
use borrow.Author.Tests.{eq-eqb, eqb-true}
use Rattle.lay.proofs.Tests.{refuse}
use Rattle.ratio.specs.Ratio.{lowest}
use Rattle.stored.specs.Shapes.{limits_by}
use Rattle.model.proofs.Meanings.{seconds_law, seconds_made}
use Rattle.rules.proofs.entries.seconds_ok.Goals as goal

pub returns-then-numerator-lt1 : goal.returns-then-numerator-lt1
returns-then-numerator-lt1 c = refuse _ (λ h. let r = seconds_law (limits_by _) _ _ h in omega (arith, r, c.if-numerator-lt1.true))

pub returns-then-denominator-lt1 : goal.returns-then-denominator-lt1
returns-then-denominator-lt1 c = refuse _ (λ h. let r = seconds_law (limits_by _) _ _ h in omega (arith, r, c.if-denominator-lt1.true))

pub returns-then-most-denominator : goal.returns-then-most-denominator
returns-then-most-denominator c = refuse _ (λ h. let r = seconds_law (limits_by _) _ _ h in omega (arith, r, c.if-most-denominator.true))

pub overflow_mul-most : goal.overflow_mul-most
overflow_mul-most c =
    let m = mul-le-mul_left c.args.denominator c.requires.seconds_le_seconds in
    let n = mul_comm c.args.denominator c.args.most.seconds in
    omega (arith, m, n, c.requires.denominator_bound)

pub returns-then-most-denominator-2 : goal.returns-then-most-denominator-2
returns-then-most-denominator-2 c = refuse _ (λ h. let r = seconds_law (limits_by _) _ _ h in omega (arith, r, c.if-most-denominator-2.true))

pub returns-then-common_divisor-ne1 : goal.returns-then-common_divisor-ne1
unfolding lowest
returns-then-common_divisor-ne1 c = refuse _ (λ h. c.if-common_divisor-ne1.true (c.common_divisor.ensures ∙ eqb-true _ _ (seconds_law (limits_by _) _ _ h).terms))

pub returns : goal.returns
unfolding lowest
returns c =
    sym
    (seconds_made (limits_by _) _ _
    (record {
      some = c.if-numerator-lt1.false;
      some_below = c.if-denominator-lt1.false;
      small = c.if-most-denominator.false;
      less = omega (arith, c.if-most-denominator-2.false);
      terms = eq-eqb _ _ (sym c.common_divisor.ensures ∙ c.if-common_divisor-ne1.false);
    }))
