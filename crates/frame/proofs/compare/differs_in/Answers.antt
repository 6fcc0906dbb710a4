use mathlib.Core.Path.{sym, ◌∙◌}
use native.Mathlib.Nat.{not-suc-le-zero}
use native.Mathlib.Omega.{arith}
use borrow.Author.Count.{below_more}
use Rattle.framing.proofs.CompareCases.{some_differs, none_differs}
use Rattle.frame.proofs.compare.differs_in.Goals as goal

pub loop-i-init : goal.loop-i-init
loop-i-init c = record { counted = c.args.f.now.based.now.ruled.declared.table.opened_of.counts.parameters_is; within = omega arith; none = λ k l. absurd (not-suc-le-zero l) }

pub differs_at-requires : goal.differs_at-requires
differs_at-requires c =
    record { i_bound = omega (arith, c.loop-i.invariant, c.loop-i-test.true) }

pub returns-then-differs_at : goal.returns-then-differs_at
returns-then-differs_at c =
    let t = c.args.f.now.based.now.ruled.declared.table.bytes.now in
    let f = c.args.f.now.words.now in
    sym (some_differs t f c.args.s _ (omega (arith, c.loop-i.invariant, c.loop-i-test.true)) (sym c.differs_at.ensures ∙ c.if-differs_at.true))

pub loop-i-preserved : goal.loop-i-preserved
loop-i-preserved c =
    let v = c.loop-i.invariant in
    record {
      counted = v.counted;
      within = omega (arith, v, c.loop-i-test.true);
      none = below_more _ _ v.none (sym c.differs_at.ensures ∙ c.if-differs_at.false);
    }

pub returns : goal.returns
returns c =
    let t = c.args.f.now.based.now.ruled.declared.table.bytes.now in
    let f = c.args.f.now.words.now in
    let v = c.loop-i.invariant in
    sym (none_differs t f c.args.s (λ i l. v.none i (omega (arith, v, l, c.loop-i-test.false))))
