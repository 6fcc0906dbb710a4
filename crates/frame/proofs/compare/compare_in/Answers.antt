use mathlib.Core.Path.{sym, ◌∙◌}
use native.Mathlib.Nat.{not-suc-le-zero}
use native.Mathlib.Omega.{arith}
use borrow.Author.Count.{below_more}
use Rattle.framing.proofs.CompareCases.{first_differs, all_agree}
use Rattle.frame.proofs.compare.compare_in.Goals as goal

pub loop-s-init : goal.loop-s-init
loop-s-init c = record { counted = c.args.f.now.based.now.ruled.declared.table.opened_of.counts.subframes_is; within = omega arith; none = λ k l. absurd (not-suc-le-zero l) }

pub returns-then-differs_in : goal.returns-then-differs_in
returns-then-differs_in c =
    let t = c.args.f.now.based.now.ruled.declared.table.bytes.now in
    let f = c.args.f.now.words.now in
    let v = c.loop-s.invariant in
    sym (first_differs t f _ (omega (arith, v, c.loop-s-test.true)) (sym c.differs_in.ensures ∙ c.if-differs_in.true) v.none)

pub loop-s-preserved : goal.loop-s-preserved
loop-s-preserved c =
    let v = c.loop-s.invariant in
    record {
      counted = v.counted;
      within = omega (arith, v, c.loop-s-test.true);
      none = below_more _ _ v.none (sym c.differs_in.ensures ∙ c.if-differs_in.false);
    }

pub returns : goal.returns
returns c =
    let t = c.args.f.now.based.now.ruled.declared.table.bytes.now in
    let f = c.args.f.now.words.now in
    let v = c.loop-s.invariant in
    sym (all_agree t f (λ k l. v.none k (omega (arith, v, l, c.loop-s-test.false))))
