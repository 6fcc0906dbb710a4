use mathlib.Core.Path.{sym, ◌∙◌}
use Rattle.lay.proofs.Passing.{failed}
use Rattle.carding.proofs.Agreeing.{agrees_all}
use Rattle.card.proofs.agree.agrees.Goals as goal

pub returns-then-not-reads_at : goal.returns-then-not-reads_at
returns-then-not-reads_at c =
    failed c.loop-i.invariant c.loop-i-test.true c.reads_at.ensures c.if-not-reads_at.true
    ∙ sym (agrees_all c.args.s.now.ruled.declared.table.bytes.now c.args.stream.now c.args.p c.args.s.now.ruled.ruled)
