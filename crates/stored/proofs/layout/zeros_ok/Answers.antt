use mathlib.Core.Path.{refl, sym, ◌∙◌}
use borrow.Author.Tests.{eq-eqb, ne_eqb}
use Rattle.lay.proofs.Passing.{passed_none, passed_more, failed, passed_all}
use Rattle.model.specs.Accepts.{zero_bytes_ok}
use Rattle.stored.proofs.layout.zeros_ok.Goals as goal

pub loop-k-init : goal.loop-k-init
loop-k-init c = passed_none _ _ _ c.args.t.now.opened_of.counts.components_is

pub returns-then-zero_byte-ne0 : goal.returns-then-zero_byte-ne0
unfolding zero_bytes_ok
returns-then-zero_byte-ne0 c =
    failed c.loop-k.invariant c.loop-k-test.true refl
    (ne_eqb _ 0 (λ e. c.if-zero_byte-ne0.true (c.zero_byte.ensures ∙ e)))

pub loop-k-preserved : goal.loop-k-preserved
loop-k-preserved c =
    passed_more c.loop-k.invariant c.loop-k-test.true refl
    (eq-eqb _ 0 (sym c.zero_byte.ensures ∙ c.if-zero_byte-ne0.false))

pub returns : goal.returns
unfolding zero_bytes_ok
returns c = passed_all c.loop-k.invariant c.loop-k-test.false
