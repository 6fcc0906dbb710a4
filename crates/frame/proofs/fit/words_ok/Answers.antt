use mathlib.Core.Path.{sym, ◌∙◌}
use native.Mathlib.Omega.{arith}
use Rattle.lay.proofs.Passing.{passed_none, passed_more, failed, passed_all}
use Rattle.framing.proofs.Fitness.{all_fit}
use Rattle.frame.proofs.fit.words_ok.Goals as goal

pub loop-i-init : goal.loop-i-init
loop-i-init c = passed_none _ _ _ c.args.f.now.based.now.ruled.declared.table.opened_of.counts.subframes_is

pub subframe_fits-requires : goal.subframe_fits-requires
subframe_fits-requires c =
    record { i_bound = omega (arith, c.loop-i.invariant, c.loop-i-test.true) }

pub returns-then-not-subframe_fits : goal.returns-then-not-subframe_fits
returns-then-not-subframe_fits c =
    failed c.loop-i.invariant c.loop-i-test.true c.subframe_fits.ensures c.if-not-subframe_fits.true ∙ sym (all_fit c.args.f.now.based.now.ruled.declared.table.bytes.now c.args.f.now.words.now)

pub loop-i-preserved : goal.loop-i-preserved
loop-i-preserved c = passed_more c.loop-i.invariant c.loop-i-test.true c.subframe_fits.ensures c.if-not-subframe_fits.false

pub returns : goal.returns
returns c =
    passed_all c.loop-i.invariant c.loop-i-test.false ∙ sym (all_fit c.args.f.now.based.now.ruled.declared.table.bytes.now c.args.f.now.words.now)
