-- The mnemonic follows the name at once.
use Prim.Native.Nat.{◌+◌}
use native.Mathlib.Omega.{arith}
use Rattle.rules.proofs.TextLaws.{mnemonic_cut}
use Rattle.rules.proofs.texts.mnemonic_in.Goals as goal

pub overflow_add-from : goal.overflow_add-from
overflow_add-from c = omega (arith, c.args.t.now.opened_of.starts, c.requires.parameter_here, c.parameter_at-e.ensures)

pub overflow_add-from-2 : goal.overflow_add-from-2
overflow_add-from-2 c = omega (arith, c.args.t.now.opened_of.starts, c.requires.parameter_here, c.parameter_at-e.ensures)

pub overflow_add-to : goal.overflow_add-to
overflow_add-to c = omega (arith, c.args.t.now.opened_of.starts, c.requires.parameter_here, c.parameter_at-e.ensures)

pub slice_bounds-result-count : goal.slice_bounds-result-count
slice_bounds-result-count c = omega (arith, c.args.t.now.opened_of.starts, c.requires.parameter_here, c.parameter_at-e.ensures)

pub slice_bounds-result-start : goal.slice_bounds-result-start
slice_bounds-result-start c = omega (arith, c.args.t.now.opened_of.starts, c.requires.parameter_here, c.parameter_at-e.ensures)

pub slice_bounds-result-end : goal.slice_bounds-result-end
slice_bounds-result-end c = omega (arith, c.args.t.now.opened_of.starts, c.requires.parameter_here, c.parameter_at-e.ensures)

pub returns : goal.returns
returns c =
    let a = c.args in
    let e = c.parameter_at-e.result in
    mnemonic_cut a.t.now.bytes.now a.i (a.t.now.opened.starts.text + e.start + e.name) e.mnemonic (omega (arith, c.args.t.now.opened_of.starts.text_is, c.parameter_at-e.ensures)) (omega (arith, c.parameter_at-e.ensures))
