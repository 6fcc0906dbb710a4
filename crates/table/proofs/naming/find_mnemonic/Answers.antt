use mathlib.Core.Path.{◌≡◌, sym, ap, ◌∙◌}
use mathlib.Core.List.{List}
use Prim.Native.Nat.{ℕ, ◌<◌}
use native.Mathlib.Nat.{not-suc-le-zero}
use native.Mathlib.Omega.{arith}
use borrow.Author.Count.{below_more}
use Rattle.lay.specs.Bytes.{same}
use Rattle.lay.proofs.Below.{find_none, find_at}
use Rattle.model.specs.Stored.{parameters_in}
use Rattle.model.proofs.Laying.{parameter_here}
use Rattle.table.proofs.Asking.{called_at, found, mnemonic_first, mnemonic_none}
use Rattle.table.proofs.naming.find_mnemonic.Goals as goal

pub loop-i-init : goal.loop-i-init
loop-i-init c = record { counted = c.args.t.now.opened_of.counts.parameters_is; within = omega arith; none = λ k l. absurd (not-suc-le-zero l) }

pub mnemonic_in-requires : goal.mnemonic_in-requires
mnemonic_in-requires c =
    record { parameter_here = parameter_here c.args.t.now.bytes.now c.requires.entries _ (omega (arith, c.loop-i.invariant, c.loop-i-test.true)) }

pub returns-then-same_text : goal.returns-then-same_text
returns-then-same_text c =
    let b = c.args.t.now.bytes.now in
    let m = c.args.mnemonic.now in
    let v = c.loop-i.invariant in
    let i = c.loop-i.i in
    let q = ap (λ (x : List ℕ). same x m) c.mnemonic_in.ensures in
    let l : i < parameters_in b = omega (arith, v, c.loop-i-test.true) in
    mnemonic_first b m i l (found b m ∙ find_at (parameters_in b) (called_at b m) i l (sym q ∙ sym c.same_text.ensures ∙ c.if-same_text.true) v.none)

pub loop-i-preserved : goal.loop-i-preserved
loop-i-preserved c =
    let b = c.args.t.now.bytes.now in
    let m = c.args.mnemonic.now in
    let v = c.loop-i.invariant in
    let q = ap (λ (x : List ℕ). same x m) c.mnemonic_in.ensures in
    record {
      counted = v.counted;
      within = omega (arith, v, c.loop-i-test.true);
      none = below_more _ c.loop-i.i v.none (sym q ∙ sym c.same_text.ensures ∙ c.if-same_text.false);
    }

pub returns : goal.returns
returns c =
    let b = c.args.t.now.bytes.now in
    let m = c.args.mnemonic.now in
    let v = c.loop-i.invariant in
    let full : c.loop-i.i ≡ parameters_in b = omega (arith, v, c.loop-i-test.false) in
    mnemonic_none b m (found b m ∙ find_none (parameters_in b) (called_at b m) (λ k l. v.none k (omega (arith, full))))
