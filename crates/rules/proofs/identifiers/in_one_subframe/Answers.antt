use mathlib.Core.Path.{◌≡◌, refl, sym}
use native.Mathlib.Omega.{arith}
use borrow.Author.Tests.{eq-eqb, eqb-true}
use lib.ListN.{length}
use Rattle.lay.proofs.Tests.{refuse}
use Rattle.lay.proofs.Below.{all_more, all_below}
use Rattle.model.specs.Content.{sample, component}
use Rattle.model.specs.Identifiers.{lies}
use Rattle.model.specs.View.{parameter_at}
use Rattle.rules.specs.Ruled.{in_one_subframe}
use Rattle.rules.proofs.Identifying.{first, first_home}
use Rattle.rules.proofs.identifiers.in_one_subframe.Invariants.{at_home}
use Rattle.rules.proofs.identifiers.in_one_subframe.Goals as goal

pub loop-k-init : goal.loop-k-init
loop-k-init c = record { within = omega arith; done = refl }

pub component_at-c-requires : goal.component_at-c-requires
component_at-c-requires c =
    let r = c.requires in
    let f = first _ _ c.args.r.now.ruled c.requires.i_bound in
    record { k_bound = omega arith }

pub returns-then-c-home : goal.returns-then-c-home
unfolding in_one_subframe
returns-then-c-home c =
    let b = c.args.r.now.declared.table.bytes.now in
    let i = c.args.i in
    let k = c.loop-k.k in
    let f = first b i c.args.r.now.ruled c.requires.i_bound in
    let n = f.count in
    let e = first_home b i f k _ _ (omega arith) c.first_sample-s.ensures c.component_at-c.ensures in
    refuse _
    (λ h.
    let x : (component (sample (parameter_at b i) 0) k).subframe ≡ lies (parameter_at b i) =
    eqb-true _ _ (all_below (length (sample (parameter_at b i) 0).components) (at_home b i) h k (omega arith)) in
    omega arith)

pub loop-k-preserved : goal.loop-k-preserved
loop-k-preserved c =
    let b = c.args.r.now.declared.table.bytes.now in
    let i = c.args.i in
    let k = c.loop-k.k in
    let f = first b i c.args.r.now.ruled c.requires.i_bound in
    let e = first_home b i f k _ _ (omega arith) c.first_sample-s.ensures c.component_at-c.ensures in
    let x : (component (sample (parameter_at b i) 0) k).subframe ≡ lies (parameter_at b i) = omega arith in
    record { within = omega arith; done = all_more k (at_home b i) c.loop-k.invariant.done (eq-eqb _ _ x) }

pub returns : goal.returns
unfolding in_one_subframe
returns c =
    let b = c.args.r.now.declared.table.bytes.now in
    let i = c.args.i in
    let f = first b i c.args.r.now.ruled c.requires.i_bound in
    let n = f.count in
    let full : c.loop-k.k ≡ length (sample (parameter_at b i) 0).components = omega arith in
    sym (rw full at c.loop-k.invariant.done)
