-- Its overlap is held against the next component's bits, if there is one, and against the form's most.
use mathlib.Core.Path.{sym, ap}
use native.Mathlib.Omega.{arith}
use borrow.Author.Tests.{leb-true, le-leb}
use Rattle.lay.proofs.Tests.{refuse, same_tests}
use Rattle.model.specs.Limits.{Limits}
use Rattle.model.proofs.Meanings.{overlap_law, overlap_made}
use Rattle.stored.proofs.Reading.{known_here, bounds_are}
use Rattle.rules.proofs.Overlaps.{overlap_read, next_read, next_none}
use Rattle.rules.proofs.samples.overlap_ok.Goals as goal

pub returns-then-c-eq0 : goal.returns-then-c-eq0
returns-then-c-eq0 c =
    let x = overlap_read c.args.t.now.bytes.now c.args.j c.args.k _ c.sample_at-s.ensures.first_is c.requires.k_bound c.component_at-c.ensures in
    sym (overlap_made _ _ _ (record { next = omega (arith, x, c.if-c-eq0.true); few = omega (arith, x, c.if-c-eq0.true) }))

pub returns-then-s-k : goal.returns-then-s-k
returns-then-s-k c =
    let x = overlap_read c.args.t.now.bytes.now c.args.j c.args.k _ c.sample_at-s.ensures.first_is c.requires.k_bound c.component_at-c.ensures in
    let n = next_none c.args.t.now.bytes.now c.args.j c.args.k _ c.sample_at-s.ensures.first_is (omega (arith, c.sample_at-s.ensures.count_is, c.if-s-k.true)) in
    refuse _ (λ h. c.if-c-eq0.false (omega (arith, (overlap_law _ _ _ h).next, x, n)))

pub returns-then-d-c : goal.returns-then-d-c
returns-then-d-c c =
    let x = overlap_read c.args.t.now.bytes.now c.args.j c.args.k _ c.sample_at-s.ensures.first_is c.requires.k_bound c.component_at-c.ensures in
    let n = next_read c.args.t.now.bytes.now c.args.j c.args.k _ c.sample_at-s.ensures.first_is (omega (arith, c.sample_at-s.ensures.count_is, c.if-s-k.false)) c.component_at-d.ensures in
    refuse _ (λ h. c.if-c-eq0.false (omega (arith, (overlap_law _ _ _ h).next, x, n, c.if-d-c.true)))

pub bounds_of-most-requires : goal.bounds_of-most-requires
bounds_of-most-requires c = let z = c.args.t.now.opened_of in known_here z.sized.formed z.form_is

pub returns : goal.returns
returns c =
    let x = overlap_read c.args.t.now.bytes.now c.args.j c.args.k _ c.sample_at-s.ensures.first_is c.requires.k_bound c.component_at-c.ensures in
    let n = next_read c.args.t.now.bytes.now c.args.j c.args.k _ c.sample_at-s.ensures.first_is (omega (arith, c.sample_at-s.ensures.count_is, c.if-s-k.false)) c.component_at-d.ensures in
    let m = ap (λ (l : Limits). l.overlap) (bounds_are _ c.args.t.now.opened_of.form_is c.bounds_of-most.ensures) in
    same_tests _ _
    (λ h. overlap_made _ _ _ (record { next = omega (arith, x, n, c.if-d-c.false); few = omega (arith, x, m, leb-true c.component_at-c.result.overlap c.bounds_of-most.result.overlap h) }))
    (λ h. le-leb c.component_at-c.result.overlap c.bounds_of-most.result.overlap (omega (arith, x, m, (overlap_law _ _ _ h).few)))
