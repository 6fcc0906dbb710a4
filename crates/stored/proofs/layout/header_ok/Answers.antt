-- Each test is one of the header's.
use mathlib.Core.Path.{sym, ap}
use native.Mathlib.Omega.{arith}
use Rattle.lay.proofs.Tests.{refuse}
use Rattle.model.specs.Limits.{Limits}
use Rattle.model.proofs.Laying.{header, header_made}
use Rattle.stored.proofs.Reading.{known_here, bounds_are}
use Rattle.stored.proofs.layout.header_ok.Goals as goal

pub bounds_of-most-requires : goal.bounds_of-most-requires
bounds_of-most-requires c = known_here c.args.b.now.formed c.args.b.now.form_is

pub returns-then-h-b : goal.returns-then-h-b
returns-then-h-b c = refuse _ (λ h. let r = header _ h in omega (arith, r, c.header_of-h.ensures, c.requires.counts_of, c.if-h-b.true))

pub returns-then-h-gt1 : goal.returns-then-h-gt1
returns-then-h-gt1 c = refuse _ (λ h. let r = header _ h in omega (arith, r, c.header_of-h.ensures, c.requires.counts_of, c.if-h-gt1.true))

pub returns-then-h-ne0 : goal.returns-then-h-ne0
returns-then-h-ne0 c = refuse _ (λ h. let r = header _ h in omega (arith, r, c.header_of-h.ensures, c.requires.counts_of, c.if-h-ne0.true))

pub returns-then-n-lt1 : goal.returns-then-n-lt1
returns-then-n-lt1 c = refuse _ (λ h. let r = header _ h in omega (arith, r, c.header_of-h.ensures, c.requires.counts_of, c.if-n-lt1.true))

pub returns-then-most-n : goal.returns-then-most-n
returns-then-most-n c = let m = ap (λ (l : Limits). l.subframes) (bounds_are _ c.args.b.now.form_is c.bounds_of-most.ensures) in refuse _ (λ h. let r = header _ h in omega (arith, r, m, c.header_of-h.ensures, c.requires.counts_of, c.if-most-n.true))

pub returns-then-most-n-2 : goal.returns-then-most-n-2
returns-then-most-n-2 c = let m = ap (λ (l : Limits). l.parameters) (bounds_are _ c.args.b.now.form_is c.bounds_of-most.ensures) in refuse _ (λ h. let r = header _ h in omega (arith, r, m, c.header_of-h.ensures, c.requires.counts_of, c.if-most-n-2.true))

pub returns-then-most-n-3 : goal.returns-then-most-n-3
returns-then-most-n-3 c = let m = ap (λ (l : Limits). l.samples) (bounds_are _ c.args.b.now.form_is c.bounds_of-most.ensures) in refuse _ (λ h. let r = header _ h in omega (arith, r, m, c.header_of-h.ensures, c.requires.counts_of, c.if-most-n-3.true))

pub returns-then-most-n-4 : goal.returns-then-most-n-4
returns-then-most-n-4 c = let m = ap (λ (l : Limits). l.components) (bounds_are _ c.args.b.now.form_is c.bounds_of-most.ensures) in refuse _ (λ h. let r = header _ h in omega (arith, r, m, c.header_of-h.ensures, c.requires.counts_of, c.if-most-n-4.true))

pub returns : goal.returns
returns c =
    let q = bounds_are _ c.args.b.now.form_is c.bounds_of-most.ensures in
    let e = c.header_of-h.ensures in
    let n = c.requires.counts_of in
    sym
    (header_made _
    (record {
      whole = omega (arith, e.total_is, c.if-h-b.false);
      flags = omega (arith, e.flags_is, c.if-h-gt1.false);
      zeros = omega (arith, e.zeros_is, c.if-h-ne0.false);
      some = omega (arith, n.subframes_is, c.if-n-lt1.false);
      few_subframes = omega (arith, n.subframes_is, ap (λ (l : Limits). l.subframes) q, c.if-most-n.false);
      few_parameters = omega (arith, n.parameters_is, ap (λ (l : Limits). l.parameters) q, c.if-most-n-2.false);
      few_samples = omega (arith, n.samples_is, ap (λ (l : Limits). l.samples) q, c.if-most-n-3.false);
      few_components = omega (arith, n.components_is, ap (λ (l : Limits). l.components) q, c.if-most-n-4.false);
    }))
