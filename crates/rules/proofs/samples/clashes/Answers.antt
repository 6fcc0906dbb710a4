-- Two components meet where their subframes, their words and their ranges of bits do.
use mathlib.Core.Path.{sym, ◌∙◌}
use native.Mathlib.Omega.{arith}
use borrow.Author.Tests.{leb-true, le-leb}
use Rattle.lay.proofs.Tests.{refuse, same_tests}
use Rattle.model.specs.View.{component_at}
use Rattle.rules.proofs.Clashes.{clash_law, clash_made}
use Rattle.rules.proofs.samples.clashes.Goals as goal

pub component_at-c-requires : goal.component_at-c-requires
component_at-c-requires c = record { k_bound = c.requires.k_bound }

pub component_at-d-requires : goal.component_at-d-requires
component_at-d-requires c = record { k_bound = c.requires.i_bound }

pub returns-then-c-d : goal.returns-then-c-d
unfolding component_at
returns-then-c-d c = refuse _ (λ h. let m = clash_law _ _ _ c.requires.component_law c.requires.component_law_2 h in c.if-c-d.true (c.component_at-c.ensures.subframe_is ∙ m.subframe ∙ sym c.component_at-d.ensures.subframe_is))

pub returns-then-c-d-2 : goal.returns-then-c-d-2
unfolding component_at
returns-then-c-d-2 c = refuse _ (λ h. let m = clash_law _ _ _ c.requires.component_law c.requires.component_law_2 h in c.if-c-d-2.true (c.component_at-c.ensures.word_is ∙ m.word ∙ sym c.component_at-d.ensures.word_is))

pub returns-then-d-c : goal.returns-then-d-c
unfolding component_at
returns-then-d-c c = refuse _ (λ h. let m = (clash_law _ _ _ c.requires.component_law c.requires.component_law_2 h).below in omega (arith, m, c.component_at-c.ensures.low_is, c.component_at-d.ensures.high_is, c.if-d-c.true))

pub returns : goal.returns
unfolding component_at
returns c =
    let d = c.component_at-c.ensures in
    let e = c.component_at-d.ensures in
    same_tests _ _
    (λ h.
    let a = leb-true c.component_at-d.result.low c.component_at-c.result.high h in
    clash_made _ _ _ c.requires.component_law c.requires.component_law_2
    (record {
      subframe = sym d.subframe_is ∙ c.if-c-d.false ∙ e.subframe_is;
      word = sym d.word_is ∙ c.if-c-d-2.false ∙ e.word_is;
      below = omega (arith, d.low_is, e.high_is, c.if-d-c.false);
      above = omega (arith, d.high_is, e.low_is, a);
    }))
    (λ h.
    let m = (clash_law _ _ _ c.requires.component_law c.requires.component_law_2 h).above in
    le-leb c.component_at-d.result.low c.component_at-c.result.high (omega (arith, m, d.high_is, e.low_is)))
