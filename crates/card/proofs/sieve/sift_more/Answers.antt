use mathlib.Core.Path.{refl, sym, ap, ◌∙◌}
use native.Mathlib.Omega.{arith}
use Rattle.model.specs.Samples.{holds}
use Rattle.model.specs.Stored.{first_sample_in, first_component_in, component_count_in}
use Rattle.model.specs.View.{sample_at, view}
use Rattle.stored.proofs.Flagged.{identifier_flag}
use Rattle.rules.specs.Ruled.{subframes_of}
use Rattle.carding.specs.Layout.{frame_at}
use Rattle.card.proofs.Runs.{first_sample, along_none, law_here, next_narrow}
use Rattle.card.proofs.Sieves.{sifting_more, value_held}
use Rattle.card.proofs.sieve.sift_more.Goals as goal

pub sample_at-m-requires : goal.sample_at-m-requires
sample_at-m-requires c =
    record { j_bound = (first_sample c.args.s.now.ruled.ruled c.requires.i_bound c.parameter_at-e.ensures.first_is).here.here }

pub loop-k-init : goal.loop-k-init
loop-k-init c =
    let b = c.args.s.now.ruled.declared.table.bytes.now in
    let i = c.args.i in
    let r = c.args.s.now.ruled.ruled in
    let l = c.requires.i_bound in
    let e = c.parameter_at-e.ensures in
    let is = c.sample_at-m.ensures in
    let flag = sym (identifier_flag b i e.flags_is c.has_identifier.ensures) ∙ c.if-not-has_identifier.false in
    record {
      along = along_none (is.first_is ∙ ap (first_component_in b) e.first_is) (is.count_is ∙ ap (component_count_in b) e.first_is) r (first_sample r l refl).law;
      sieve = c.requires.sieve_of;
      held = λ y p h. ap (holds (subframes_of b) (frame_at (view b) y p) (sample_at b (first_sample_in b i))) e.value_is ∙ value_held b i r l flag y p h;
    }

pub run_at-c-requires-clause-k_bound : goal.run_at-c-requires-clause-k_bound
run_at-c-requires-clause-k_bound c =
    let v = c.loop-k.invariant.along in
    let s = first_sample c.args.s.now.ruled.ruled c.requires.i_bound refl in
    omega (arith, v.firsts, v.counted, c.loop-k-test.true, s.here)

pub run_at-c-requires-clause-component_law : goal.run_at-c-requires-clause-component_law
run_at-c-requires-clause-component_law c = law_here c.loop-k.invariant.along c.loop-k-test.true

pub overflow_add-at : goal.overflow_add-at
overflow_add-at c = omega (arith, next_narrow c.loop-k.invariant.along c.loop-k-test.true c.run_at-c.ensures)

pub loop-k-preserved : goal.loop-k-preserved
loop-k-preserved c = sifting_more c.loop-k.invariant c.loop-k-test.true c.run_at-c.ensures refl refl c.field_of.ensures c.add.ensures
