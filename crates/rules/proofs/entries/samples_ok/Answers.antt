use mathlib.Core.Path.{◌≡◌, sym, ap, ◌∙◌}
use mathlib.Core.List.{List}
use Rattle.std.specs.Prelude.{Option}
use Prim.Native.Nat.{ℕ, ◌+◌}
use native.Mathlib.Omega.{arith}
use borrow.Author.Count.{below_more}
use Rattle.lay.proofs.Tests.{refuse}
use Rattle.model.specs.Stored.{first_sample_in}
use Rattle.model.proofs.Laying.{sample_here}
use Rattle.rules.specs.Ruled.{lawful_width}
use Rattle.rules.proofs.Parameters.{width_at, width_of_sample, sample_width, sample_some, samples_law, samples_made}
use Rattle.rules.proofs.entries.samples_ok.Invariants.{Fine}
use Rattle.rules.proofs.entries.samples_ok.Goals.{Joined-j-eq0, else-j-eq0, then-j-eq0}
use Rattle.rules.proofs.entries.samples_ok.Goals as goal

-- the width that was read is sample j's
read : (b : List ℕ) (i first j : ℕ) {w : Option ℕ} → first ≡ first_sample_in b i → w ≡ lawful_width b (first + j) → w ≡ width_of_sample b i j
read b i first j e h = h ∙ ap (λ (f : ℕ). lawful_width b (f + j)) e

pub parameter_at-e-requires : goal.parameter_at-e-requires
parameter_at-e-requires c = record { i_bound = c.requires.parameter_here.here }

pub loop-j-init : goal.loop-j-init
loop-j-init c =
    let e = c.parameter_at-e.ensures in
    record { firsts = e.first_is; counted = e.count_is; within = omega arith; wide = λ l. absurd (omega arith); done = λ k l. absurd (omega arith) }

pub overflow_add-first : goal.overflow_add-first
overflow_add-first c = omega (arith, c.parameter_at-e.ensures, c.loop-j-test.true)

pub lawful_width-requires : goal.lawful_width-requires
lawful_width-requires c =
    let v = c.loop-j.invariant in
    let h = c.requires.parameter_here.samples in
    record { sample_here = sample_here c.args.d.now.table.bytes.now c.requires.rows _ (omega (arith, v.firsts, v.counted, c.loop-j-test.true, h)) }

pub returns-in_default : goal.returns-in_default
returns-in_default c =
    let b = c.args.d.now.table.bytes.now in
    let i = c.args.i in
    let v = c.loop-j.invariant in
    let e = read b i c.parameter_at-e.result.first c.loop-j.j v.firsts c.lawful_width.ensures in
    refuse _ (λ h. sample_some b i c.loop-j.j (samples_law b i h c.loop-j.j (omega (arith, v.counted, c.loop-j-test.true))).0 (sym e ∙ c.in_default.is))

-- the width kept is the first sample's
kept : (c : Joined-j-eq0) → c.if-j-eq0.width ≡ width_at c.args.d.now.table.bytes.now c.args.i 0
kept c =
    let b = c.args.d.now.table.bytes.now in
    let i = c.args.i in
    let v = c.loop-j.invariant in
    let s = sample_width b i c.loop-j.j _ (sym (read b i c.parameter_at-e.result.first c.loop-j.j v.firsts c.in-Some.ensures)) in
    elim c.if-j-eq0.branch [ then-j-eq0 w ↦ w.width-is ∙ s.1 ∙ ap (width_at b i) w.if-j-eq0.true | else-j-eq0 w ↦ w.width-is ∙ v.wide (let n = w.if-j-eq0.false in omega (arith, n)) ]

pub returns-then-w-width : goal.returns-then-w-width
returns-then-w-width c =
    let b = c.args.d.now.table.bytes.now in
    let i = c.args.i in
    let v = c.loop-j.invariant in
    let s = sample_width b i c.loop-j.j _ (sym (read b i c.parameter_at-e.result.first c.loop-j.j v.firsts c.in-Some.ensures)) in
    refuse _ (λ h. c.if-w-width.true (s.1 ∙ (samples_law b i h c.loop-j.j (omega (arith, v.counted, c.loop-j-test.true))).1 ∙ sym (kept (goal.at.returns-then-w-width c).Joined-j-eq0)))

pub loop-j-preserved : goal.loop-j-preserved
loop-j-preserved c =
    let b = c.args.d.now.table.bytes.now in
    let i = c.args.i in
    let v = c.loop-j.invariant in
    let s = sample_width b i c.loop-j.j _ (sym (read b i c.parameter_at-e.result.first c.loop-j.j v.firsts c.in-Some.ensures)) in
    let k = kept (goal.at.loop-j-preserved c).Joined-j-eq0 in
    record {
      firsts = v.firsts;
      counted = v.counted;
      within = omega (arith, c.loop-j-test.true);
      wide = λ l. k;
      done = below_more (Fine b i) c.loop-j.j v.done (s.0, sym s.1 ∙ c.if-w-width.false ∙ k);
    }

pub returns : goal.returns
returns c =
    let v = c.loop-j.invariant in
    sym (samples_made _ _ (λ j l. v.done j (omega (arith, v.counted, v.within, c.loop-j-test.false, l))))
