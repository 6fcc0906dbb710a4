-- An identifier's components are compared in the stream.
use mathlib.Core.Path.{sym, ap, ap₂, ◌∙◌}
use Rattle.model.specs.Samples.{holds}
use Rattle.model.specs.View.{sample_at, view}
use Rattle.stored.proofs.Flagged.{identifier_flag}
use Rattle.rules.specs.Ruled.{subframes_of}
use Rattle.rules.proofs.Identifying.{first}
use Rattle.carding.specs.Layout.{frame_at}
use Rattle.carding.proofs.Agreeing.{plain_reads, identifier_reads}
use Rattle.card.proofs.Runs.{first_sample}
use Rattle.card.proofs.agree.reads_at.Goals as goal

pub returns-then-not-has_identifier : goal.returns-then-not-has_identifier
returns-then-not-has_identifier c =
    let l = c.requires.i_bound in
    sym (plain_reads _ _ _ l (sym (identifier_flag _ _ c.parameter_at-e.ensures.flags_is c.has_identifier.ensures) ∙ c.if-not-has_identifier.true))

pub holds_in-requires-clause-sample_here : goal.holds_in-requires-clause-sample_here
holds_in-requires-clause-sample_here c = (first_sample c.args.s.now.ruled.ruled c.requires.i_bound c.parameter_at-e.ensures.first_is).here

pub holds_in-requires-clause-sample_law : goal.holds_in-requires-clause-sample_law
holds_in-requires-clause-sample_law c = (first_sample c.args.s.now.ruled.ruled c.requires.i_bound c.parameter_at-e.ensures.first_is).law

pub returns : goal.returns
returns c =
    let t = c.args.s.now.ruled.declared.table.bytes.now in
    let i = c.args.i in
    let l = c.requires.i_bound in
    let e = c.parameter_at-e.ensures in
    let f = frame_at (view t) c.args.stream.now c.args.p in
    c.holds_in.ensures
    ∙ ap₂ (holds (subframes_of t) f) (ap (sample_at t) e.first_is ∙ sym (first t i c.args.s.now.ruled.ruled l).is) e.value_is
    ∙ sym (identifier_reads t f i l (sym (identifier_flag t i e.flags_is c.has_identifier.ensures) ∙ c.if-not-has_identifier.false))
