-- An identifier of this subframe that is not its value.
use mathlib.Core.Path.{◌≡◌, sym, ap, ap₂, ◌∙◌}
use mathlib.Core.Bool.{true, false, not}
use Prim.Native.Nat.{◌+◌}
use native.Mathlib.Omega.{arith}
use borrow.Author.Tests.{not-false}
use Rattle.model.specs.Content.{sample}
use Rattle.model.specs.Samples.{holds}
use Rattle.model.specs.Stored.{first_sample_in, value_in}
use Rattle.model.specs.View.{sample_at, identifier_in, parameter_at}
use Rattle.stored.proofs.Flagged.{identifier_flag}
use Rattle.rules.specs.Ruled.{subframes_of}
use Rattle.rules.proofs.Identifying.{first}
use Rattle.framing.proofs.Listed.{listed_at, first_one, here_at, law_at}
use Rattle.framing.proofs.CompareCases.{no_identifier, elsewhere, agrees, differs}
use Rattle.frame.proofs.compare.differs_at.Goals.{After-has_identifier, After-holds_at}
use mathlib.Core.Bool.{not}
use Rattle.frame.proofs.compare.differs_at.Goals as goal

pub returns-then-not-has_identifier : goal.returns-then-not-has_identifier
returns-then-not-has_identifier c =
    let l = c.requires.i_bound in
    sym (no_identifier _ _ _ _ l (sym (identifier_flag _ _ c.parameter_at-e.ensures.flags_is c.has_identifier.ensures) ∙ c.if-not-has_identifier.true))

-- the flag is set
flagged : (c : After-has_identifier) → not c.has_identifier.result ≡ false → identifier_in c.args.f.now.based.now.ruled.declared.table.bytes.now c.args.i ≡ true
flagged c h = sym (identifier_flag _ _ c.parameter_at-e.ensures.flags_is c.has_identifier.ensures) ∙ not-false _ h

pub returns-then-lies_in-s : goal.returns-then-lies_in-s
returns-then-lies_in-s c =
    let l = c.requires.i_bound in
    sym (elsewhere _ _ _ _ l (λ x. c.if-lies_in-s.true (c.lies_in.ensures ∙ x)))

pub holds_at-requires : goal.holds_at-requires
holds_at-requires c =
    let t = c.args.f.now.based.now.ruled.declared.table.bytes.now in
    let i = c.args.i in
    let r = c.args.f.now.based.now.ruled.ruled in
    let l = c.requires.i_bound in
    let e = c.parameter_at-e.ensures in
    let m = listed_at t i 0 r l (first_one t i r l) in
    let q : c.parameter_at-e.result.first ≡ first_sample_in t i + 0 = omega (arith, e) in
    record { sample_here = here_at t i 0 m q; sample_law = law_at t i 0 m q }

-- what is held is the identifier's value
held : (c : After-holds_at) → c.holds_at.result ≡ holds (subframes_of c.args.f.now.based.now.ruled.declared.table.bytes.now) c.args.f.now.words.now (sample (parameter_at c.args.f.now.based.now.ruled.declared.table.bytes.now c.args.i) 0) (value_in c.args.f.now.based.now.ruled.declared.table.bytes.now c.args.i)
held c =
    let t = c.args.f.now.based.now.ruled.declared.table.bytes.now in
    let i = c.args.i in
    let r = c.args.f.now.based.now.ruled.ruled in
    let l = c.requires.i_bound in
    let e = c.parameter_at-e.ensures in
    c.holds_at.ensures
    ∙ ap₂ (holds (subframes_of t) c.args.f.now.words.now) (ap (sample_at t) e.first_is ∙ sym (first t i r l).is) e.value_is

pub returns-then-holds_at : goal.returns-then-holds_at
returns-then-holds_at c =
    let l = c.requires.i_bound in
    sym (agrees _ _ _ _ l (flagged (goal.at.returns-then-holds_at c).After-has_identifier (ap not c.if-not-has_identifier.false)) (sym c.lies_in.ensures ∙ c.if-lies_in-s.false) (sym (held (goal.at.returns-then-holds_at c).After-holds_at) ∙ c.if-holds_at.true))

pub returns : goal.returns
returns c =
    let l = c.requires.i_bound in
    sym (differs _ _ _ _ l (flagged (goal.at.returns c).After-has_identifier (ap not c.if-not-has_identifier.false)) (sym c.lies_in.ensures ∙ c.if-lies_in-s.false) (sym (held (goal.at.returns c).After-holds_at) ∙ c.if-holds_at.false))
