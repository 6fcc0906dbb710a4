-- The tests of one identifier, and then those against the earlier ones.
use mathlib.Core.Path.{sym, ◌∙◌}
use Rattle.lay.specs.Below.{every}
use Rattle.rules.proofs.Identifying.{identifies_at}
use Rattle.rules.proofs.identifiers.identifies_ok.Goals as goal

pub returns-then-not-is_identifier : goal.returns-then-not-is_identifier
returns-then-not-is_identifier c =
    rw (identifies_at _ _ c.requires.i_bound, sym c.is_identifier.ensures ∙ c.if-not-is_identifier.true)

pub returns-then-not-identifier_ok : goal.returns-then-not-identifier_ok
unfolding every
returns-then-not-identifier_ok c =
    rw (
      identifies_at _ _ c.requires.i_bound,
      sym c.is_identifier.ensures ∙ c.if-not-is_identifier.false,
      sym c.identifier_ok.ensures ∙ c.if-not-identifier_ok.true,
    )

pub returns-then-not-newly_identified : goal.returns-then-not-newly_identified
unfolding every
returns-then-not-newly_identified c =
    rw (
      identifies_at _ _ c.requires.i_bound,
      sym c.is_identifier.ensures ∙ c.if-not-is_identifier.false,
      sym c.identifier_ok.ensures ∙ c.if-not-identifier_ok.false,
      sym c.newly_identified.ensures ∙ c.if-not-newly_identified.true,
    )

pub returns : goal.returns
unfolding every
returns c =
    rw (
      identifies_at _ _ c.requires.i_bound,
      sym c.is_identifier.ensures ∙ c.if-not-is_identifier.false,
      sym c.identifier_ok.ensures ∙ c.if-not-identifier_ok.false,
      sym c.newly_identified.ensures ∙ c.if-not-newly_identified.false,
    )
