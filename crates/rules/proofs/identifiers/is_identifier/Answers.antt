-- The flags above the lowest bit are 1.
use Rattle.stored.proofs.Flagged.{identifier_flag}
use Rattle.rules.proofs.identifiers.is_identifier.Goals as goal

pub returns : goal.returns
returns c = identifier_flag _ _ c.parameter_at-e.ensures.flags_is c.has_identifier.ensures
