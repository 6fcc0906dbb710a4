-- The flag, or else the value.
use mathlib.Core.Path.{sym, ◌∙◌}
use mathlib.Core.Bool.{or-true}
use borrow.Author.Tests.{eq-eqb, ne_eqb}
use Rattle.rules.proofs.entries.value_ok.Goals as goal

pub returns-then-has_identifier : goal.returns-then-has_identifier
returns-then-has_identifier c = simp (sym c.has_identifier.ensures ∙ c.if-has_identifier.true)

pub returns-then-value-eq0 : goal.returns-then-value-eq0
returns-then-value-eq0 c = simp (eq-eqb _ _ c.if-value-eq0.true, or-true)

pub returns : goal.returns
returns c = simp (sym c.has_identifier.ensures ∙ c.if-has_identifier.false, ne_eqb _ _ c.if-value-eq0.false)
