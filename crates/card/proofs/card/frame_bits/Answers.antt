-- The bits of the table's span.
use mathlib.Core.Path.{ap, ◌∙◌}
use mathlib.Core.List.{List}
use Prim.Native.Nat.{ℕ}
use Rattle.std.specs.Borrow.{Bor}
use Rattle.model.specs.View.{view}
use Rattle.carding.specs.Layout.{frame_bits}
use Rattle.table.proofs.Accepting.{opened_accepted, opened_not}
use Rattle.carding.proofs.CardCases.{bits_none, bits_untold, bits_there}
use Rattle.card.proofs.Opened.{opened_told}
use Rattle.card.proofs.card.frame_bits.Goals as goal

pub returns-in_default : goal.returns-in_default
returns-in_default c =
    bits_untold _ (opened_accepted c.opening.ensures c.in-Some.is) (opened_told c.opening.ensures c.in-Some.is c.margins_told.ensures c.if-margins_told.false)

pub returns-in_default-2 : goal.returns-in_default-2
returns-in_default-2 c = bits_none _ (opened_not c.opening.ensures c.in_default.is)

pub returns-in-Some : goal.returns-in-Some
returns-in-Some c =
    c.span_of.ensures.bits_are
    ∙ ap (λ (x : Bor (List ℕ)). frame_bits (view x.now)) (c.opening.ensures.of _ c.in-Some.is)
    ∙ bits_there _ (opened_accepted c.opening.ensures c.in-Some.is) (opened_told c.opening.ensures c.in-Some.is c.margins_told.ensures c.if-margins_told.true)
