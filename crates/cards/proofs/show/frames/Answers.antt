use mathlib.Core.Path.{sym}
use native.Mathlib.Omega.{arith}
use Rattle.carding.proofs.CardCases.{bits_there}
use Rattle.carding.proofs.Next.{found_stands}
use borrow.Author.Rules.{rules}
use Rattle.cards.proofs.show.frames.Goals as goal

pub loop-next-smaller : goal.loop-next-smaller
loop-next-smaller c =
    let w = found_stands _ _ _ _ _ _ (sym c.in-Ok.ensures.0) in
    omega (arith, w.after, w.whole, w.some, bits_there _ w.accepted w.told, c.span_of-span.ensures.bits_are)

pub loop-next-preserved : goal.loop-next-preserved
loop-next-preserved c =
    let w = found_stands _ _ _ _ _ _ (sym c.in-Ok.ensures.0) in
    (omega (arith, w.whole, bits_there _ w.accepted w.told, c.span_of-span.ensures.bits_are), search rules)
