-- The first frame, where there is one, lies whole in the card, and the lent words hold it.
use mathlib.Core.Path.{sym, ap, ◌∙◌}
use mathlib.Core.List.{List}
use Prim.Native.Nat.{ℕ}
use native.Mathlib.Omega.{arith}
use Rattle.std.specs.Prelude.{Some}
use Rattle.std.specs.Borrow.{Bor}
use Rattle.carding.proofs.CardCases.{bits_there}
use Rattle.carding.proofs.Next.{found_stands}
use Rattle.cards.proofs.show.carded.Goals as goal

pub frames-requires : goal.frames-requires
frames-requires c =
    let w = found_stands _ _ _ _ _ _ (sym c.in_ok-found.ensures.0) in
    let e = ap (λ (x : Bor (List ℕ)). x.now) (c.opening.ensures.of _ (c.in_ok-r.ensures.ok_part ∙ ap Some (sym c.based.ensures))) in
    record { told = (rw e w.told, w.short); t_bound = rw e (omega (arith, w.whole, bits_there _ w.accepted w.told)); t_in_bounds = rw e (omega (arith, w.counted, w.room)) }
