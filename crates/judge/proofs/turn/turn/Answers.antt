use native.Mathlib.Omega.{arith}
use mathlib.Core.Path.{sym}
use Rattle.lines.proofs.Cuts.{found_next}
use Rattle.judge.proofs.turn.turn.Goals as goal

pub between-line-requires : goal.between-line-requires
between-line-requires c = let k = found_next _ _ c.requires.ready c.in_ok-found.found (sym c.in_ok-found.ensures) in (k.ordered, omega (arith, k.ends, k.ready.inside))
