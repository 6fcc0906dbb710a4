use mathlib.Core.Path.{◌≡◌}
use Prim.Native.Nat.{◌-◌, ◌^◌, ◌<◌}
use lib.ListN.{drop}
use Rattle.spell.specs.Digits.{places}
use Rattle.spell.proofs.digits.value.Given as goal

abbrev pub invariant-loop-i : goal.invariant-loop-i
invariant-loop-i l = (l.total < 10 ^ l.i) × (places l.base (l.n - l.i) l.total (drop l.i l.s) ≡ places l.base l.n 0 l.s)
