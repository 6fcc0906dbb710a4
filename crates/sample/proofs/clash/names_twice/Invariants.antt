-- Each component is held against those after it; the walk is left where two clash.
use mathlib.Core.Path.{◌≡◌}
use lib.ListN.{drop}
use Rattle.sample.specs.Clash.{twice}
use Rattle.sample.proofs.clash.names_twice.Given as goal

abbrev pub invariant-loop-i : goal.invariant-loop-i
invariant-loop-i l = twice (drop l.i l.list) ≡ twice l.list
