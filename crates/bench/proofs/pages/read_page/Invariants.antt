-- The requests before i are answered, and the results from there on are as they were.
use mathlib.Core.Path.{◌≡◌}
use Prim.Native.Nat.{◌≤◌}
use lib.ListN.{length}
use Rattle.framing.specs.Paging.{outcome_at}
use Rattle.framing.proofs.Pages.{mix}
use Rattle.bench.proofs.pages.read_page.Given as goal

abbrev pub invariant-loop-i : goal.invariant-loop-i
invariant-loop-i l = record {
  within : l.i ≤ length l.requests;
  answered : l.results ≡ mix (outcome_at l.table l.words) l.requests l.initial.results l.i;
}
