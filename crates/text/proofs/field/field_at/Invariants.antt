use mathlib.Core.Path.{◌≡◌}
use Prim.Native.Nat.{◌≤◌}
use lib.ListN.{length}
use Rattle.text.specs.Fields.{piece_from}
use Rattle.text.proofs.field.field_at.Given as goal

abbrev pub invariant-loop : goal.invariant-loop
invariant-loop l = (l.from ≤ length l.line) × (l.from ≡ piece_from l.counter l.line)
