-- Each frame lies whole in the card and begins behind the one before.
use mathlib.Core.Path.{◌≡◌}
use Prim.Native.Nat.{◌+◌, ◌*◌, ◌-◌, ◌≤◌}
use lib.ListN.{length}
use Rattle.cards.proofs.show.frames.Given as goal

abbrev pub invariant-loop-next : goal.invariant-loop-next
invariant-loop-next l = (l.position + l.bits ≤ 8 * length l.stream) × (length l.words ≡ length l.initial.words)

abbrev pub decreases-loop-next : goal.decreases-loop-next
decreases-loop-next l = 8 * length l.stream - l.position
