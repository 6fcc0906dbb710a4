-- The invariant: i entries stand from o on, and nothing else is changed.
use mathlib.Core.Path.{◌≡◌}
use Rattle.lay.specs.Bytes.{put}
use Rattle.laying.specs.Parts.{copied}
use Rattle.maker.specs.Entries.{said_subframe}
use Rattle.maker.proofs.copies.put_copies.Given as goal

abbrev pub invariant-loop-i : goal.invariant-loop-i
invariant-loop-i l = l.out ≡ put l.initial.out l.o (copied l.i (said_subframe l.p))
