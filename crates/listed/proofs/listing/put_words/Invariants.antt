-- Word after word.
use Rattle.listed.proofs.WordLaws.{Words}
use Rattle.listed.proofs.listing.put_words.Given as goal

abbrev pub invariant-loop-i : goal.invariant-loop-i
invariant-loop-i l = Words l.bytes l.initial.words l.words l.i
