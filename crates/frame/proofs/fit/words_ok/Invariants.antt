-- The subframes before i fit.
use Rattle.lay.proofs.Passing.{Passed}
use Rattle.model.specs.Stored.{subframes_in}
use Rattle.model.specs.View.{view}
use Rattle.framing.specs.Fitting.{subframe_fits}
use Rattle.frame.proofs.fit.words_ok.Given as goal

abbrev pub invariant-loop-i : goal.invariant-loop-i
invariant-loop-i l = Passed (subframes_in l.f.based.now.ruled.declared.table.bytes.now) (subframe_fits (view l.f.based.now.ruled.declared.table.bytes.now) l.f.words.now) l.subframes l.i
