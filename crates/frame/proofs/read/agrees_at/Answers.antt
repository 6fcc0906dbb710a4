-- A sample without overlap is its own bits.
use mathlib.Core.Path.{sym, ap, ◌∙◌}
use Rattle.model.specs.Samples.{holds}
use Rattle.model.specs.View.{sample_at}
use Rattle.model.proofs.Lapping.{not_overlapped_lem, plain_holds}
use Rattle.rules.specs.Ruled.{subframes_of}
use Rattle.frame.proofs.read.agrees_at.Goals as goal

pub returns-then-not-laps : goal.returns-then-not-laps
returns-then-not-laps c =
    let b = c.args.f.now.based.now.ruled.declared.table.bytes.now in
    let f = c.args.f.now.words.now in
    let s = sample_at b c.args.j in
    sym
    (ap (holds (subframes_of b) f s) c.requires.raw_value
    ∙ plain_holds (subframes_of b) s f (not_overlapped_lem s (sym c.requires.laps_value ∙ c.if-not-laps.true)))

pub holds_at-requires : goal.holds_at-requires
holds_at-requires c = let p = c.requires in record { sample_here = p.sample_here; sample_law = p.sample_law }

pub returns : goal.returns
returns c = c.holds_at.ensures
