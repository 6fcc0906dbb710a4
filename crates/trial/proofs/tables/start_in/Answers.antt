-- The place of the name that is answered.
use Rattle.trial.proofs.tables.start_in.Goals as goal

pub parameter_at-requires : goal.parameter_at-requires
parameter_at-requires c = record { i_bound = (c.requires.asked_here.each _ c.in-Ok.is).here }
