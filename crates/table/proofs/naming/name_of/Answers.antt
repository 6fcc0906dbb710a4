-- The part that the asked parameter's name is, or the empty part at the table's start.
use mathlib.Core.Path.{refl}
use Rattle.model.proofs.Laying.{accepted_laid, parameter_here}
use Rattle.table.proofs.Asking.{no_name, named_here}
use Rattle.table.proofs.naming.name_of.Goals as goal

pub name_in-requires : goal.name_in-requires
name_in-requires c =
    let h = c.requires.asked_here.each _ c.in-Ok.is in
    record { parameter_here = parameter_here _ (accepted_laid _ h.accepted).entries _ h.here }

pub returns-in-Ok : goal.returns-in-Ok
returns-in-Ok c =
    let e = c.in-Ok.is in
    let h = c.requires.asked_here.each _ e in
    named_here _ _ _ _ e h.here c.name_in.ensures.0 c.name_in.ensures.1

pub returns-in-Err : goal.returns-in-Err
returns-in-Err c = no_name _ _ _ _ c.in-Err.is refl refl
