-- The number, and beside it the length or the line.
use Rattle.ffi.specs.Structs.{made_out, made_at}
use Rattle.ffi.proofs.sheets.made_out.Goals as goal

pub overflow_cast-result : goal.overflow_cast-result
overflow_cast-result c = record { fits = c.requires.each _ c.in-Ok.is }

pub returns-in-Ok : goal.returns-in-Ok
unfolding made_out made_at
returns-in-Ok c = rw (c.make_number-number.ensures, c.in-Ok.is)

pub returns-in-Err : goal.returns-in-Err
unfolding made_out made_at
returns-in-Err c = rw (c.make_number-number.ensures, c.in-Err.is)
