-- The reason's number.
use Rattle.ffi.proofs.tables.no_name.Goals as goal

pub returns : goal.returns
returns c = rw c.reason_number-number.ensures
