-- The number, and beside 0 the position and the words.
use Rattle.ffi.specs.Structs.{carded_out}
use Rattle.ffi.proofs.cards.carded_out.Goals as goal

pub returns-in-Ok : goal.returns-in-Ok
unfolding carded_out
returns-in-Ok c = rw (c.card_number-number.ensures, c.in-Ok.is)

pub returns-in-Err : goal.returns-in-Err
unfolding carded_out
returns-in-Err c = rw (c.card_number-number.ensures, c.in-Err.is)
