use borrow.Author.Tests.{lt-ltb, le-ltb}
use mathlib.Core.Bool.{true, false}
use Rattle.text.proofs.Places.{found_from, built}
use Rattle.text.proofs.field.field_from.Goals as goal

pub returns-then-n-left : goal.returns-then-n-left
returns-then-n-left c = found_from _ _ c.requires _ (built _ _ _ _ _ _ _ c.rest-left.ensures c.find-n.ensures.0 c.front-piece.ensures c.trim_start-led.ensures c.trim_end.ensures true (lt-ltb _ _ c.if-n-left.true))

pub returns-else-n-left : goal.returns-else-n-left
returns-else-n-left c = found_from _ _ c.requires _ (built _ _ _ _ _ _ _ c.rest-left.ensures c.find-n.ensures.0 c.front-piece.ensures c.trim_start-led.ensures c.trim_end.ensures false (le-ltb _ _ c.if-n-left.false))
