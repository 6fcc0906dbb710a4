-- A width that is not 8 is one that put_item writes.
use borrow.Author.Rules.{rules}
use Rattle.lay.proofs.Slots.{long_plain}
use Rattle.lay.proofs.item.put_long.Goals as goal

pub put_item-requires-clause-wide_value : goal.put_item-requires-clause-wide_value
put_item-requires-clause-wide_value c = search (rules, long_plain)
