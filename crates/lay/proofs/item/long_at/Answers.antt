-- A width that is not 8 is one that item_at reads.
use borrow.Author.Rules.{rules}
use Rattle.lay.proofs.Slots.{long_plain}
use Rattle.lay.proofs.item.long_at.Goals as goal

pub item_at-requires-clause-wide_value : goal.item_at-requires-clause-wide_value
item_at-requires-clause-wide_value c = search (rules, long_plain)
