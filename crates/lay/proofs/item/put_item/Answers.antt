-- A width that is none of 1, 2 and 4 is 0.
use borrow.Author.Rules.{rules}
use Rattle.lay.proofs.Slots.{plain_none, put_nothing}
use Rattle.lay.proofs.item.put_item.Goals as goal

pub returns-in_default : goal.returns-in_default
returns-in_default c = search (rules, plain_none, put_nothing)
