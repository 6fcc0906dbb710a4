-- None before form 3.
use mathlib.Core.Path.{sym, ap}
use mathlib.Core.Bool.{Bool, cond}
use borrow.Author.Tests.{le-leb, lt-leb}
use Rattle.stored.proofs.forms.most_overlap.Goals as goal

pub returns-then-f-lt3 : goal.returns-then-f-lt3
returns-then-f-lt3 c = sym (ap (λ (t : Bool). cond t 15 0) (lt-leb 3 _ c.if-f-lt3.true))

pub returns : goal.returns
returns c = sym (ap (λ (t : Bool). cond t 15 0) (le-leb 3 _ c.if-f-lt3.false))
