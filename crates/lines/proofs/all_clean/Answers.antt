use mathlib.Core.Path.{sym, ◌∙◌}
use borrow.Author.Tests.{tests}
use borrow.Author.Rules.{rules}
use Rattle.std.proofs.lemmas.Iterator.{YieldsList-from_slice}
use Rattle.std.proofs.lemmas.Iterator.Search.{all_from_yields_List}
use Rattle.lines.specs.Line.{is_clean}
use Rattle.lines.proofs.CleanBytes.{all_is}
use Rattle.lines.proofs.all_clean.Goals as goal

pub returns : goal.returns
returns c = all_from_yields_List is_clean _ _ _ c.all.ensures.ran (YieldsList-from_slice c.args.s.now cc) (λ x b q k. search (rules, tests)) ∙ sym (all_is _)
