-- A position passed over fails the first row.
use mathlib.Core.Path.{ap, ◌∙◌}
use mathlib.Core.List.{List}
use Rattle.std.specs.Prelude.{slice_get}
use Rattle.card.specs.declared.rows.Row.{Row}
use Rattle.card.proofs.Searching.{sifted_first}
use Rattle.card.proofs.search.next_sifted.Goals as goal

pub returns-in-Some : goal.returns-in-Some
returns-in-Some c =
    sifted_first _ _ _ {row = c.in-Some.row.now} (c.in-Some.ensures.value ∙ ap (λ (l : List Row). slice_get l 0) c.rows.ensures) c.skip_unlike.ensures
