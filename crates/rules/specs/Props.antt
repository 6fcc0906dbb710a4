-- That a margin's law has one proof at most: what a type that carries the subframes' law must show.
use Rattle.std.specs.Coded.{le_prop}
use Rattle.std.proofs.Props.{props}
use Rattle.model.specs.Limits.{Limits}
use Rattle.model.specs.Margin.{Margin, Known, Unknown}
use Rattle.model.specs.Meaning.{MarginLaw}

pub margin_law_prop : (lim : Limits) (m : Margin) → IsProp (MarginLaw lim m)
margin_law_prop lim (Known n) = le_prop
margin_law_prop lim Unknown = hlevel props
