-- Where an item stands in its entry, as the code has it.
use Rattle.std.specs.Prelude.{ℕ, List}
use Rattle.lay.specs.Slots.{Slot, wide_of, offset_of}
use Rattle.lay.specs.declared.item.Place.{Place}

abbrev pub place_of : List Slot → ℕ → Place
place_of ss k = record { at = offset_of ss k; wide = wide_of ss k }
