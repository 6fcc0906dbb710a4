-- A reading in numbers, for lists of them and for C: each case has its row, and no two readings have the same (`outcome_tells`).
use Rattle.std.specs.Prelude.{pos, Ok, Err}
use Rattle.framing.specs.Reading.{Read, read_number}
use Rattle.framing.specs.declared.read.Reading.TheVariants.{Sample, OverlapDiffers}
use Rattle.framing.specs.declared.page.Outcome.{Outcome}

-- kind 1 is a sample, 2 one whose copies differ; where refused, all is 0 but the number
unfoldable pub outcome_of : Read → Outcome
outcome_of (Ok (Sample raw width value)) =
    record { number = read_number (Ok (Sample raw width value)); kind = 1; width = width; raw = raw; value = value }
outcome_of (Ok (OverlapDiffers raw width value)) =
    record { number = read_number (Ok (OverlapDiffers raw width value)); kind = 2; width = width; raw = raw; value = value }
outcome_of (Err r) =
    record { number = read_number (Err r); kind = 0; width = 0; raw = 0; value = pos 0 }
