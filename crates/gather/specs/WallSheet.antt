-- The sheet on the wall, 25 lines, as 01 prints it.
use Rattle.std.specs.Prelude.{ℕ, List, [], ◌∷◌}
use Rattle.lay.specs.Quoted.{quoted_lines}

abbrev pub wall_sheet : List ℕ
wall_sheet =
    quoted_lines
    ("HEADER:"
    ∷ "2.0,A,TypeX,,,001,,,True,,,1,,"
    ∷ "RECORD:"
    ∷ "12,4,,,1.0"
    ∷ "PARAMETER:"
    ∷ "Sync,,,True,,,"
    ∷ "1,1,0,1-12"
    ∷ "0"
    ∷ ""
    ∷ "False,,,,"
    ∷ "583,,,"
    ∷ ",,"
    ∷ ""
    ∷ ""
    ∷ "PARAMETER:"
    ∷ "Pitch,PCH,,False,,,"
    ∷ "1,2,0,1-4"
    ∷ "1,4,0,2-3"
    ∷ "0.5"
    ∷ ""
    ∷ "True,,,deg,"
    ∷ ",,,"
    ∷ ",,"
    ∷ ""
    ∷ ""
    ∷ [])
