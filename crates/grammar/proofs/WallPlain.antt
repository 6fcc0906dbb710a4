-- The plain sheet of the wall's Content, 25 lines; and that it says that Content. Assumes nothing.
use mathlib.Core.Path.{◌≡◌, refl}
use mathlib.Core.List.{List, [], ◌∷◌}
use Prim.Native.Nat.{ℕ}
use native.Mathlib.Omega.{arith}
use Rattle.lay.specs.Quoted.{quoted, quoted_lines}
use Rattle.model.specs.Wall.{wall}
use Rattle.model.proofs.WallCase.{wall_lawful}
use Rattle.grammar.specs.Says.{Says}
use Rattle.grammar.specs.Plain.{decimal, pointed, plain_seconds, plain_sheet}
use Rattle.grammar.proofs.Reachable.{reachable}

abbrev pub wall_plain : List ℕ
wall_plain =
    quoted_lines
    ("HEADER:"
    ∷ "2.0,,-,,,-,,,True,,,1,,"
    ∷ "RECORD:"
    ∷ "12,4,,,1"
    ∷ "PARAMETER:"
    ∷ "Sync,,,True,,,"
    ∷ "1,1,0,1-12"
    ∷ "0"
    ∷ ""
    ∷ "False,,,,"
    ∷ "583,,,"
    ∷ ",,"
    ∷ ""
    ∷ ""
    ∷ "PARAMETER:"
    ∷ "Pitch,PCH,,False,,,"
    ∷ "1,2,0,1-4"
    ∷ "1,4,0,2-3"
    ∷ "0.500000"
    ∷ ""
    ∷ "True,,,,"
    ∷ ",,,"
    ∷ ",,"
    ∷ ""
    ∷ ""
    ∷ [])

pub wall_plain_lem : plain_sheet wall ≡ wall_plain
unfolding plain_sheet plain_seconds pointed decimal
wall_plain_lem = refl

pub wall_said : Says wall_plain wall
unfolding plain_sheet plain_seconds pointed decimal
wall_said = reachable wall wall_lawful (omega arith)

-- ---- seconds, each way

pub whole_example : plain_seconds 5 1 ≡ quoted "5"
unfolding plain_seconds decimal
whole_example = refl

pub million_example : plain_seconds 2000001 1000000 ≡ quoted "2.000001"
unfolding plain_seconds pointed decimal
million_example = refl

pub mixed_example : plain_seconds 4 3 ≡ quoted "1 1/3"
unfolding plain_seconds decimal
mixed_example = refl
