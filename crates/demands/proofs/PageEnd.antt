-- The wall's page, of any bench that meets the demands: Sync, and Pitch, minus eleven. Assumes nothing.
use native.Mathlib.Omega.{arith}
use mathlib.Core.Path.{◌≡◌, refl, ap, ◌∙◌}
use mathlib.Core.List.{List, [], ◌∷◌}
use lib.IntN.{pos, negsuc}
use lib.ListN.{get_or}
use Rattle.framing.specs.Reading.{read_number}
use Rattle.framing.specs.Outcomes.{outcome_of}
use Rattle.framing.specs.declared.page.Request.{Request}
use Rattle.framing.specs.declared.page.Outcome.{Outcome}
use Rattle.demands.specs.Calls.{Calls}
use Rattle.demands.specs.Refusing.{first_broken, page_rules}
use Rattle.demands.specs.Demands.{Demands}
use Rattle.demands.proofs.Wall.{words, wall_table, reads_sync, reads_pitch}

-- both samples of the wall
abbrev asked : List Request
asked = record { parameter = 1; sample = 1 } ∷ record { parameter = 2; sample = 1 } ∷ []

passes : (r : Outcome) → first_broken (page_rules asked (r ∷ r ∷ [])) ≡ 0
unfolding first_broken
passes r = refl

module _ (B : Calls) (D : Demands B) (r : Outcome) where
  abbrev results : List Outcome
  results = B.paged (wall_table B) words asked (r ∷ r ∷ [])

  pub sync_paged : get_or results 0 r ≡ record { number = 0; kind = 1; width = 12; raw = 583; value = pos 583 }
  unfolding outcome_of read_number
  sync_paged = (D.two.pages (wall_table B) words asked (r ∷ r ∷ []) (passes r)).each 0 (record { parameter = 0; sample = 0 }) r (omega arith) ∙ ap outcome_of (reads_sync B D)

  -- read the minus sign aloud
  pub pitch_paged : get_or results 1 r ≡ record { number = 0; kind = 1; width = 6; raw = 53; value = negsuc 10 }
  unfolding outcome_of read_number
  pitch_paged = (D.two.pages (wall_table B) words asked (r ∷ r ∷ []) (passes r)).each 1 (record { parameter = 0; sample = 0 }) r (omega arith) ∙ ap outcome_of (reads_pitch B D)
