-- "Boolean: True, true, TRUE, False, false, FALSE." "For a number or Boolean: 8, 6, 11, 13"
use Rattle.std.specs.Prelude.{ℕ, List, [], ◌∷◌, Bool, not, ◌||◌}
use Rattle.lay.specs.Bytes.{same}
use Rattle.lay.specs.Quoted.{quoted}
use Rattle.text.specs.Blanks.{is_empty}
use Rattle.text.specs.Refusals.{Judged, when, first, says}
use Rattle.text.specs.declared.refusal.Refusal.TheVariants.{FieldEmpty, Misspelt}
use Rattle.spell.specs.Answers.{Truth}

unfoldable pub says_true : List ℕ → Bool
says_true f =
    same f (quoted "True") || (same f (quoted "true") || same f (quoted "TRUE"))

unfoldable pub says_false : List ℕ → Bool
says_false f =
    same f (quoted "False")
    || (same f (quoted "false") || same f (quoted "FALSE"))

unfoldable pub truth_judged : List ℕ → Judged
truth_judged f = first (when (is_empty f) FieldEmpty ∷ when (not (says_true f || says_false f)) Misspelt ∷ [])

unfoldable pub truth_of : List ℕ → Truth
truth_of f = says (truth_judged f) (says_true f)

-- "Boolean or empty"
unfoldable pub truth_or_empty_judged : List ℕ → Judged
truth_or_empty_judged f = first (when (not (is_empty f || (says_true f || says_false f))) Misspelt ∷ [])
