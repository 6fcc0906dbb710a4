-- Not part of the meaning: rule 16 over what the code keeps of each parameter.
use Rattle.std.specs.Prelude.{ℕ, List, Bool, not, ◌&&◌, ◌||◌, cond, Option, Some, None, eqb, ltb, length, take, get_or}
use Rattle.std.specs.List.{list_all, list_any}
use Rattle.lay.specs.Below.{find}
use Rattle.judge.specs.Rows.{no_kept}
use Rattle.judge.specs.declared.rows.Kept.{Kept}

-- k is no identifier, or differs from i in value and subframe
abbrev pub unlike_in : Kept → Kept → Bool
unlike_in i k = not k.identifier || (not (eqb k.value i.value) && not (eqb k.home i.home))

-- i differs from each earlier identifier
abbrev pub new_in : List Kept → ℕ → Bool
new_in ks i = list_all (unlike_in (get_or ks i no_kept)) (take i ks)

abbrev pub identifies_in : List Kept → ℕ → Bool
identifies_in ks i = not (get_or ks i no_kept).identifier || ((get_or ks i no_kept).good && new_in ks i)

abbrev pub bad_in : List Kept → ℕ → Bool
bad_in ks i = not (identifies_in ks i)

-- the first that breaks a rule
unfoldable pub first_bad_in : List Kept → Option ℕ
first_bad_in ks = let i = find (length ks) (bad_in ks) in cond (ltb i (length ks)) (Some i) None

-- an identifier in subframe s
abbrev pub lies_in : ℕ → Kept → Bool
lies_in s k = k.identifier && eqb k.home s

-- some identifier lies in subframe s
abbrev pub taken_in : List Kept → ℕ → Bool
taken_in ks s = list_any (lies_in s) ks
