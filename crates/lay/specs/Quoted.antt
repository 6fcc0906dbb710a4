-- 01's words, as it prints them: the bytes of a quoted text.
use Rattle.std.specs.Prelude.{ℕ, List, [], ◌∷◌, ◌++◌}
use Prim.Native.Char.{code}
use Prim.Native.String.{String, [] as ends, ◌∷◌ as ◌then◌}

abbrev pub quoted : String → List ℕ
quoted ends = []
quoted (c then s) = code c ∷ quoted s

-- lines, each with its end byte
abbrev pub quoted_lines : List String → List ℕ
quoted_lines [] = []
quoted_lines (l ∷ ls) = quoted l ++ (10 ∷ quoted_lines ls)
