-- Form 1 as the base had it, when there was no other: margins were numbers, 0 to 4,095. Not part of the meaning: beside it stands
-- the law that a table of form 1 is answered as it was (proofs/FormOnes, and demands' AsBefore).
use Rattle.std.specs.Prelude.{Bool, List, [], ◌∷◌, ℕ, eqb}
use Rattle.lay.specs.Below.{every, tab}
use Rattle.model.specs.Margin.{Known}
use Rattle.model.specs.Content.{Content, Subframe}
use Rattle.model.specs.Forms.{limits1}
use Rattle.model.specs.Lawful.{lawful}
use Rattle.model.specs.Stored.{subframes_in, parameters_in, flags_in, bits_in, words_in, leading_in, trailing_in, numerator_in, denominator_in}
use Rattle.model.specs.View.{parameter_at}
use Rattle.model.specs.Accepts.{head_ok, entries_ok, rows_ok}

unfoldable pub base_subframe_at : List ℕ → ℕ → Subframe
base_subframe_at b i =
    record {
      bits = bits_in b i;
      words = words_in b i;
      leading = Known (leading_in b i);
      trailing = Known (trailing_in b i);
      numerator = numerator_in b i;
      denominator = denominator_in b i;
    }

unfoldable pub base_view : List ℕ → Content
base_view b =
    record {
      sequential = eqb (flags_in b) 1;
      subframes = tab (subframes_in b) (base_subframe_at b);
      parameters = tab (parameters_in b) (parameter_at b);
    }

unfoldable pub base_accepts : List ℕ → Bool
base_accepts b = every (head_ok b ∷ entries_ok b ∷ rows_ok b ∷ lawful limits1 (base_view b) ∷ [])
