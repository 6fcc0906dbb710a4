-- A spelling is a list of tests, of which the first hit is the answer, and what the field says where all pass.
use Rattle.std.specs.Prelude.{ℕ, Bool, Result}
use Rattle.std.specs.Result.{result_unwrap_or}
use Rattle.ratio.specs.declared.Ratio.{Ratio}
use Rattle.text.specs.declared.refusal.Refusal.{Refusal}

abbrev pub Number : Type 0
Number = Result ℕ Refusal

abbrev pub Truth : Type 0
Truth = Result Bool Refusal

-- a fraction in lowest terms
abbrev pub Seconds : Type 0
Seconds = Result Ratio Refusal

-- the number that a field says, 0 where it says none
abbrev pub amount_of : Number → ℕ
amount_of x = result_unwrap_or x 0
