-- The answer of make, and what the lent bytes hold afterwards: "A new table goes to the front of the lent bytes, and its
-- length is the answer; later bytes stay." "No refusal writes anything". 17, "lent table too small", after all others.
use Rattle.std.specs.Prelude.{ℕ, cond, List, ◌++◌, leb, length, drop, Result, Ok, Err}
use Rattle.text.specs.Refusals.{refusal_number}
use Rattle.text.specs.declared.refusal.Refusal.{Refusal}
use Rattle.text.specs.declared.refusal.Refusal.TheVariants.{TableTooSmall}
use Rattle.model.specs.Forms.{newest}
use Rattle.model.specs.Write.{write}
use Rattle.gather.specs.Ruling.{Ruling, Accepted, Refused}
use Rattle.judge.specs.declared.walk.Rejected.{Rejected}

-- the table's length, or why there is none and at which line
abbrev pub Made : Type 0
Made = Result ℕ Rejected

abbrev pub unmade : Refusal → ℕ → Made
unmade q k = Err (record { refusal = q; line = k })

-- so many bytes are lent
abbrev pub made_of : Ruling → ℕ → Made
made_of (Accepted c) lent =
    cond (leb (length (write newest c)) lent) (Ok (length (write newest c))) (unmade TableTooSmall 0)
made_of (Refused q k) lent = unmade q k

abbrev pub left_of : Ruling → List ℕ → List ℕ
left_of (Accepted c) out =
    cond (leb (length (write newest c)) (length out)) (write newest c ++ drop (length (write newest c)) out) out
left_of (Refused q k) out = out

-- 01's number of the answer: 1 to 17, or 0 for a table
unfoldable pub made_number : Made → ℕ
made_number (Ok n) = 0
made_number (Err r) = refusal_number r.refusal
