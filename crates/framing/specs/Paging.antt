-- A page of reads: "a lent list of requests, each a parameter number and a sample number, and a lent list of results".
use Rattle.std.specs.Prelude.{cond, List, ◌++◌, map, ℕ, leb, length, drop}
use Rattle.framing.specs.Reading.{read_of}
use Rattle.framing.specs.Outcomes.{outcome_of}
use Rattle.framing.specs.declared.page.Request.{Request}
use Rattle.framing.specs.declared.page.Outcome.{Outcome}
use Rattle.framing.specs.declared.page.Paged.{Paged}

-- "Up to 256 requests"
abbrev pub most_requests : ℕ
most_requests = 256

-- "29 for more than 256, then 28 for a result list that is too short": the lengths of the two lists, n and m, decide
abbrev pub by_lengths : {X : Type 0} → ℕ → ℕ → X → X → X → X
by_lengths n m many few passed = cond (leb n most_requests) (cond (leb n m) passed few) many

-- the number, and how many results are written
unfoldable pub paged_of : ℕ → ℕ → Paged
paged_of n m = record { number = by_lengths n m 29 28 0; count = by_lengths n m 0 0 n }

-- "Each result equals what the single read answers, its refusal included"
abbrev pub outcome_at : List ℕ → List ℕ → Request → Outcome
outcome_at t w q = outcome_of (read_of t w q.parameter q.sample)

-- the results afterwards: "both write nothing", "results beyond the requests stay"
unfoldable pub results_of : List ℕ → List ℕ → List Request → List Outcome → List Outcome
results_of t w qs rs = by_lengths (length qs) (length rs) rs rs (map (outcome_at t w) qs ++ drop (length qs) rs)
