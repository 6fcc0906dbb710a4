-- 01's and 02's refusals, call by call: what must hold, in their order, each with the number that is given where it does not.
use Rattle.std.specs.Prelude.{Bool, ◌&&◌, not, cond, List, [], ◌∷◌, ℕ, ◌+◌, ◌-◌, ◌*◌, ◌^◌, eqb, leb, ltb, length}
use Rattle.lay.specs.Below.{any}
use Rattle.lay.specs.Bytes.{same}
use Rattle.sample.specs.declared.component.Component.{Component}
use Rattle.sample.specs.Joining.{width}
use Rattle.model.specs.Content.{Content, Sample, parameter, parameters, sample, subframes}
use Rattle.model.specs.Samples.{wholes, pieces, overlapped}
use Rattle.model.specs.Frame.{frame_words, words_ok}
use Rattle.model.specs.Forms.{form_in}
use Rattle.model.specs.Accepts.{accepts}
use Rattle.model.specs.View.{view}
use Rattle.framing.specs.Wanted.{has_parameter, has_sample}
use Rattle.framing.specs.Comparing.{differs_in}
use Rattle.framing.specs.declared.page.Request.{Request}
use Rattle.framing.specs.declared.page.Outcome.{Outcome}
use Rattle.carding.specs.Search.{sought_at}
use Rattle.carding.specs.Answer.{longest_stream, margins_known}

-- ---- the first rule that is broken gives the number

pub record Rule : Type 0 where
  pub number : ℕ
  pub holds : Bool

abbrev pub rule : ℕ → Bool → Rule
rule n b = record { number = n; holds = b }

-- 0 where all hold
unfoldable pub first_broken : List Rule → ℕ
first_broken [] = 0
first_broken (r ∷ rs) = cond r.holds (first_broken rs) r.number

-- ---- what must hold; 21 and 22 are has_parameter and has_sample

-- sample s of parameter p, both counted from 1
abbrev pub sample_of : Content → ℕ → ℕ → Sample
sample_of c p s = sample (parameter c (p - 1)) (s - 1)

-- its components, lowest first, where they stand in a frame: the bits that each gives, and all its bits
unfoldable pub components_of : Content → ℕ → ℕ → List Component
components_of c p s = pieces c.subframes (sample_of c p s)

unfoldable pub wholes_of : Content → ℕ → ℕ → List Component
wholes_of c p s = wholes c.subframes (sample_of c p s)

-- "an empty or unknown mnemonic gives 21"
abbrev pub has_mnemonic : Content → List ℕ → Bool
has_mnemonic c m = leb 1 (length m) && any (parameters c) (λ i. same (parameter c i).mnemonic m)

-- 19, "word count of the frame differs"; 20 is words_ok, "any word of the frame at or above two to its bits"
abbrev pub as_many_words : Content → List ℕ → Bool
as_many_words c f = eqb (length f) (frame_words c)

-- 23, "value at or above two to the width"
abbrev pub fits_width : Content → ℕ → ℕ → ℕ → Bool
fits_width c p s v = ltb v (2 ^ width (components_of c p s))

-- 10, "placing into an overlapped sample"
abbrev pub not_overlapped : Content → ℕ → ℕ → Bool
not_overlapped c p s = not (overlapped (sample_of c p s))

-- 24, "an identifier differs": in some subframe
abbrev pub identifiers_agree : Content → List ℕ → Bool
identifiers_agree c f = not (any (subframes c) (λ s. differs_in c f (s + 1)))

-- 27, "a table without parameters"
abbrev pub has_parameters : Content → Bool
has_parameters c = leb 1 (parameters c)

-- 26, "for form 1 or for an unknown margin", leading or trailing, of whatever subframe
abbrev pub tells_margins : List ℕ → Bool
tells_margins t = not (eqb (form_in t) 1) && margins_known (view t)

-- 38, "Streams go up to 65,536 bytes"
abbrev pub not_long : List ℕ → Bool
not_long y = leb (length y) longest_stream

-- 25, "exactly when no such position exists", at or after the bit to begin at
abbrev pub some_frame : Content → List ℕ → ℕ → Bool
some_frame c y from = any (8 * length y + 1) (sought_at c y from)

-- 28, "a lent word slice too short"
abbrev pub enough_words : Content → List ℕ → Bool
enough_words c w = leb (frame_words c) (length w)

-- 29, "more than 256" requests
abbrev pub few_requests : List Request → Bool
few_requests qs = leb (length qs) 256

-- 28, "a result list that is too short"
abbrev pub enough_results : List Request → List Outcome → Bool
enough_results qs rs = leb (length qs) (length rs)

-- ---- 01's order

-- 18, "bytes aren't a table"
abbrev pub check_rules : List ℕ → List Rule
check_rules t = rule 18 (accepts t) ∷ []

-- "Reading: 18, 21, 22, 19, 20."
abbrev pub read_rules : List ℕ → List ℕ → ℕ → ℕ → List Rule
read_rules t f p s =
    rule 18 (accepts t)
    ∷ rule 21 (has_parameter (view t) p)
    ∷ rule 22 (has_sample (view t) p s)
    ∷ rule 19 (as_many_words (view t) f)
    ∷ rule 20 (words_ok (view t) f)
    ∷ []

-- "Placing: the same, then 23."; 02: 10, "after 22"
abbrev pub place_rules : List ℕ → List ℕ → ℕ → ℕ → ℕ → List Rule
place_rules t f p s v =
    rule 18 (accepts t)
    ∷ rule 21 (has_parameter (view t) p)
    ∷ rule 22 (has_sample (view t) p s)
    ∷ rule 10 (not_overlapped (view t) p s)
    ∷ rule 19 (as_many_words (view t) f)
    ∷ rule 20 (words_ok (view t) f)
    ∷ rule 23 (fits_width (view t) p s v)
    ∷ []

-- "Comparing: 18, 19, 20, 24"
abbrev pub compare_rules : List ℕ → List ℕ → List Rule
compare_rules t f =
    rule 18 (accepts t)
    ∷ rule 19 (as_many_words (view t) f)
    ∷ rule 20 (words_ok (view t) f)
    ∷ rule 24 (identifiers_agree (view t) f)
    ∷ []

-- "Naming: 18, 21."
abbrev pub name_rules : List ℕ → ℕ → List Rule
name_rules t p = rule 18 (accepts t) ∷ rule 21 (has_parameter (view t) p) ∷ []

abbrev pub mnemonic_rules : List ℕ → List ℕ → List Rule
mnemonic_rules t m = rule 18 (accepts t) ∷ rule 21 (has_mnemonic (view t) m) ∷ []

-- 02: "after 18, 27 .. 38 .. then 25 .. then 28", and "26, after 27"
abbrev pub card_rules : List ℕ → List ℕ → ℕ → List ℕ → List Rule
card_rules t y from w =
    rule 18 (accepts t)
    ∷ rule 27 (has_parameters (view t))
    ∷ rule 26 (tells_margins t)
    ∷ rule 38 (not_long y)
    ∷ rule 25 (some_frame (view t) y from)
    ∷ rule 28 (enough_words (view t) w)
    ∷ []

-- how many bits a frame has is told of a table by which a card can be read
abbrev pub bits_rules : List ℕ → List Rule
bits_rules t = rule 18 (accepts t) ∷ rule 26 (tells_margins t) ∷ []

-- 02: "29 for more than 256, then 28 for a result list that is too short; both .. come before all others"
abbrev pub page_rules : List Request → List Outcome → List Rule
page_rules qs rs = rule 29 (few_requests qs) ∷ rule 28 (enough_results qs rs) ∷ []
