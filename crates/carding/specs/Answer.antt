-- What reading a card answers, with 02's numbers: "after 18, 27 .. 38 .. 25 .. 28", and "26, after 27".
use Rattle.std.specs.Prelude.{◌≡◌, ◌⊎◌, Bool, cond, ◌&&◌, List, ℕ, ◌<◌, eqb, leb, length, Result, Ok, Err}
use Rattle.lay.specs.Below.{all}
use Rattle.lay.specs.Bytes.{put}
use Rattle.model.specs.Margin.{Unknown, is_known}
use Rattle.model.specs.Content.{Content, subframe, subframes, parameters}
use Rattle.model.specs.Forms.{limits_in}
use Rattle.model.specs.Frame.{frame_words}
use Rattle.model.specs.View.{view}
use Rattle.model.specs.Accepts.{accepts}
use Rattle.carding.specs.declared.carded.Found.{Found}
use Rattle.table.specs.declared.reason.Reason.{Reason}
use Rattle.table.specs.declared.reason.Reason.TheVariants.{NoTable, UnknownMargin, NoParameters, LongStream, NoFrame, FewWords}
use Rattle.table.specs.Reasons.{answer_number}
use Rattle.carding.specs.Layout.{frame_bits, frame_at}
use Rattle.carding.specs.Search.{position_from, found_from}

-- "Streams go up to 65,536 bytes"
abbrev pub longest_stream : ℕ
longest_stream = 65536

-- a frame, or why there is none
abbrev pub Carded : Type 0
Carded = Result Found Reason

-- p bits stand before the frame, and it has n words
abbrev pub found_at : ℕ → ℕ → Carded
found_at p n = Ok (record { position = p; count = n })

-- 25, "no such position exists"; 28, "a lent word slice too short"
unfoldable pub searched : Content → List ℕ → ℕ → List ℕ → Carded
searched c y from words =
    cond (found_from c y from)
    (cond (leb (frame_words c) (length words)) (found_at (position_from c y from) (frame_words c)) (Err FewWords))
    (Err NoFrame)

-- no margin of the subframes, leading or trailing, is unknown
unfoldable pub margins_known : Content → Bool
margins_known c = all (subframes c) (λ i. is_known (subframe c i).leading && is_known (subframe c i).trailing)

-- some margin is: laws say it beside the test
pub record SomeUnknown (c : Content) : Type 0 where
  pub at : ℕ
  pub here : at < subframes c
  pub unknown : ((subframe c at).leading ≡ Unknown) ⊎ ((subframe c at).trailing ≡ Unknown)

-- "Form 1 tables .. nobody can tell what their zeros meant": the table's form has a way to say that a margin is unknown, and
-- the table says so of none
unfoldable pub margins_told : List ℕ → Bool
margins_told b = (limits_in b).blank && margins_known (view b)

-- 27, "a table without parameters"; 26, "after 27, for form 1 or for an unknown margin"; 38, "a longer stream"
unfoldable pub carded_in : Bool → Content → List ℕ → ℕ → List ℕ → Carded
carded_in told c y from words =
    cond (eqb (parameters c) 0) (Err NoParameters)
    (cond told (cond (leb (length y) longest_stream) (searched c y from words) (Err LongStream)) (Err UnknownMargin))

unfoldable pub carded_of : List ℕ → List ℕ → ℕ → List ℕ → Carded
carded_of b y from words = cond (accepts b) (carded_in (margins_told b) (view b) y from words) (Err NoTable)

-- "hand out that frame's words"; "words beyond the frame stay", and all where the card is refused
unfoldable pub handed_for : Content → List ℕ → List ℕ → Carded → List ℕ
handed_for c y words (Ok f) = put words 0 (frame_at c y f.position)
handed_for c y words (Err r) = words

unfoldable pub handed_of : List ℕ → List ℕ → ℕ → List ℕ → List ℕ
handed_of b y from words = handed_for (view b) y words (carded_of b y from words)

-- 02's number; 0 for a frame
unfoldable pub carded_number : Carded → ℕ
carded_number c = answer_number c

-- how many bits a frame of the table has: a card's next frame is looked for so many bits behind the last one's position. 0 where
-- nobody can tell
unfoldable pub bits_of_frame : List ℕ → ℕ
bits_of_frame b = cond (accepts b && margins_told b) (frame_bits (view b)) 0
