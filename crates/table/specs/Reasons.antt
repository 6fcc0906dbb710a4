-- Why a call on a table is refused, with 01's and 02's numbers: the one definition of them for every call.
use Rattle.std.specs.Prelude.{ℕ, Result, Ok, Err}
use Rattle.table.specs.declared.reason.Reason.{Reason}
use Rattle.table.specs.declared.reason.Reason.TheVariants.{Overlapped, NoTable, OtherCount, HighWord, NoParameter, NoSample, TooLarge, NoFrame, UnknownMargin, NoParameters, FewWords, LongStream}

unfoldable pub reason_number : Reason → ℕ
-- 02: "placing into an overlapped sample"
reason_number Overlapped = 10
-- "bytes aren't a table"
reason_number NoTable = 18
-- "word count of the frame differs"
reason_number OtherCount = 19
-- "any word of the frame at or above two to its bits"
reason_number HighWord = 20
-- "no such parameter"
reason_number NoParameter = 21
-- "no such sample"
reason_number NoSample = 22
-- "value at or above two to the width"
reason_number TooLarge = 23
-- 02: "no such position exists"
reason_number NoFrame = 25
-- 02: "for form 1 or for an unknown margin"
reason_number UnknownMargin = 26
-- 02: "a table without parameters"
reason_number NoParameters = 27
-- 02: "a lent word slice too short"
reason_number FewWords = 28
-- 02: "a longer stream"
reason_number LongStream = 38

-- the number of a call's answer: 0 where it is not refused
abbrev pub answer_number : {A : Type 0} → Result A Reason → ℕ
answer_number (Ok _) = 0
answer_number (Err r) = reason_number r
