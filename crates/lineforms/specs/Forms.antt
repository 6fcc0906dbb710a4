-- What a line turns out to be where something is due: 01, "Lines of a sheet". A stray line is 5; "a two-field line here is a
-- superframe line: 10".
use Rattle.std.specs.Prelude.{ℕ, List, cond, eqb}
use Rattle.text.specs.Fields.{field_count}
use Rattle.text.specs.Keywords.{keyword_of}
use Rattle.text.specs.declared.keyword.Keyword.{Keyword}
use Rattle.text.specs.declared.keyword.Keyword.TheVariants as keyword
use Rattle.lineforms.specs.declared.due.Due.{Due}
use Rattle.lineforms.specs.declared.due.Due.TheVariants as due
use Rattle.lineforms.specs.declared.due.Form.{Form}
use Rattle.lineforms.specs.declared.due.Form.TheVariants.{Stray, Superframe, HeaderWord, HeaderLine, RecordWord, RecordLine, NoneWord, ParameterWord, NameLine, OpeningComponent, ComponentLine, TimeLine, SamplesEnd, SignedLine, RangeLine, SourceLine, LabelLine, SourceEnd, ParameterEnd}

abbrev pub by_keyword : Keyword → Form → Form → Form → Form → Form
by_keyword keyword.Header h r n p = h
by_keyword keyword.Record h r n p = r
by_keyword keyword.Nothing h r n p = n
by_keyword keyword.Parameter h r n p = p
by_keyword keyword.Other h r n p = Stray

-- what a line is that should be HEADER:, RECORD:, NONE or PARAMETER:
unfoldable pub word_form : List ℕ → Form → Form → Form → Form → Form
word_form l h r n p = by_keyword (keyword_of l) h r n p

-- a line of n fields
unfoldable pub count_form : List ℕ → ℕ → Form → Form
count_form l n f = cond (eqb (field_count l) n) f Stray

unfoldable pub either_form : List ℕ → ℕ → Form → ℕ → Form → Form
either_form l n f m g = cond (eqb (field_count l) n) f (count_form l m g)

-- "One such pair for all subframes, or S pairs, also when alike; any other number is 5 at the first line that departs."
unfoldable pub opening_form : List ℕ → ℕ → ℕ → Form
opening_form l pairs subframes =
    cond (eqb pairs subframes) (word_form l Stray Stray NoneWord ParameterWord)
    (cond (eqb pairs 1) (word_form l Stray RecordWord NoneWord ParameterWord)
    (word_form l Stray RecordWord Stray Stray))

unfoldable pub after_sample_form : List ℕ → Form
after_sample_form l = cond (eqb (field_count l) 2) Superframe (either_form l 4 OpeningComponent 0 SamplesEnd)

-- after so many record pairs of so many subframes
unfoldable pub form_of : Due → ℕ → ℕ → List ℕ → Form
form_of due.HeaderWord k s l = word_form l HeaderWord Stray Stray Stray
form_of due.HeaderLine k s l = count_form l 14 HeaderLine
form_of due.RecordWord k s l = word_form l Stray RecordWord Stray Stray
form_of due.RecordLine k s l = count_form l 5 RecordLine
form_of due.Opening k s l = opening_form l k s
form_of due.NameLine k s l = count_form l 7 NameLine
form_of due.FirstComponent k s l = count_form l 4 OpeningComponent
form_of due.NextComponent k s l = either_form l 4 ComponentLine 1 TimeLine
form_of due.AfterSample k s l = after_sample_form l
form_of due.SignedLine k s l = count_form l 5 SignedLine
form_of due.RangeLine k s l = count_form l 4 RangeLine
form_of due.SourceLine k s l = count_form l 3 SourceLine
form_of due.AfterSource k s l = either_form l 4 LabelLine 0 SourceEnd
form_of due.SourceBlank k s l = count_form l 0 SourceEnd
form_of due.AfterSourceBlank k s l = either_form l 3 SourceLine 0 ParameterEnd
form_of due.NextParameter k s l = word_form l Stray Stray Stray ParameterWord
form_of due.Nothing k s l = Stray

-- what is due after a line; a stray line is refused, so nothing matters after it
abbrev pub due_after : Form → Due
due_after Stray = due.Nothing
due_after Superframe = due.Nothing
due_after HeaderWord = due.HeaderLine
due_after HeaderLine = due.RecordWord
due_after RecordWord = due.RecordLine
due_after RecordLine = due.Opening
due_after NoneWord = due.Nothing
due_after ParameterWord = due.NameLine
due_after NameLine = due.FirstComponent
due_after OpeningComponent = due.NextComponent
due_after ComponentLine = due.NextComponent
due_after TimeLine = due.AfterSample
due_after SamplesEnd = due.SignedLine
due_after SignedLine = due.RangeLine
due_after RangeLine = due.SourceLine
due_after SourceLine = due.AfterSource
due_after LabelLine = due.SourceBlank
due_after SourceEnd = due.AfterSourceBlank
due_after ParameterEnd = due.NextParameter
