-- Not part of the meaning: what the code keeps of a record pair and of a parameter.
use Rattle.std.specs.Prelude.{ℕ, ◌^◌, List, Bool, true, false, cond, not, ◌&&◌, eqb, ltb, length, get_or}
use Rattle.lay.specs.Below.{all}
use Rattle.lineforms.specs.Said.{pair_in}
use Rattle.lineforms.specs.declared.due.Form.{Form}
use Rattle.lineforms.specs.declared.due.Form.TheVariants.{Stray, Superframe, HeaderWord, HeaderLine, RecordWord, RecordLine, NoneWord, ParameterWord, NameLine, OpeningComponent, ComponentLine, TimeLine, SamplesEnd, SignedLine, RangeLine, SourceLine, LabelLine, SourceEnd, ParameterEnd}
use Rattle.model.specs.Content.{Parameter, Component, no_component, sample}
use Rattle.gather.specs.Tests.{given}
use Rattle.judge.specs.declared.sampling.Sampling.{Sampling}
use Rattle.judge.specs.declared.tally.Tally.{Tally}

-- only a record line says words and bits; of another line 0 is kept
abbrev pub is_record_line : Form → Bool
is_record_line Stray = false
is_record_line Superframe = false
is_record_line HeaderWord = false
is_record_line HeaderLine = false
is_record_line RecordWord = false
is_record_line RecordLine = true
is_record_line NoneWord = false
is_record_line ParameterWord = false
is_record_line NameLine = false
is_record_line OpeningComponent = false
is_record_line ComponentLine = false
is_record_line TimeLine = false
is_record_line SamplesEnd = false
is_record_line SignedLine = false
is_record_line RangeLine = false
is_record_line SourceLine = false
is_record_line LabelLine = false
is_record_line SourceEnd = false
is_record_line ParameterEnd = false

abbrev pub words_said : Form → List ℕ → ℕ
words_said f l = cond (is_record_line f) (pair_in l).words 0

abbrev pub bits_said : Form → List ℕ → ℕ
bits_said f l = cond (is_record_line f) (pair_in l).bits 0

-- ---- of a parameter

-- the subframe of the first component; whether all lie there
unfoldable pub home_in : List Component → ℕ
home_in cs = (get_or cs 0 no_component).subframe

unfoldable pub alone_in : List Component → Bool
alone_in cs = all (length cs) (λ k. eqb (get_or cs k no_component).subframe (home_in cs))

unfoldable pub is_good : Parameter → Bool
is_good p =
    p.identifier
    && (eqb (length p.samples) 1
    && (alone_in (sample p 0).components
    && (not p.signed && ltb p.value (2 ^ given (sample p 0).components))))

unfoldable pub home_of : Parameter → ℕ
home_of p = home_in (sample p 0).components

-- an identifier that alone is in order, by what is counted and kept of the open parameter
unfoldable pub good_in : Tally → Sampling → Bool
good_in x g =
    x.identifier && (eqb x.own 1 && (g.within && (not x.signed && ltb x.value (2 ^ g.first))))
