-- A line that passes leaves known what has to be known for what is due next. Assumes nothing.
use mathlib.Core.Path.{◌≡◌}
use mathlib.Core.Bool.{true}
use mathlib.Core.List.{List}
use Prim.Native.Nat.{ℕ}
use Rattle.std.specs.Prelude.{Ok}
use Rattle.lines.specs.Order.{line_judged}
use Rattle.lineforms.specs.Forms.{due_after}
use Rattle.lineforms.specs.declared.due.Due.{Due}
use Rattle.lineforms.specs.declared.due.Form.{Form}
use Rattle.lineforms.specs.declared.due.Form.TheVariants as form
use Rattle.gather.specs.Book.{Book, grow}
use Rattle.gather.specs.Tests.{tests_of}
use Rattle.gather.specs.Ruling.{form_at}
use Rattle.gather.proofs.Sound.{Sound, Told}
use Rattle.gather.proofs.Tellings.{told}
use Rattle.gather.proofs.Headings.{passed, heads, records, opens_parameter, names_parameter}
use Rattle.gather.proofs.Samplings.{opens_sample, parts_sample, times_sample}
use Rattle.gather.proofs.Endings.{signs, ranges, ends_parameter}

told_step : (f : Form) (K : Book) (l : List ℕ) → Told f K → line_judged true l (tests_of f K l) ≡ Ok tt → Sound (due_after f) (grow f l K)
told_step form.Stray K l h e = absurd (cc (passed form.Stray K l e 3))
told_step form.Superframe K l h e = absurd (cc (passed form.Superframe K l e 3))
told_step form.HeaderWord K l h e = h
told_step form.HeaderLine K l h e = heads K l h e
told_step form.RecordWord K l h e = h
told_step form.RecordLine K l h e = records K l h e
told_step form.NoneWord K l h e = h
told_step form.ParameterWord K l h e = opens_parameter K l h e
told_step form.NameLine K l h e = names_parameter K l h e
told_step form.OpeningComponent K l h e = opens_sample K l h e
told_step form.ComponentLine K l h e = parts_sample K l h e
told_step form.TimeLine K l h e = times_sample K l h e
told_step form.SamplesEnd K l h e = h
told_step form.SignedLine K l h e = signs K l h
told_step form.RangeLine K l h e = ranges K l h e
told_step form.SourceLine K l h e = h
told_step form.LabelLine K l h e = h
told_step form.SourceEnd K l h e = h
told_step form.ParameterEnd K l h e = ends_parameter K l h

pub sound_step : (d : Due) (K : Book) (l : List ℕ) → Sound d K → line_judged true l (tests_of (form_at d K l) K l) ≡ Ok tt → Sound (due_after (form_at d K l)) (grow (form_at d K l) l K)
sound_step d K l h e = told_step (form_at d K l) K l (told K l d h) e
