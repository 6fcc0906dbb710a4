-- Not part of the meaning: what the code keeps of the open sample and of the open parameter's first one.
use Rattle.std.specs.Prelude.{ℕ, ◌+◌, ◌-◌, ◌*◌, ◌<◌, ◌≤◌, true, false, cond, not, ◌&&◌, ◌||◌, List, [], ◌∷◌, ◌++◌, ◌≡◌, eqb, leb, ltb, Ok}
use Rattle.sample.specs.Clash.{twice}
use Rattle.sample.specs.Promise.{listed}
use Rattle.sample.specs.declared.component.Component.{Component as Piece}
use Rattle.text.specs.Refusals.{Judged, when}
use Rattle.text.specs.declared.refusal.Refusal.TheVariants.{BadSample}
use Rattle.lineforms.specs.Said.{part_in}
use Rattle.lineforms.specs.declared.due.Form.{Form}
use Rattle.lineforms.specs.declared.due.Form.TheVariants.{Stray, Superframe, HeaderWord, HeaderLine, RecordWord, RecordLine, NoneWord, ParameterWord, NameLine, OpeningComponent, ComponentLine, TimeLine, SamplesEnd, SignedLine, RangeLine, SourceLine, LabelLine, SourceEnd, ParameterEnd}
use Rattle.lineforms.specs.declared.said.Part.{Part}
use Rattle.model.specs.Forms.{sheet_limits}
use Rattle.gather.specs.Tests.{word_span}
use Rattle.judge.specs.declared.sampling.Sampling.{Sampling}

abbrev pub spot_of : Part → Piece
spot_of p = record { word = p.subframe * word_span + p.word; low = p.low; high = p.high }

-- how many bits a component has
abbrev pub bits_in : Part → ℕ
bits_in p = p.high + 1 - p.low

-- own samples before, this one's last overlap and width, the first one's width
abbrev pub width_test_in : ℕ → ℕ → ℕ → ℕ → Judged
width_test_in own lapped wide first =
    when (not (eqb lapped 0) || (ltb wide 1 || cond (eqb own 0) false (not (eqb wide first)))) BadSample

-- g with one component more, n before it
pub record Widened (g : Sampling) (p : Part) (n : ℕ) (r : Sampling) : Type 0 where
  pub count : r.spots.count ≡ g.spots.count + 1
  pub spots : listed r.spots ≡ listed g.spots ++ (spot_of p ∷ [])
  pub width : r.width ≡ g.width + (bits_in p - p.overlap)
  pub lapped : r.lapped ≡ p.overlap
  pub home : r.home ≡ cond (eqb n 0) p.subframe g.home
  pub alone : r.alone ≡ cond (eqb n 0) true (g.alone && eqb p.subframe g.home)
  pub first : r.first ≡ g.first
  pub lies : r.lies ≡ g.lies
  pub within : r.within ≡ g.within

-- g with the open sample closed, own samples before it
pub record Timed (g : Sampling) (own : ℕ) (r : Sampling) : Type 0 where
  pub count : r.spots.count ≡ 0
  pub width : r.width ≡ 0
  pub lapped : r.lapped ≡ 0
  pub home : r.home ≡ 0
  pub alone : r.alone ≡ true
  pub first : r.first ≡ cond (eqb own 0) g.width g.first
  pub lies : r.lies ≡ cond (eqb own 0) g.home g.lies
  pub within : r.within ≡ cond (eqb own 0) g.alone g.within

-- nothing of any sample
pub record Opened (r : Sampling) : Type 0 where
  pub count : r.spots.count ≡ 0
  pub width : r.width ≡ 0
  pub lapped : r.lapped ≡ 0
  pub home : r.home ≡ 0
  pub alone : r.alone ≡ true
  pub first : r.first ≡ 0
  pub lies : r.lies ≡ 0
  pub within : r.within ≡ true

-- ---- by what a line turned out to be

-- a bit twice, a width above its limit, or an overlap above its own, with one component more
abbrev pub joined_in : Sampling → Part → Judged
joined_in g p =
    when
    (twice (listed g.spots ++ (spot_of p ∷ []))
    || (ltb sheet_limits.width (g.width + bits_in p) || (leb (bits_in p) p.overlap || ltb (bits_in p) g.lapped)))
    BadSample

abbrev pub sample_in : Form → List ℕ → Sampling → ℕ → Judged
sample_in Stray l g own = Ok tt
sample_in Superframe l g own = Ok tt
sample_in HeaderWord l g own = Ok tt
sample_in HeaderLine l g own = Ok tt
sample_in RecordWord l g own = Ok tt
sample_in RecordLine l g own = Ok tt
sample_in NoneWord l g own = Ok tt
sample_in ParameterWord l g own = Ok tt
sample_in NameLine l g own = Ok tt
sample_in OpeningComponent l g own = joined_in g (part_in l)
sample_in ComponentLine l g own = joined_in g (part_in l)
sample_in TimeLine l g own = width_test_in own g.lapped g.width g.first
sample_in SamplesEnd l g own = Ok tt
sample_in SignedLine l g own = Ok tt
sample_in RangeLine l g own = Ok tt
sample_in SourceLine l g own = Ok tt
sample_in LabelLine l g own = Ok tt
sample_in SourceEnd l g own = Ok tt
sample_in ParameterEnd l g own = Ok tt

-- there is room for one component more
pub record Roomy (g : Sampling) : Type 0 where
  pub count : g.spots.count < sheet_limits.components_each
  pub width : g.width ≤ sheet_limits.width

abbrev pub Apt : Form → Sampling → Type 0
Apt Stray g = Unit {0}
Apt Superframe g = Unit {0}
Apt HeaderWord g = Unit {0}
Apt HeaderLine g = Unit {0}
Apt RecordWord g = Unit {0}
Apt RecordLine g = Unit {0}
Apt NoneWord g = Unit {0}
Apt ParameterWord g = Unit {0}
Apt NameLine g = Unit {0}
Apt OpeningComponent g = Roomy g
Apt ComponentLine g = Roomy g
Apt TimeLine g = Unit {0}
Apt SamplesEnd g = Unit {0}
Apt SignedLine g = Unit {0}
Apt RangeLine g = Unit {0}
Apt SourceLine g = Unit {0}
Apt LabelLine g = Unit {0}
Apt SourceEnd g = Unit {0}
Apt ParameterEnd g = Unit {0}

-- r is what g becomes, parts components and own samples before
abbrev pub After : Form → List ℕ → Sampling → ℕ → ℕ → Sampling → Type 0
After Stray l g parts own r = r ≡ g
After Superframe l g parts own r = r ≡ g
After HeaderWord l g parts own r = r ≡ g
After HeaderLine l g parts own r = r ≡ g
After RecordWord l g parts own r = r ≡ g
After RecordLine l g parts own r = r ≡ g
After NoneWord l g parts own r = r ≡ g
After ParameterWord l g parts own r = r ≡ g
After NameLine l g parts own r = Opened r
After OpeningComponent l g parts own r = Widened g (part_in l) parts r
After ComponentLine l g parts own r = Widened g (part_in l) parts r
After TimeLine l g parts own r = Timed g own r
After SamplesEnd l g parts own r = r ≡ g
After SignedLine l g parts own r = r ≡ g
After RangeLine l g parts own r = r ≡ g
After SourceLine l g parts own r = r ≡ g
After LabelLine l g parts own r = r ≡ g
After SourceEnd l g parts own r = r ≡ g
After ParameterEnd l g parts own r = Opened r
