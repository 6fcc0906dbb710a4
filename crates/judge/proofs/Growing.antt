-- What the code counts is what the lines gather to. Assumes nothing.
use mathlib.Core.Path.{◌≡◌, refl}
use mathlib.Core.List.{List, [], ◌∷◌, ◌++◌}
use Prim.Native.Nat.{ℕ, ◌+◌}
use native.Mathlib.Omega.{arith}
use lib.ListN.{length}
use Rattle.model.specs.Content.{Parameter, Sample}
use Rattle.lineforms.specs.declared.due.Form.{Form}
use Rattle.lineforms.specs.declared.due.Form.TheVariants.{Stray, Superframe, HeaderWord, HeaderLine, RecordWord, RecordLine, NoneWord, ParameterWord, NameLine, OpeningComponent, ComponentLine, TimeLine, SamplesEnd, SignedLine, RangeLine, SourceLine, LabelLine, SourceEnd, ParameterEnd}
use Rattle.gather.specs.Book.{Book, grow, samples_of, components_of, all_components_of}
use Rattle.judge.specs.Counts.{text_of, tally_of, counted_of}

-- one more at the end
samples_snoc : (ps : List Parameter) (p : Parameter) → samples_of (ps ++ (p ∷ [])) ≡ samples_of ps + length p.samples
unfolding samples_of
samples_snoc [] p = omega arith
samples_snoc (q ∷ ps) p = omega (arith, samples_snoc ps p)

components_snoc : (ss : List Sample) (s : Sample) → components_of (ss ++ (s ∷ [])) ≡ components_of ss + length s.components
unfolding components_of
components_snoc [] s = omega arith
components_snoc (q ∷ ss) s = omega (arith, components_snoc ss s)

all_components_snoc : (ps : List Parameter) (p : Parameter) → all_components_of (ps ++ (p ∷ [])) ≡ all_components_of ps + components_of p.samples
unfolding all_components_of
all_components_snoc [] p = omega arith
all_components_snoc (q ∷ ps) p = omega (arith, all_components_snoc ps p)

text_snoc : (ps : List Parameter) (p : Parameter) → text_of (ps ++ (p ∷ [])) ≡ text_of ps + length p.name + length p.mnemonic + length p.identification
unfolding text_of
text_snoc [] p = omega arith
text_snoc (q ∷ ps) p = omega (arith, text_snoc ps p)

pub length_snoc : {A : Type 0} (l : List A) (x : A) → length (l ++ (x ∷ [])) ≡ length l + 1
length_snoc [] x = refl
length_snoc (y ∷ l) x = omega (arith, length_snoc l x)

-- where a parameter opens, none is open
abbrev pub Fresh : Form → Book → Type 0
Fresh Stray K = Unit {0}
Fresh Superframe K = Unit {0}
Fresh HeaderWord K = Unit {0}
Fresh HeaderLine K = Unit {0}
Fresh RecordWord K = Unit {0}
Fresh RecordLine K = Unit {0}
Fresh NoneWord K = Unit {0}
Fresh ParameterWord K = Unit {0}
Fresh NameLine K = K.opened.samples ≡ []
Fresh OpeningComponent K = Unit {0}
Fresh ComponentLine K = Unit {0}
Fresh TimeLine K = Unit {0}
Fresh SamplesEnd K = Unit {0}
Fresh SignedLine K = Unit {0}
Fresh RangeLine K = Unit {0}
Fresh SourceLine K = Unit {0}
Fresh LabelLine K = Unit {0}
Fresh SourceEnd K = Unit {0}
Fresh ParameterEnd K = Unit {0}

pub tally_grow : (f : Form) (l : List ℕ) (K : Book) → Fresh f K → counted_of f l (tally_of K) ≡ tally_of (grow f l K)
unfolding components_of
tally_grow Stray l K h = refl
tally_grow Superframe l K h = refl
tally_grow HeaderWord l K h = refl
tally_grow HeaderLine l K h = refl
tally_grow RecordWord l K h = refl
tally_grow RecordLine l K h = rw (length_snoc K.pairs _)
tally_grow NoneWord l K h = refl
tally_grow ParameterWord l K h = refl
tally_grow NameLine l K h = rw h
tally_grow OpeningComponent l K h =
    let n = all_components_of K.parameters + components_of K.opened.samples in
    let e : n + (length K.parts + 1) ≡ n + length K.parts + 1 = omega arith in
    rw (length_snoc K.parts _, e)
tally_grow ComponentLine l K h =
    let n = all_components_of K.parameters + components_of K.opened.samples in
    let e : n + (length K.parts + 1) ≡ n + length K.parts + 1 = omega arith in
    rw (length_snoc K.parts _, e)
tally_grow TimeLine l K h =
    let p = K.opened in
    let n = samples_of K.parameters in
    let m = all_components_of K.parameters in
    let e : n + (length p.samples + 1) ≡ n + length p.samples + 1 = omega arith in
    let d : m + (components_of p.samples + length K.parts) + 0 ≡ m + components_of p.samples + length K.parts = omega arith in
    rw (length_snoc p.samples _, components_snoc p.samples _, e, d)
tally_grow SamplesEnd l K h = refl
tally_grow SignedLine l K h = refl
tally_grow RangeLine l K h = refl
tally_grow SourceLine l K h = refl
tally_grow LabelLine l K h = refl
tally_grow SourceEnd l K h = refl
tally_grow ParameterEnd l K h =
    let p = K.opened in
    let ps = K.parameters in
    let e : samples_of ps + length p.samples + 0 ≡ samples_of ps + length p.samples = omega arith in
    let d : all_components_of ps + components_of p.samples + 0 ≡ all_components_of ps + components_of p.samples = omega arith in
    rw (length_snoc ps _, samples_snoc ps _, all_components_snoc ps _, text_snoc ps _, e, d)
