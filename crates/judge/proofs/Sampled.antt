-- What the code keeps of the open sample and of the first whole one is what was gathered. Assumes nothing.
use mathlib.Core.Path.{◌≡◌, refl, sym, ap, ap₂, ◌∙◌}
use mathlib.Core.Bool.{true, false, cond, not, ◌&&◌}
use mathlib.Core.List.{List, [], ◌∷◌, ◌++◌}
use Prim.Native.Nat.{ℕ, zero, suc, ◌+◌, ◌-◌, ◌≤◌, ◌<◌}
use native.Mathlib.Omega.{arith}
use borrow.Author.Tests.{eq-eqb, ne_eqb}
use lib.Dec.{eqb}
use lib.ListN.{length, get_or, take}
use Rattle.lay.specs.Below.{all}
use Rattle.lay.proofs.Below.{all_same}
use Rattle.sample.specs.declared.component.Component.{Component as Piece}
use Rattle.sample.specs.Promise.{listed}
use Rattle.lineforms.specs.Said.{part_in}
use Rattle.lineforms.specs.declared.due.Form.{Form}
use Rattle.lineforms.specs.declared.due.Form.TheVariants.{Stray, Superframe, HeaderWord, HeaderLine, RecordWord, RecordLine, NoneWord, ParameterWord, NameLine, OpeningComponent, ComponentLine, TimeLine, SamplesEnd, SignedLine, RangeLine, SourceLine, LabelLine, SourceEnd, ParameterEnd}
use Rattle.model.specs.Content.{Component, Sample, no_component, no_sample}
use Rattle.model.specs.Forms.{sheet_limits}
use Rattle.gather.specs.Book.{Book, grow, component_of}
use Rattle.gather.specs.Tests.{spot, spots, given, last_overlap, joined_test, unlike_first, width_test, sample_test}
use Rattle.gather.proofs.Joinings.{given_more}
use Rattle.gather.proofs.Sound.{Told}
use Rattle.judge.specs.Counts.{tally_of}
use Rattle.judge.specs.Keeping.{home_in, alone_in}
use Rattle.judge.specs.LineTests.{Fitting}
use Rattle.judge.specs.Sampling.{bits_in, spot_of, Widened, Timed, Opened, joined_in, width_test_in, sample_in, After}
use Rattle.judge.specs.declared.sampling.Sampling.{Sampling}

-- ---- one component more

spots_snoc : (cs : List Component) (c : Component) → spots (cs ++ (c ∷ [])) ≡ spots cs ++ (spot c ∷ [])
unfolding spots
spots_snoc [] c = refl
spots_snoc (d ∷ cs) c = ap (λ (l : List Piece). spot d ∷ l) (spots_snoc cs c)

last_snoc : (cs : List Component) (c : Component) → last_overlap (cs ++ (c ∷ [])) ≡ c.overlap
unfolding last_overlap
last_snoc [] c = refl
last_snoc (d ∷ []) c = refl
last_snoc (d ∷ e ∷ cs) c = last_snoc (e ∷ cs) c

get_d_front : (cs : List Component) (c : Component) (k : ℕ) → k < length cs → get_or (cs ++ (c ∷ [])) k no_component ≡ get_or cs k no_component
get_d_front [] c k h = absurd (omega arith)
get_d_front (d ∷ cs) c zero h = refl
get_d_front (d ∷ cs) c (suc k) h = get_d_front cs c k (omega arith)

get_or_last : (cs : List Component) (c : Component) → get_or (cs ++ (c ∷ [])) (length cs) no_component ≡ c
get_or_last [] c = refl
get_or_last (d ∷ cs) c = get_or_last cs c

length_last : (cs : List Component) (c : Component) → length (cs ++ (c ∷ [])) ≡ suc (length cs)
length_last [] c = refl
length_last (d ∷ cs) c = ap suc (length_last cs c)

some : (n : ℕ) → eqb (suc n) 0 ≡ false
some n = ne_eqb (suc n) 0 (λ e. omega arith)

home_snoc : (cs : List Component) (c : Component) → home_in (cs ++ (c ∷ [])) ≡ cond (eqb (length cs) 0) c.subframe (home_in cs)
unfolding home_in
home_snoc [] c = refl
home_snoc (d ∷ cs) c = rw (some (length cs))

-- whether all of them lie in one subframe
lying : (cs : List Component) (c : Component) (s : ℕ)
    → all (length (cs ++ (c ∷ []))) (λ k. eqb (get_or (cs ++ (c ∷ [])) k no_component).subframe s) ≡ (all (length cs) (λ k. eqb (get_or cs k no_component).subframe s) && eqb c.subframe s)
lying cs c s =
    ap (λ (n : ℕ). all n (λ k. eqb (get_or (cs ++ (c ∷ [])) k no_component).subframe s)) (length_last cs c)
    ∙ ap₂ ◌&&◌
    (all_same (length cs) (λ k. eqb (get_or (cs ++ (c ∷ [])) k no_component).subframe s) (λ k. eqb (get_or cs k no_component).subframe s) (λ k l. ap (λ (d : Component). eqb d.subframe s) (get_d_front cs c k l)))
    (ap (λ (d : Component). eqb d.subframe s) (get_or_last cs c))

alone_snoc : (cs : List Component) (c : Component) → alone_in (cs ++ (c ∷ [])) ≡ cond (eqb (length cs) 0) true (alone_in cs && eqb c.subframe (home_in cs))
unfolding alone_in home_in
alone_snoc [] c = eq-eqb c.subframe c.subframe refl
alone_snoc (d ∷ cs) c = rw (some (length cs)) (lying (d ∷ cs) c d.subframe)

-- ---- what is kept

pub record OfParts (g : Sampling) (cs : List Component) : Type 0 where
  pub count : g.spots.count ≡ length cs
  pub side : listed g.spots ≡ spots cs
  pub wide : g.width ≡ given cs
  pub lapped : g.lapped ≡ last_overlap cs
  pub home : g.home ≡ home_in cs
  pub alone : g.alone ≡ alone_in cs

abbrev front : List Sample → List Component
front ss = (get_or ss 0 no_sample).components

pub record OfFirst (g : Sampling) (ss : List Sample) : Type 0 where
  pub first : g.first ≡ given (front ss)
  pub lies : g.lies ≡ home_in (front ss)
  pub within : g.within ≡ alone_in (front ss)

pub record Sampled (g : Sampling) (K : Book) : Type 0 where
  pub parts : OfParts g K.parts
  pub whole : OfFirst g K.opened.samples

module _ (g r : Sampling) where
  parts_more : (l : List ℕ) (cs : List Component) (n : ℕ) → n ≡ length cs → OfParts g cs → Widened g (part_in l) n r → OfParts r (cs ++ (component_of l ∷ []))
  parts_more l cs n e h w =
      record {
        count = w.count ∙ (ap (λ (k : ℕ). k + 1) h.count ∙ one cs);
        side = w.spots ∙ (ap (λ (k : List Piece). k ++ (spot_of (part_in l) ∷ [])) h.side ∙ sym (spots_snoc cs (component_of l)));
        wide = w.width ∙ (ap (λ (k : ℕ). k + (bits_in (part_in l) - (part_in l).overlap)) h.wide ∙ sym (given_more cs (component_of l)));
        lapped = w.lapped ∙ sym (last_snoc cs (component_of l));
        home = w.home ∙ (ap₂ (λ (k m : ℕ). cond (eqb k 0) (part_in l).subframe m) e h.home ∙ sym (home_snoc cs (component_of l)));
        alone = w.alone ∙ (rw (e, h.alone, h.home) (sym (alone_snoc cs (component_of l))));
      }
    where
      one : (ds : List Component) → length ds + 1 ≡ length (ds ++ (component_of l ∷ []))
      one ds = omega (arith, length_last ds (component_of l))

  parts_none : r.spots.count ≡ 0 → r.width ≡ 0 → r.lapped ≡ 0 → r.home ≡ 0 → r.alone ≡ true → OfParts r []
  unfolding spots given last_overlap home_in alone_in
  parts_none a b o c d = record { count = a; side = ap (λ (k : ℕ). take k r.spots.list) a; wide = b; lapped = o; home = c; alone = d }

  first_none : r.first ≡ 0 → r.lies ≡ 0 → r.within ≡ true → OfFirst r []
  unfolding given home_in alone_in
  first_none a b c = record { first = a; lies = b; within = c }

  first_more : (cs : List Component) (ss : List Sample) (n t : ℕ) → n ≡ length ss → OfParts g cs → OfFirst g ss → Timed g n r → OfFirst r (ss ++ (record { time = t; components = cs } ∷ []))
  first_more cs [] n t e h i w = record { first = w.first ∙ rw (e, h.wide); lies = w.lies ∙ rw (e, h.home); within = w.within ∙ rw (e, h.alone) }
  first_more cs (s ∷ ss) n t e h i w = record { first = w.first ∙ rw (e, some (length ss)) i.first; lies = w.lies ∙ rw (e, some (length ss)) i.lies; within = w.within ∙ rw (e, some (length ss)) i.within }

  kept_first : (ss : List Sample) → r.first ≡ g.first → r.lies ≡ g.lies → r.within ≡ g.within → OfFirst g ss → OfFirst r ss
  kept_first ss a b c h = record { first = a ∙ h.first; lies = b ∙ h.lies; within = c ∙ h.within }

  sampled_same : (K L : Book) → r ≡ g → L.parts ≡ K.parts → L.opened.samples ≡ K.opened.samples → Sampled g K → Sampled r L
  sampled_same K L e p q h = rw e (record { parts = rw p h.parts; whole = rw q h.whole })

  sampled_parted : (l : List ℕ) (K : Book) (n : ℕ) → n ≡ length K.parts → Widened g (part_in l) n r → Sampled g K → Sampled r (grow ComponentLine l K)
  sampled_parted l K n e w h =
      record { parts = parts_more l K.parts n e h.parts w; whole = kept_first K.opened.samples w.first w.lies w.within h.whole }

pub sampled_none : (r : Sampling) (K : Book) → Opened r → K.parts ≡ [] → K.opened.samples ≡ [] → Sampled r K
sampled_none r K o p q =
    record {
      parts = rw p (parts_none r r o.count o.width o.lapped o.home o.alone);
      whole = rw q (first_none r r o.first o.lies o.within);
    }

pub sampled_step : (f : Form) (l : List ℕ) (K : Book) (g r : Sampling) (n m : ℕ) → n ≡ length K.parts → m ≡ length K.opened.samples → Told f K → Sampled g K → After f l g n m r → Sampled r (grow f l K)
sampled_step Stray l K g r n m a b t h w = sampled_same g r K (grow Stray l K) w refl refl h
sampled_step Superframe l K g r n m a b t h w = sampled_same g r K (grow Superframe l K) w refl refl h
sampled_step HeaderWord l K g r n m a b t h w = sampled_same g r K (grow HeaderWord l K) w refl refl h
sampled_step HeaderLine l K g r n m a b t h w = sampled_same g r K (grow HeaderLine l K) w refl refl h
sampled_step RecordWord l K g r n m a b t h w = sampled_same g r K (grow RecordWord l K) w refl refl h
sampled_step RecordLine l K g r n m a b t h w = sampled_same g r K (grow RecordLine l K) w refl refl h
sampled_step NoneWord l K g r n m a b t h w = sampled_same g r K (grow NoneWord l K) w refl refl h
sampled_step ParameterWord l K g r n m a b t h w = sampled_same g r K (grow ParameterWord l K) w refl refl h
sampled_step NameLine l K g r n m a b t h w = sampled_none r (grow NameLine l K) w t.between.no_parts refl
sampled_step OpeningComponent l K g r n m a b t h w = (let z = sampled_parted g r l K n a w h in record { parts = z.parts; whole = z.whole })
sampled_step ComponentLine l K g r n m a b t h w = sampled_parted g r l K n a w h
sampled_step TimeLine l K g r n m a b t h w = record { parts = parts_none r r w.count w.width w.lapped w.home w.alone; whole = first_more g r K.parts K.opened.samples m _ b h.parts h.whole w }
sampled_step SamplesEnd l K g r n m a b t h w = sampled_same g r K (grow SamplesEnd l K) w refl refl h
sampled_step SignedLine l K g r n m a b t h w = sampled_same g r K (grow SignedLine l K) w refl refl h
sampled_step RangeLine l K g r n m a b t h w = sampled_same g r K (grow RangeLine l K) w refl refl h
sampled_step SourceLine l K g r n m a b t h w = sampled_same g r K (grow SourceLine l K) w refl refl h
sampled_step LabelLine l K g r n m a b t h w = sampled_same g r K (grow LabelLine l K) w refl refl h
sampled_step SourceEnd l K g r n m a b t h w = sampled_same g r K (grow SourceEnd l K) w refl refl h
sampled_step ParameterEnd l K g r n m a b t h w = sampled_none r (grow ParameterEnd l K) w t.closed.no_parts refl

-- ---- 14

joined_is : (g : Sampling) (l : List ℕ) (cs : List Component) → OfParts g cs → joined_in g (part_in l) ≡ joined_test cs (component_of l)
unfolding joined_test
joined_is g l cs h = rw (h.side, h.wide, h.lapped, spots_snoc cs (component_of l))

like_first : (g : Sampling) (cs : List Component) (ss : List Sample) (m : ℕ) → m ≡ length ss → OfParts g cs → OfFirst g ss → cond (eqb m 0) false (not (eqb g.width g.first)) ≡ unlike_first ss cs
unfolding unlike_first
like_first g cs [] m e h i = rw e
like_first g cs (s ∷ ss) m e h i = rw (e, some (length ss), h.wide, i.first)

width_is : (g : Sampling) (cs : List Component) (ss : List Sample) (m : ℕ) → m ≡ length ss → OfParts g cs → OfFirst g ss → width_test_in m g.lapped g.width g.first ≡ width_test ss cs
unfolding width_test
width_is g cs ss m e h i = rw (like_first g cs ss m e h i, h.lapped, h.wide)

pub sample_is : (f : Form) (l : List ℕ) (K : Book) (g : Sampling) (m : ℕ) → m ≡ length K.opened.samples → Sampled g K → sample_in f l g m ≡ sample_test f K l
sample_is Stray l K g m e h = refl
sample_is Superframe l K g m e h = refl
sample_is HeaderWord l K g m e h = refl
sample_is HeaderLine l K g m e h = refl
sample_is RecordWord l K g m e h = refl
sample_is RecordLine l K g m e h = refl
sample_is NoneWord l K g m e h = refl
sample_is ParameterWord l K g m e h = refl
sample_is NameLine l K g m e h = refl
sample_is OpeningComponent l K g m e h = joined_is g l K.parts h.parts
sample_is ComponentLine l K g m e h = joined_is g l K.parts h.parts
sample_is TimeLine l K g m e h = width_is g K.parts K.opened.samples m e h.parts h.whole
sample_is SamplesEnd l K g m e h = refl
sample_is SignedLine l K g m e h = refl
sample_is RangeLine l K g m e h = refl
sample_is SourceLine l K g m e h = refl
sample_is LabelLine l K g m e h = refl
sample_is SourceEnd l K g m e h = refl
sample_is ParameterEnd l K g m e h = refl

none_narrow : (g : Sampling) (cs : List Component) → OfParts g cs → cs ≡ [] → (g.spots.count ≡ 0) × (g.width ≤ sheet_limits.width)
unfolding given
none_narrow g cs h e = (h.count ∙ ap length e, let z : g.width ≡ 0 = h.wide ∙ ap given e in omega arith)

pub fitting : (f : Form) (K : Book) (g : Sampling) → Told f K → Sampled g K → Fitting f (tally_of K) g
fitting Stray K g t h = tt
fitting Superframe K g t h = tt
fitting HeaderWord K g t h = tt
fitting HeaderLine K g t h = tt
fitting RecordWord K g t h = tt
fitting RecordLine K g t h = tt
fitting NoneWord K g t h = tt
fitting ParameterWord K g t h = tt
fitting NameLine K g t h = tt
fitting OpeningComponent K g t h = (let z = none_narrow g K.parts h.parts t.no_parts in record { count = z.0; width = z.1 })
fitting ComponentLine K g t h = record { count = h.parts.count; width = omega (arith, h.parts.wide, t.parted.narrow) }
fitting TimeLine K g t h = tt
fitting SamplesEnd K g t h = tt
fitting SignedLine K g t h = tt
fitting RangeLine K g t h = tt
fitting SourceLine K g t h = tt
fitting LabelLine K g t h = tt
fitting SourceEnd K g t h = tt
fitting ParameterEnd K g t h = tt
