-- A lawful Content seen from one parameter, one sample and one component in the middle of it: the tests of 12, 14 and 15
-- pass there. Assumes nothing.
use mathlib.Core.Path.{◌≡◌, refl, sym, ap, ◌∙◌, subst}
use mathlib.Core.Bool.{true, false}
use mathlib.Core.List.{List, [], ◌∷◌, ◌++◌, append_assoc}
use Prim.Native.Nat.{ℕ, suc, ◌+◌, ◌≤◌, ◌<◌}
use native.Mathlib.Omega.{arith}
use borrow.Author.Tests.{lt-leb, le-ltb, eq-eqb}
use lib.ListN.{length, get_or, length-append, get_or-append}
use Rattle.std.specs.Prelude.{Ok}
use Rattle.lay.proofs.Tests.{and_both}
use Rattle.sample.specs.declared.component.Component.{Component as Piece}
use Rattle.sample.specs.Clash.{clash, clash_any, twice}
use Rattle.written.proofs.Tests.{neither}
use Rattle.model.specs.Content.{Content, Parameter, Sample, Component, Subframe, no_parameter, no_sample, no_component, no_subframe, parameters, component}
use Rattle.model.specs.Forms.{sheet_limits}
use Rattle.model.specs.Samples.{width_of}
use Rattle.model.specs.Rules.{bit_count, next_bits}
use Rattle.model.specs.Meaning.{Lawful, ParameterLaw, SampleLaw, ComponentLaw, NamedApart}
use Rattle.model.proofs.Meanings.{apart_made}
use Rattle.gather.specs.Book.{samples_of, components_of, all_components_of}
use Rattle.gather.specs.Tests.{spot, spots, given, last_overlap, joined_test, unlike_first, width_test, apart_from}
use Rattle.gather.proofs.Rows.{Each}
use Rattle.gather.proofs.Spots.{given_width, spots_twice}
use Rattle.gather.proofs.Joinings.{given_join, Followed, next_followed, next_none}
use Rattle.gather.proofs.Counts.{samples_counted, components_counted}

pub at_middle : {A : Type 0} (xs : List A) (x : A) (ys : List A) (d : A) → get_or (xs ++ (x ∷ ys)) (length xs) d ≡ x
at_middle [] x ys d = refl
at_middle (y ∷ xs) x ys d = at_middle xs x ys d

-- ---- counts

samples_join : (ps qs : List Parameter) → samples_of (ps ++ qs) ≡ samples_of ps + samples_of qs
unfolding samples_of
samples_join [] qs = omega arith
samples_join (p ∷ ps) qs = omega (arith, samples_join ps qs)

pub components_join : (ss ts : List Sample) → components_of (ss ++ ts) ≡ components_of ss + components_of ts
unfolding components_of
components_join [] ts = omega arith
components_join (s ∷ ss) ts = omega (arith, components_join ss ts)

all_join : (ps qs : List Parameter) → all_components_of (ps ++ qs) ≡ all_components_of ps + all_components_of qs
unfolding all_components_of
all_join [] qs = omega arith
all_join (p ∷ ps) qs = omega (arith, all_join ps qs)

-- ---- a parameter

pub each_apart : (ps : List Parameter) (q : Parameter) → Each (λ p. NamedApart p q) no_parameter ps → apart_from ps q ≡ true
unfolding apart_from
each_apart [] q h = refl
each_apart (p ∷ ps) q h = and_both (apart_made p q (h 0 (omega arith))) (each_apart ps q (λ k l. h (suc k) (omega arith)))

module _ (c : Content) (h : Lawful sheet_limits c) (ps : List Parameter) (p : Parameter) (qs : List Parameter) (e : c.parameters ≡ ps ++ (p ∷ qs)) where
  middle_here : length ps < parameters c
  middle_here = omega (arith, ap length e, length-append ps (p ∷ qs))

  middle_is : get_or c.parameters (length ps) no_parameter ≡ p
  middle_is = ap (λ (l : List Parameter). get_or l (length ps) no_parameter) e ∙ at_middle ps p qs no_parameter

  pub middle_law : ParameterLaw sheet_limits c.subframes p
  middle_law = subst (λ (q : Parameter). ParameterLaw sheet_limits c.subframes q) middle_is (h.each_parameter (length ps) middle_here)

  pub middle_room : length ps < sheet_limits.parameters
  middle_room = omega (arith, middle_here, h.few_parameters)

  pub middle_samples : samples_of ps + length p.samples ≤ sheet_limits.samples
  unfolding samples_of
  middle_samples = omega (arith, h.few_samples, samples_counted c, ap samples_of e, samples_join ps (p ∷ qs))

  pub middle_components : all_components_of ps + components_of p.samples ≤ sheet_limits.components
  unfolding all_components_of
  middle_components = omega (arith, h.few_components, components_counted c, ap all_components_of e, all_join ps (p ∷ qs))

  pub middle_apart : Each (λ q. NamedApart q p) no_parameter ps
  middle_apart k l =
      let a = h.apart (length ps) k middle_here l in
      let b : get_or c.parameters k no_parameter ≡ get_or ps k no_parameter =
      ap (λ (m : List Parameter). get_or m k no_parameter) e ∙ get_or-append ps (p ∷ qs) no_parameter k l in
      rw (b, middle_is) at a

-- ---- a sample

module _ (subs : List Subframe) (p : Parameter) (h : ParameterLaw sheet_limits subs p) (ss : List Sample) (s : Sample) (ts : List Sample) (e : p.samples ≡ ss ++ (s ∷ ts)) where
  sample_here : length ss < length p.samples
  sample_here = omega (arith, ap length e, length-append ss (s ∷ ts))

  sample_is : get_or p.samples (length ss) no_sample ≡ s
  sample_is = ap (λ (l : List Sample). get_or l (length ss) no_sample) e ∙ at_middle ss s ts no_sample

  pub sample_law : SampleLaw sheet_limits subs s
  sample_law = subst (λ (t : Sample). SampleLaw sheet_limits subs t) sample_is (h.each (length ss) sample_here)

  pub sample_room : length ss < sheet_limits.samples_each
  sample_room = omega (arith, sample_here, h.few)

  like_first : unlike_first ss s.components ≡ false
  unfolding unlike_first
  like_first = go ss refl
    where
      go : (xs : List Sample) → ss ≡ xs → unlike_first xs s.components ≡ false
      go [] q = refl
      go (r ∷ rs) q =
          let z : get_or p.samples 0 no_sample ≡ r = ap (λ (l : List Sample). get_or l 0 no_sample) (e ∙ ap (λ (l : List Sample). l ++ (s ∷ ts)) q) in
          let a : SampleLaw sheet_limits subs r = subst (λ (t : Sample). SampleLaw sheet_limits subs t) z (h.each 0 (omega (arith, sample_here))) in
          let w : width_of subs s ≡ width_of subs r =
          sym (ap (width_of subs) sample_is) ∙ h.alike (length ss) sample_here ∙ ap (width_of subs) z in
          let v = sym (given_width subs s sample_law.each) ∙ w ∙ given_width subs r a.each in
          rw (eq-eqb (given s.components) (given r.components) v)

  pub width_passes : width_test ss s.components ≡ Ok tt
  unfolding width_test
  width_passes =
      let z = next_none s (λ k l. (sample_law.overlaps k l).next) in
      let w : 1 ≤ given s.components = omega (arith, sample_law.wide, given_width subs s sample_law.each) in
      rw (eq-eqb (last_overlap s.components) 0 z, le-ltb (given s.components) 1 w, like_first)

-- ---- a component

spots_join : (cs ds : List Component) → spots (cs ++ ds) ≡ spots cs ++ spots ds
unfolding spots
spots_join [] ds = refl
spots_join (c ∷ cs) ds = ap (λ (l : List Piece). spot c ∷ l) (spots_join cs ds)

-- the components behind the first give what it overlaps
given_first : (k : Component) (ds : List Component) → Followed (k ∷ ds) → last_overlap (k ∷ ds) ≡ 0 → bit_count k ≤ given (k ∷ ds)
unfolding given last_overlap
given_first k [] h z = omega arith
given_first k (d ∷ ds) h z = omega (arith, h 0 (omega arith), given_first d ds (λ j l. h (suc j) (omega arith)) z)

followed_middle : (cs : List Component) (k : Component) (ds : List Component) → Followed (cs ++ (k ∷ ds)) → (last_overlap cs ≤ bit_count k) × Followed (k ∷ ds)
unfolding last_overlap
followed_middle [] k ds h = (omega arith, h)
followed_middle (c ∷ []) k ds h = (h 0 (omega arith), λ j l. h (suc j) (omega arith))
followed_middle (c ∷ d ∷ cs) k ds h = followed_middle (d ∷ cs) k ds (λ j l. h (suc j) (omega arith))

last_middle : (cs : List Component) (k : Component) (ds : List Component) → last_overlap (cs ++ (k ∷ ds)) ≡ last_overlap (k ∷ ds)
unfolding last_overlap
last_middle [] k ds = refl
last_middle (c ∷ []) k ds = refl
last_middle (c ∷ d ∷ cs) k ds = last_middle (d ∷ cs) k ds

any_front : (x : Piece) (xs ys : List Piece) → clash_any x (xs ++ ys) ≡ false → clash_any x xs ≡ false
unfolding clash_any
any_front x [] ys h = refl
any_front x (y ∷ xs) ys h =
    let n = neither (clash x y) (clash_any x (xs ++ ys)) h in
    rw n.0 (any_front x xs ys n.1)

twice_front : (xs ys : List Piece) → twice (xs ++ ys) ≡ false → twice xs ≡ false
unfolding twice
twice_front [] ys h = refl
twice_front (x ∷ xs) ys h =
    let n = neither (clash_any x (xs ++ ys)) (twice (xs ++ ys)) h in
    rw (any_front x xs ys n.0) (twice_front xs ys n.1)

module _ (subs : List Subframe) (small : Each (λ f. f.words ≤ sheet_limits.words) no_subframe subs) (s : Sample) (h : SampleLaw sheet_limits subs s) (cs : List Component) (k : Component) (ds : List Component) (e : s.components ≡ cs ++ (k ∷ ds)) where
  part_here : length cs < length s.components
  part_here = omega (arith, ap length e, length-append cs (k ∷ ds))

  pub part_law : ComponentLaw subs k
  part_law =
      let i : get_or s.components (length cs) no_component ≡ k =
      ap (λ (l : List Component). get_or l (length cs) no_component) e ∙ at_middle cs k ds no_component in
      subst (λ (d : Component). ComponentLaw subs d) i (h.each (length cs) part_here)

  pub part_room : length cs < sheet_limits.components_each
  part_room = omega (arith, part_here, h.few)

  next : (i : ℕ) → i < length s.components → (component s i).overlap ≤ next_bits s i
  next i l = (h.overlaps i l).next

  followed : (last_overlap cs ≤ bit_count k) × Followed (k ∷ ds)
  followed = followed_middle cs k ds (subst Followed e (next_followed s next))

  -- all its bits counted, since those behind it give what it overlaps
  part_narrow : given cs + bit_count k ≤ sheet_limits.width
  part_narrow =
      let z : last_overlap (k ∷ ds) ≡ 0 = sym (ap last_overlap e ∙ last_middle cs k ds) ∙ next_none s next in
      omega (arith, h.narrow, given_width subs s h.each, ap given e, given_join cs (k ∷ ds), given_first k ds followed.1 z)

  pub joined_passes : joined_test cs k ≡ Ok tt
  unfolding joined_test
  joined_passes =
      let q : s.components ≡ (cs ++ (k ∷ [])) ++ ds = e ∙ sym (append_assoc cs (k ∷ []) ds) in
      let j : spots s.components ≡ spots (cs ++ (k ∷ [])) ++ spots ds = ap spots q ∙ spots_join (cs ++ (k ∷ [])) ds in
      let t : twice (spots (cs ++ (k ∷ []))) ≡ false =
      twice_front (spots (cs ++ (k ∷ []))) (spots ds) (sym (ap twice j) ∙ sym (spots_twice subs small s h.each) ∙ h.once) in
      rw (
        t,
        le-ltb sheet_limits.width (given cs + bit_count k) part_narrow,
        lt-leb (bit_count k) k.overlap part_law.lapped,
        le-ltb (bit_count k) (last_overlap cs) followed.0,
      )
