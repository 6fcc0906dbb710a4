-- Each item at its place: what the functions that open and read a table need, for every item of every form. Assumes nothing.
use Prim.Native.Nat.{ℕ, ◌+◌, ◌*◌, ◌≤◌, ◌<◌}
use mathlib.Core.Path.{◌≡◌, refl, ap, ap₂, ◌∙◌}
use mathlib.Core.Bool.{true}
use mathlib.Core.Logic.{⊎_elim}
use mathlib.Core.List.{List}
use native.Mathlib.Numerals.{add-one}
use native.Mathlib.Omega.{arith}
use borrow.Author.Tests.{eqb-true}
use lib.Dec.{eqb}
use lib.ListN.{length}
use Rattle.lay.specs.Bytes.{num_at}
use Rattle.lay.specs.Slots.{span, plain, long, wide_of, item_at}
use Rattle.lay.specs.Layout.{Layout, slots_of, many_parts, start_by, end_by, offset_by, entry_by, head_in, item_in}
use Rattle.lay.specs.Reading.{place_of}
use Rattle.lay.specs.declared.item.Place.{Place}
use Rattle.lay.proofs.Tests.{or_either}
use Rattle.lay.proofs.Slots.{item_ends, wide_plain}
use Rattle.lay.proofs.Layouts.{start_same, start_most, row_ends, times_ends, entry_ends}
use Rattle.model.specs.Items as item
use Rattle.model.specs.Items.{subframe_part, parameter_part, sample_part, component_part, parts, parts_of_all, entry_items}
use Rattle.model.specs.Forms.{known, layout_of, limits_of, form_in, layout_in, limits_in}
use Rattle.model.specs.Sound.{most, Sound}
use Rattle.model.specs.Stored.{header_in, count_in, offset_in, part_start, text_part}
use Rattle.model.specs.Facts.{Formed, Sized, Head}
use Rattle.model.proofs.Rows.{each_part, known_sound}
use Rattle.model.proofs.Laying.{formed_sound}
use Rattle.stored.specs.Entry.{HeaderOf, CountsOf, counts_by, Few, StartsBy, StartsOf, OpenedOf}
use Rattle.stored.specs.Shapes.{subframe_shape, parameter_shape, sample_shape, component_shape, bounds_of, limits_by}
use Rattle.stored.specs.declared.forms.Bounds.{Bounds}
use Rattle.stored.specs.declared.forms.SubframeShape.{SubframeShape}
use Rattle.stored.specs.declared.forms.ParameterShape.{ParameterShape}
use Rattle.stored.specs.declared.forms.SampleShape.{SampleShape}
use Rattle.stored.specs.declared.forms.ComponentShape.{ComponentShape}
use Rattle.stored.specs.declared.items.Header.{Header}
use Rattle.stored.specs.declared.items.Counts.{Counts}
use Rattle.stored.specs.declared.items.Starts.{Starts}
use Rattle.stored.specs.declared.items.Opened.{Opened}

-- ---- the limits as the code has them

pub bounds_are : (b : List ℕ) {f : ℕ} {m : Bounds} → f ≡ form_in b → m ≡ bounds_of (limits_of f) → limits_by m ≡ limits_in b
unfolding limits_in
bounds_are b {f} {m} e q = ap limits_by q ∙ ap limits_of e

-- ---- the header

-- f is the form of these bytes
module _ {b : List ℕ} {f : ℕ} (h : Formed b) (e : f ≡ form_in b) where
  pub known_here : known f ≡ true
  known_here = rw e h.known

  layout_here : layout_of f ≡ layout_in b
  unfolding layout_in
  layout_here = ap layout_of e

  pub head_place : (k : ℕ) (p : Place) → p ≡ place_of (layout_of f).header k → (0 + p.at + p.wide ≤ length b) × (plain p.wide ≡ true)
  head_place k p q =
      let s = known_sound f known_here in
      let i = item_ends (layout_of f).header k in
      let l = ap (λ (L : Layout). span L.header) layout_here in
      let a = ap (λ (p : Place). p.at) q in
      let w = ap (λ (p : Place). p.wide) q in
      (omega (arith, h.head), ap plain w ∙ wide_plain (layout_of f).header s.plain_head k)

  pub head_number : (k : ℕ) (p : Place) (r : ℕ) → p ≡ place_of (layout_of f).header k → r ≡ num_at p.wide b (0 + p.at) → r ≡ header_in b k
  unfolding head_in item_at
  head_number k p r q n =
      n ∙ ap (λ (p : Place). num_at p.wide b (0 + p.at)) q ∙ ap (λ (L : Layout). head_in L b k) layout_here

-- the parts of every form begin where the header says
pub told_start : {b : List ℕ} → Formed b → (p : ℕ) → p < parts_of_all → offset_by (layout_in b) (count_in b) p ≡ part_start b p
unfolding offset_by
told_start {b} h p l = rw ((formed_sound b h).told p l) refl

-- ---- where the parts begin

-- by the sizes and the counts that the code has
pub record Sums (L : Layout) (n : Counts) (h s0 s1 s2 s3 : ℕ) : Type 0 where
  pub sum0 : h ≡ start_by L (counts_by n) subframe_part
  pub sum1 : h + s0 * n.subframes ≡ start_by L (counts_by n) parameter_part
  pub sum2 : h + s0 * n.subframes + s1 * n.parameters ≡ start_by L (counts_by n) sample_part
  pub sum3 : h + s0 * n.subframes + s1 * n.parameters + s2 * n.samples ≡ start_by L (counts_by n) component_part
  pub sum4 : h + s0 * n.subframes + s1 * n.parameters + s2 * n.samples + s3 * n.components ≡ end_by L (counts_by n)
  pub small : h + s0 * n.subframes + s1 * n.parameters + s2 * n.samples + s3 * n.components < 4294967296

module _ (f : ℕ) (k : known f ≡ true) (n : Counts) (few : Few (limits_of f) n) where
  abbrev L : Layout
  L = layout_of f

  few_each : (p : ℕ) → p < parts → counts_by n p ≤ most (limits_of f) p
  few_each =
      each_part (λ (p : ℕ). counts_by n p ≤ most (limits_of f) p)
      (few.subframes, (few.parameters, (few.samples, (few.components, tt))))

  ends_small : end_by L (counts_by n) < 4294967296
  ends_small =
      let s = known_sound f k in
      let m = start_most L (counts_by n) (most (limits_of f)) (many_parts L) (λ q l. few_each q (omega (arith, s.many))) in
      omega (arith, s.small)

  -- a part begins where the one before it ends
  next_part : (p : ℕ) → start_by (layout_of f) (counts_by n) (p + 1) ≡ start_by (layout_of f) (counts_by n) p + span (slots_of (layout_of f) p) * counts_by n p
  unfolding start_by
  next_part p = rw add-one (omega arith)

  pub sums : (h s0 s1 s2 s3 : ℕ) → h ≡ span (layout_of f).header → s0 ≡ span (slots_of (layout_of f) subframe_part) → s1 ≡ span (slots_of (layout_of f) parameter_part) → s2 ≡ span (slots_of (layout_of f) sample_part) → s3 ≡ span (slots_of (layout_of f) component_part) → Sums (layout_of f) n h s0 s1 s2 s3
  sums h s0 s1 s2 s3 e e0 e1 e2 e3 =
      let m0 : s0 * n.subframes ≡ span (slots_of L 0) * n.subframes = ap (λ (s : ℕ). s * n.subframes) e0 in
      let m1 : s1 * n.parameters ≡ span (slots_of L 1) * n.parameters = ap (λ (s : ℕ). s * n.parameters) e1 in
      let m2 : s2 * n.samples ≡ span (slots_of L 2) * n.samples = ap (λ (s : ℕ). s * n.samples) e2 in
      let m3 : s3 * n.components ≡ span (slots_of L 3) * n.components = ap (λ (s : ℕ). s * n.components) e3 in
      let p0 : start_by L (counts_by n) 0 ≡ span L.header = unfold start_by in (omega arith) in
      let p1 = next_part 0 in
      let p2 = next_part 1 in
      let p3 = next_part 2 in
      let p4 = next_part 3 in
      let t = ap (start_by L (counts_by n)) (known_sound f k).many in
      let z = ends_small in
      record { sum0 = omega arith; sum1 = omega arith; sum2 = omega arith; sum3 = omega arith; sum4 = omega arith; small = omega arith }

-- in bytes with so many entries
module _ {b : List ℕ} {n : Counts} (q : CountsOf b n) where
  counts_here : (p : ℕ) → p < parts → counts_by n p ≡ count_in b p
  counts_here =
      each_part (λ (p : ℕ). counts_by n p ≡ count_in b p)
      (q.subframes_is, (q.parameters_is, (q.samples_is, (q.components_is, tt))))

  pub few_here : {f : ℕ} → f ≡ form_in b → ((p : ℕ) → p < parts → count_in b p ≤ most (limits_in b) p) → Few (limits_of f) n
  unfolding limits_in
  few_here {f} e w =
      let l = ap limits_of e in
      rw l
      (record {
        subframes = let a = w 0 (omega arith) in omega (arith, q.subframes_is);
        parameters = let a = w 1 (omega arith) in omega (arith, q.parameters_is);
        samples = let a = w 2 (omega arith) in omega (arith, q.samples_is);
        components = let a = w 3 (omega arith) in omega (arith, q.components_is);
      })

  pub starts_here : {f : ℕ} {r : Starts} → Formed b → f ≡ form_in b → StartsBy (layout_of f) n r → StartsOf b r
  unfolding layout_in text_part
  starts_here {f} h e s =
      let m = (formed_sound b h).many in
      let l : layout_of f ≡ layout_in b = ap layout_of e in
      let go : (p : ℕ) → p ≤ parts → start_by (layout_of f) (counts_by n) p ≡ part_start b p =
      λ p k. ap (λ (L : Layout). start_by L (counts_by n) p) l ∙ start_same (layout_in b) (counts_by n) (count_in b) p (λ q j. counts_here q (omega arith)) in
      record {
        subframes_is = s.subframes_is ∙ go subframe_part (omega arith);
        parameters_is = s.parameters_is ∙ go parameter_part (omega arith);
        samples_is = s.samples_is ∙ go sample_part (omega arith);
        components_is = s.components_is ∙ go component_part (omega arith);
        text_is =
            s.text_is
            ∙ go (many_parts (layout_of f)) (let z = ap many_parts l in omega arith)
            ∙ ap (λ (L : Layout). part_start b (many_parts L)) l;
        text_below = s.text_below;
      }

text_small : {b : List ℕ} → Sized b → text_part b < 4294967296
unfolding text_part
text_small {b} z =
    let s = formed_sound b z.formed in
    let m = start_most (layout_in b) (count_in b) (most (limits_in b)) (many_parts (layout_in b)) (λ q l. z.few q (omega (arith, s.many))) in
    omega (arith, s.small)

-- in bytes whose head has passed they begin where the header says
pub starts_told : {b : List ℕ} {h : Header} → Head b → HeaderOf b h → StartsOf b (record { subframes = h.subframes; parameters = h.parameters; samples = h.samples; components = h.components; text = h.text })
starts_told {b} d e =
    let go : (p : ℕ) → p < parts → offset_in b p ≡ part_start b p = λ p l. d.offsets.each p l ∙ told_start d.sized.formed p (omega arith) in
    let small = text_small d.sized in
    let text_is = e.text_is ∙ d.offsets.text in
    record {
      subframes_is = e.subframes_is ∙ go subframe_part (omega arith);
      parameters_is = e.parameters_is ∙ go parameter_part (omega arith);
      samples_is = e.samples_is ∙ go sample_part (omega arith);
      components_is = e.components_is ∙ go component_part (omega arith);
      text_is = text_is;
      text_below = omega (arith, text_is, small);
    }

-- ---- an entry

-- where entry i of part p is
pub record EntryHere (b : List ℕ) (p i at : ℕ) : Type 0 where
  pub is : at ≡ entry_by (layout_in b) (count_in b) p i
  pub ends : at + span (slots_of (layout_in b) p) ≤ length b

-- by what the code has: the part's start and the entry's size
module _ {b : List ℕ} {o : Opened} (z : OpenedOf b o) (p i start size : ℕ) (t : p < parts) (l : i < count_in b p) (a : start ≡ part_start b p) (e : size ≡ span (slots_of (layout_in b) p)) where
  sound_here : Sound (form_in b) (layout_in b) (limits_in b)
  sound_here = formed_sound b z.sized.formed

  entry_small : start + size * i < 4294967296
  unfolding text_part
  entry_small =
      let s = z.starts in
      let m = row_ends (layout_in b) (count_in b) p (omega (arith, sound_here.many)) in
      let u = times_ends (span (slots_of (layout_in b) p)) i (count_in b p) l in
      let v : size * i ≡ span (slots_of (layout_in b) p) * i = ap (λ (s : ℕ). s * i) e in
      omega (arith, s.text_is, s.text_below)

  entry_here : EntryHere b p i (start + size * i)
  unfolding entry_by text_part
  entry_here =
      let v : size * i ≡ span (slots_of (layout_in b) p) * i = ap (λ (s : ℕ). s * i) e in
      let n = entry_ends (layout_in b) (count_in b) p i (omega (arith, sound_here.many)) l in
      record { is = omega arith; ends = omega (arith, z.sized.fits) }

-- the same by the shape of its part, which f gives of a layout
pub shape_here : {S : Type 0} (f : Layout → S) {b : List ℕ} {o : Opened} {s : S} → OpenedOf b o → s ≡ f (layout_of o.form) → s ≡ f (layout_in b)
shape_here f z e = e ∙ ap f (layout_here z.sized.formed z.form_is)

module _ {b : List ℕ} {o : Opened} (z : OpenedOf b o) (i : ℕ) (l : i < count_in b subframe_part) {s : SubframeShape} (q : s ≡ subframe_shape (layout_in b)) where
  pub subframe_small : o.starts.subframes + s.size * i < 4294967296
  subframe_small = entry_small z subframe_part _ _ _ (omega arith) l z.starts.subframes_is (ap (λ (s : SubframeShape). s.size) q)

  pub subframe_here : EntryHere b subframe_part i (o.starts.subframes + s.size * i)
  subframe_here = entry_here z subframe_part _ _ _ (omega arith) l z.starts.subframes_is (ap (λ (s : SubframeShape). s.size) q)

module _ {b : List ℕ} {o : Opened} (z : OpenedOf b o) (i : ℕ) (l : i < count_in b parameter_part) {s : ParameterShape} (q : s ≡ parameter_shape (layout_in b)) where
  pub parameter_small : o.starts.parameters + s.size * i < 4294967296
  parameter_small = entry_small z parameter_part _ _ _ (omega arith) l z.starts.parameters_is (ap (λ (s : ParameterShape). s.size) q)

  pub parameter_here : EntryHere b parameter_part i (o.starts.parameters + s.size * i)
  parameter_here = entry_here z parameter_part _ _ _ (omega arith) l z.starts.parameters_is (ap (λ (s : ParameterShape). s.size) q)

module _ {b : List ℕ} {o : Opened} (z : OpenedOf b o) (i : ℕ) (l : i < count_in b sample_part) {s : SampleShape} (q : s ≡ sample_shape (layout_in b)) where
  pub sample_small : o.starts.samples + s.size * i < 4294967296
  sample_small = entry_small z sample_part _ _ _ (omega arith) l z.starts.samples_is (ap (λ (s : SampleShape). s.size) q)

  pub sample_here : EntryHere b sample_part i (o.starts.samples + s.size * i)
  sample_here = entry_here z sample_part _ _ _ (omega arith) l z.starts.samples_is (ap (λ (s : SampleShape). s.size) q)

module _ {b : List ℕ} {o : Opened} (z : OpenedOf b o) (i : ℕ) (l : i < count_in b component_part) {s : ComponentShape} (q : s ≡ component_shape (layout_in b)) where
  pub component_small : o.starts.components + s.size * i < 4294967296
  component_small = entry_small z component_part _ _ _ (omega arith) l z.starts.components_is (ap (λ (s : ComponentShape). s.size) q)

  pub component_here : EntryHere b component_part i (o.starts.components + s.size * i)
  component_here = entry_here z component_part _ _ _ (omega arith) l z.starts.components_is (ap (λ (s : ComponentShape). s.size) q)

module _ {b : List ℕ} {p i at : ℕ} (h : EntryHere b p i at) (k : ℕ) (x : Place) (e : x ≡ place_of (slots_of (layout_in b) p) k) where
  pub item_within : at + x.at + x.wide ≤ length b
  item_within =
      let n = item_ends (slots_of (layout_in b) p) k in
      let a = ap (λ (p : Place). p.at) e in
      let w = ap (λ (p : Place). p.wide) e in
      omega (arith, h.ends)

  pub item_place : plain (wide_of (slots_of (layout_in b) p) k) ≡ true → (at + x.at + x.wide ≤ length b) × (plain x.wide ≡ true)
  item_place q = (item_within, ap plain (ap (λ (p : Place). p.wide) e) ∙ q)

  pub long_place : long (wide_of (slots_of (layout_in b) p) k) ≡ true → (at + x.at + x.wide ≤ length b) × (long x.wide ≡ true)
  long_place q = (item_within, ap long (ap (λ (p : Place). p.wide) e) ∙ q)

  pub item_number : (r : ℕ) → r ≡ num_at x.wide b (at + x.at) → r ≡ item_in (layout_in b) b p i k
  unfolding item_in item_at
  item_number r q = q ∙ ap₂ (λ (o : ℕ) (p : Place). num_at p.wide b (o + p.at)) h.is e

-- ---- every item is of a width that the code reads

module _ {b : List ℕ} (h : Formed b) where
  s : Sound (form_in b) (layout_in b) (limits_in b)
  s = formed_sound b h

  pub plain_subframe_lem : (k : ℕ) → k < entry_items subframe_part → (k ≡ item.numerator → ⊥) → plain (wide_of (slots_of (layout_in b) subframe_part) k) ≡ true
  plain_subframe_lem k l n =
      ⊎_elim (λ e. absurd (n (eqb-true k item.numerator e))) (λ p. p)
      (or_either (eqb k item.numerator) (plain (wide_of (slots_of (layout_in b) subframe_part) k)) (s.plain_subframe k l))

  pub long_numerator_lem : long (wide_of (slots_of (layout_in b) subframe_part) item.numerator) ≡ true
  long_numerator_lem = s.long_numerator

  pub plain_parameter_lem : (k : ℕ) → plain (wide_of (slots_of (layout_in b) parameter_part) k) ≡ true
  plain_parameter_lem = wide_plain (slots_of (layout_in b) parameter_part) s.plain_parameter

  pub plain_sample_lem : (k : ℕ) → plain (wide_of (slots_of (layout_in b) sample_part) k) ≡ true
  plain_sample_lem = wide_plain (slots_of (layout_in b) sample_part) s.plain_sample

  pub plain_component_lem : (k : ℕ) → plain (wide_of (slots_of (layout_in b) component_part) k) ≡ true
  plain_component_lem = wide_plain (slots_of (layout_in b) component_part) s.plain_component

-- room for an item, and its width, as reading one asks
pub room : {A B : Type 0} → A × B → record { wide_in_bounds : A; wide_value : B }
room p = record { wide_in_bounds = p.0; wide_value = p.1 }
