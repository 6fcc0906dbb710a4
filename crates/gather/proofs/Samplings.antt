-- What a sample's lines leave known: its components and its time. Assumes nothing.
use mathlib.Core.Path.{◌≡◌, refl, sym, ap, ◌∙◌}
use mathlib.Core.Bool.{true, false, ◌||◌}
use mathlib.Core.List.{List, [], ◌∷◌, ◌++◌}
use Prim.Native.Nat.{ℕ, zero, suc, ◌-◌, ◌≤◌, ◌<◌}
use native.Mathlib.Omega.{arith}
use borrow.Author.Tests.{leb-false, eqb-true, not-false}
use lib.Dec.{leb}
use lib.ListN.{length, get_or}
use Rattle.std.specs.Prelude.{Ok}
use Rattle.text.specs.Fields.{field_of}
use Rattle.spell.specs.Integers.{declared_judged}
use Rattle.spell.specs.BitRanges.{component_bits_judged}
use Rattle.written.proofs.Tests.{neither}
use Rattle.written.proofs.Passing.{when_false}
use Rattle.lines.specs.Order.{line_judged}
use Rattle.lineforms.specs.LineFields.{declared_for, subframe_in}
use Rattle.lineforms.specs.Said.{time_in}
use Rattle.lineforms.specs.declared.due.Form.TheVariants as form
use Rattle.model.specs.Content.{Component, Sample, Subframe, no_sample, no_component, component}
use Rattle.model.specs.Forms.{sheet_limits}
use Rattle.model.specs.Samples.{width_of}
use Rattle.model.specs.Meaning.{ComponentLaw, SampleLaw}
use Rattle.gather.specs.Book.{Book, component_of, parting, samples_so_far, components_so_far, words_of, bits_of, grow}
use Rattle.gather.specs.Tests.{tests_of, room_for_sample, room_for_component, given, last_overlap, joined_test, unlike_first}
use Rattle.gather.proofs.Rows.{Each, each_none, each_more, length_more}
use Rattle.gather.proofs.Amounts.{declared_amount, bits_amount, time_amount}
use Rattle.gather.proofs.Spreads.{declared_words, declared_bits}
use Rattle.gather.proofs.Spots.{given_width, spots_twice}
use Rattle.gather.proofs.Joinings.{Followed, followed_more, overlaps_next, joined_passed, width_passed, given_more, given_some}
use Rattle.gather.proofs.Counts.{components_more}
use Rattle.gather.proofs.Sound.{subs_of, Ground, Opened, Closed, Filled, Joined}
use Rattle.gather.proofs.Headings.{passed}

-- ---- a component

module _ (K : Book) (l : List ℕ) (g : Ground K.declared (subs_of K)) where
  pub part_law : declared_judged K.declared (field_of 0 l) ≡ Ok tt
      → declared_judged (declared_for (words_of K.pairs) (subframe_in l)) (field_of 1 l) ≡ Ok tt
      → component_bits_judged (declared_for (bits_of K.pairs) (subframe_in l)) (field_of 3 l) ≡ Ok tt
      → joined_test K.parts (component_of l) ≡ Ok tt
      → ComponentLaw (subs_of K) (component_of l)
  part_law p q r j =
      let s = declared_amount (field_of 0 l) K.declared p in
      let w = declared_amount (field_of 1 l) (declared_for (words_of K.pairs) (subframe_in l)) q in
      let b = bits_amount (field_of 3 l) (declared_for (bits_of K.pairs) (subframe_in l)) r in
      let a = declared_words K.declared K.pairs (subframe_in l) s.0 s.1 in
      let c = declared_bits K.declared K.pairs (subframe_in l) s.0 s.1 in
      record {
        some_home = s.0;
        declared = rw g.long s.1;
        some_word = w.0;
        word = rw a at w.1;
        some_bit = b.0;
        rising = b.1;
        in_word = rw c at b.2;
        lapped = (joined_passed K.parts (component_of l) j).lapped;
      }

-- 12
sample_room : (K : Book) → room_for_sample K ≡ Ok tt
    → (length K.opened.samples < sheet_limits.samples_each) × (samples_so_far K < sheet_limits.samples) × (components_so_far K < sheet_limits.components)
unfolding room_for_sample
sample_room K e =
    let a = leb sheet_limits.samples_each (length K.opened.samples) in
    let b = leb sheet_limits.samples (samples_so_far K) in
    let c = leb sheet_limits.components (components_so_far K) in
    let w = neither a (b || c) (when_false _ _ e) in
    let v = neither b c w.1 in (
      leb-false sheet_limits.samples_each (length K.opened.samples) w.0,
      leb-false sheet_limits.samples (samples_so_far K) v.0,
      leb-false sheet_limits.components (components_so_far K) v.1,
    )

component_room : (K : Book) → room_for_component K ≡ Ok tt
    → (length K.parts < sheet_limits.components_each) × (components_so_far K < sheet_limits.components)
unfolding room_for_component
component_room K e =
    let w = neither (leb sheet_limits.components_each (length K.parts)) (leb sheet_limits.components (components_so_far K)) (when_false _ _ e) in
    (leb-false sheet_limits.components_each (length K.parts) w.0, leb-false sheet_limits.components (components_so_far K) w.1)

-- one component more
module _ (K : Book) (c : Component) (o : Opened K) (each : Each (ComponentLaw (subs_of K)) no_component K.parts) (next : Followed K.parts) where
  part_more : length K.parts < sheet_limits.components_each → length K.opened.samples < sheet_limits.samples_each
      → samples_so_far K < sheet_limits.samples → components_so_far K < sheet_limits.components
      → ComponentLaw (subs_of K) c → joined_test K.parts c ≡ Ok tt → Joined (parting K (K.parts ++ (c ∷ [])))
  part_more few a b d law j =
      let n = length_more K.parts c in
      let w = joined_passed K.parts c j in
      record {
        opened =
            record {
              ground = o.ground;
              whole = o.whole;
              room = o.room;
              names = o.names;
              value = o.value;
              samples = o.samples;
              few_samples = o.few_samples;
              few_components = omega arith;
            };
        parted =
            record {
              some = omega arith;
              few = omega arith;
              each = each_more (ComponentLaw (subs_of K)) no_component K.parts c each law;
              next = followed_more K.parts c next w.next;
              once = w.once;
              narrow = omega (arith, given_more K.parts c, w.narrow);
              room_each = a;
              room = b;
            };
      }

module _ (K : Book) (l : List ℕ) where
  pub opens_sample : Closed K → line_judged true l (tests_of form.OpeningComponent K l) ≡ Ok tt → Joined (grow form.OpeningComponent l K)
  opens_sample h e =
      let q = passed form.OpeningComponent K l e in
      let o = h.opened in
      let r = sample_room K (q 4) in
      let z = ap length h.no_parts in
      part_more K (component_of l) o (each_none (ComponentLaw (subs_of K)) no_component K.parts h.no_parts) (λ k m. absurd (omega arith)) (omega arith) r.0 r.1 r.2
      (part_law K l o.ground (q 5) (q 6) (q 8) (q 9))
      (q 9)

  pub parts_sample : Joined K → line_judged true l (tests_of form.ComponentLine K l) ≡ Ok tt → Joined (grow form.ComponentLine l K)
  parts_sample h e =
      let q = passed form.ComponentLine K l e in
      let o = h.opened in
      let p = h.parted in
      let r = component_room K (q 4) in
      part_more K (component_of l) o p.each p.next r.0 p.room_each p.room r.1 (part_law K l o.ground (q 5) (q 6) (q 8) (q 9)) (q 9)

-- ---- the time line

-- one sample more, of the first one's width
module _ (subs : List Subframe) (t : Sample) (law : SampleLaw sheet_limits subs t) where
  alike_more : (ss : List Sample) → Each (SampleLaw sheet_limits subs) no_sample ss → Each (λ s. width_of subs s ≡ width_of subs (get_or ss 0 no_sample)) no_sample ss
      → unlike_first ss t.components ≡ false
      → Each (λ s. width_of subs s ≡ width_of subs (get_or (ss ++ (t ∷ [])) 0 no_sample)) no_sample (ss ++ (t ∷ []))
  unfolding unlike_first
  alike_more [] each h e zero l = refl
  alike_more [] each h e (suc k) l = absurd (omega arith)
  alike_more (s ∷ ss) each h e k l =
      let w = eqb-true (given t.components) (given s.components) (not-false _ e) in
      each_more (λ x. width_of subs x ≡ width_of subs s) no_sample (s ∷ ss) t h
      (given_width subs t law.each ∙ w ∙ sym (given_width subs s (each 0 (omega arith)).each)) k l

module _ (K : Book) (l : List ℕ) where
  abbrev timed : Sample
  timed = record { time = time_in l; components = K.parts }

  -- an overlap is smaller than its component's bits, so than a word's
  overlap_few : Joined K → (k : ℕ) → k < length K.parts → (component timed k).overlap ≤ sheet_limits.overlap
  overlap_few h k m =
      let r = h.parted.each k m in
      let b = (h.opened.ground.each ((component timed k).subframe - 1) (omega (arith, r.some_home, r.declared))).few_bits in
      omega (arith, r.lapped, r.in_word, r.some_bit)

  timed_law : Joined K → time_in l ≤ sheet_limits.time → last_overlap K.parts ≡ 0 → SampleLaw sheet_limits (subs_of K) timed
  timed_law h t z =
      let p = h.parted in
      let g = h.opened.ground in
      record {
        time = t;
        some = p.some;
        few = p.few;
        each = p.each;
        overlaps = λ k m. record { next = overlaps_next timed p.next z k m; few = overlap_few h k m };
        wide = rw (given_width (subs_of K) timed p.each) (given_some K.parts p.some (λ k m. (p.each k m).lapped));
        narrow = rw (given_width (subs_of K) timed p.each) p.narrow;
        once = spots_twice (subs_of K) (λ i m. (g.each i m).few_words) timed p.each ∙ p.once;
      }

  pub times_sample : Joined K → line_judged true l (tests_of form.TimeLine K l) ≡ Ok tt → Filled (grow form.TimeLine l K)
  times_sample h e =
      let q = passed form.TimeLine K l e in
      let o = h.opened in
      let p = h.parted in
      let v = width_passed K.opened.samples K.parts (q 6) in
      let law = timed_law h (time_amount (field_of 0 l) (q 5)) v.0 in
      let n = length_more K.opened.samples timed in
      let c = components_more K.opened.samples timed in
      record {
        closed =
            record {
              opened =
                  record {
                    ground = o.ground;
                    whole = o.whole;
                    room = o.room;
                    names = o.names;
                    value = o.value;
                    samples =
                        record {
                          few = omega arith;
                          each =
                              each_more (SampleLaw sheet_limits (subs_of K)) no_sample K.opened.samples timed o.samples.each law;
                          alike = alike_more (subs_of K) timed law K.opened.samples o.samples.each o.samples.alike v.1;
                        };
                    few_samples = omega arith;
                    few_components = omega arith;
                  };
              no_parts = refl;
            };
        some = omega arith;
      }
