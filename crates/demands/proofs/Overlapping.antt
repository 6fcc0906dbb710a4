-- Overlap: what any bench that meets the demands reads of the wall with Pitch in 12 bits of which the highest overlaps the next
-- component, then 7: 18 wide, once with copies that agree and once rolled over; and versions of a bench that do not meet them.
-- Assumes nothing.
use mathlib.Core.Path.{◌≡◌, refl, sym, ap, subst, ◌∙◌}
use mathlib.Core.Bool.{Bool, true, false}
use mathlib.Core.List.{List, [], ◌∷◌}
use Prim.Native.Nat.{ℕ, ◌*◌, ◌^◌}
use native.Mathlib.Omega.{arith}
use lib.ListN.{length}
use lib.IntN.{ℤ, pos, negsuc}
use Rattle.bits.specs.Word.{bit_at, field}
use Rattle.bits.specs.Sign.{signed}
use Rattle.lay.specs.Below.{every, sum as tally}
use Rattle.lay.specs.Bytes.{same}
use Rattle.lay.specs.Quoted.{quoted}
use Rattle.lay.proofs.Tests.{differ}
use Rattle.ratio.specs.Ratio.{gcd_in, gcd, lowest}
use Rattle.sample.specs.Joining.{part_of, join, width}
use Rattle.sample.specs.Clash.{clash, clash_any, twice}
use Rattle.sample.specs.Flat.{sum, before, position}
use Rattle.model.specs.Content.{Content, Parameter, component, all_samples, first_sample, first_component}
use Rattle.model.specs.Forms.{newest, sheet_limits}
use Rattle.model.specs.Samples.{word_counts, whole, piece, wholes, pieces, width_of, overlapped, place_in, holds_at, holds}
use Rattle.model.specs.Rules.{seconds_ok, margin_ok, subframe_ok, component_ok, next_bits, overlap_ok, sample_ok, byte_ok, text_ok, parameter_ok}
use Rattle.model.specs.Identifiers.{named_apart, newly_named, identifier_ok, identified_apart, identifies, taken, identifiers_ok}
use Rattle.model.specs.Lawful.{lawful}
use Rattle.model.specs.Frame.{frame_words, words_ok, meets}
use Rattle.model.specs.View.{view}
use Rattle.model.specs.Wall.{wall, sync}
use Rattle.model.specs.Write.{write}
use Rattle.model.proofs.Statements.{view_new, new_accepted}
use Rattle.framing.specs.Placing.{place_number}
use Rattle.framing.specs.declared.read.Reading.TheVariants.{Sample, OverlapDiffers}
use Rattle.demands.specs.Calls.{Calls}
use Rattle.demands.specs.Refusing.{sample_of, components_of, wholes_of, first_broken, place_rules}
use Rattle.demands.specs.Demands.{HasSample, meaning, answer_in, Fitting, Demands}
use Rattle.demands.proofs.Told.{raw_in, same_checked}
use Rattle.std.specs.Prelude.{Ok}

-- ---- the Content, its table, and two frames

abbrev pub lapped_pitch : Parameter
lapped_pitch =
    record {
      name = quoted "Pitch";
      mnemonic = quoted "PCH";
      identification = [];
      signed = true;
      identifier = false;
      value = 0;
      samples =
          record {
            time = 500000;
            components =
                record { subframe = 1; word = 2; low = 1; high = 12; overlap = 1 }
                ∷ record { subframe = 1; word = 4; low = 1; high = 7; overlap = 0 }
                ∷ [];
          }
          ∷ [];
    }

abbrev pub lapped_wall : Content
lapped_wall = record { sequential = true; subframes = wall.subframes; parameters = sync ∷ lapped_pitch ∷ [] }

abbrev lapped_table : List ℕ
lapped_table = write newest lapped_wall

-- bit 12 is 1 in both words; and 0 in the lower one alone
abbrev agreeing : List ℕ
agreeing = 583 ∷ 2048 ∷ 0 ∷ 1 ∷ []

abbrev rolled : List ℕ
rolled = 583 ∷ 0 ∷ 0 ∷ 1 ∷ []

-- the highest bit of the upper word is the sign
abbrev minus : List ℕ
minus = 583 ∷ 4085 ∷ 0 ∷ 127 ∷ []

lapped_lawful : lawful sheet_limits lapped_wall ≡ true
unfolding every same gcd_in gcd lowest width clash clash_any twice sum before position all_samples first_sample first_component word_counts whole piece wholes pieces width_of seconds_ok margin_ok subframe_ok component_ok next_bits overlap_ok sample_ok byte_ok text_ok parameter_ok named_apart newly_named identifier_ok identified_apart identifies taken identifiers_ok lawful
lapped_lawful = refl

lapped_wide : width (components_of lapped_wall 2 1) ≡ 18
unfolding width before position word_counts piece pieces components_of
lapped_wide = refl

lapped_laps : overlapped (sample_of lapped_wall 2 1) ≡ true
unfolding overlapped
lapped_laps = refl

agreeing_meets : meets lapped_wall agreeing ≡ true
unfolding every sum before frame_words words_ok meets word_counts
agreeing_meets = refl

rolled_meets : meets lapped_wall rolled ≡ true
unfolding every sum before frame_words words_ok meets word_counts
rolled_meets = refl

minus_meets : meets lapped_wall minus ≡ true
unfolding every sum before frame_words words_ok meets word_counts
minus_meets = refl

minus_answer : answer_in lapped_wall minus 2 1 ≡ Ok (Sample 262133 18 (negsuc 10))
unfolding bit_at field signed part_of join width sum before position word_counts whole piece pieces place_in holds_at holds components_of meaning
minus_answer = refl

agreeing_answer : answer_in lapped_wall agreeing 2 1 ≡ Ok (Sample 2048 18 (pos 2048))
unfolding bit_at field signed part_of join width sum before position word_counts whole piece pieces place_in holds_at holds components_of meaning
agreeing_answer = refl

rolled_answer : answer_in lapped_wall rolled 2 1 ≡ Ok (OverlapDiffers 2048 18 (pos 2048))
unfolding bit_at field signed part_of join width sum before position word_counts whole piece pieces place_in holds_at holds components_of meaning
rolled_answer = refl

lapped_listed : HasSample lapped_wall 2 1
lapped_listed = record { parameter_least = omega arith; parameter_most = omega arith; sample_least = omega arith; sample_most = omega arith }

-- all bits side by side, as if nothing overlapped: 19 of them
beside : join agreeing (wholes_of lapped_wall 2 1) ≡ 6144
unfolding bit_at field part_of join sum before position word_counts whole wholes wholes_of
beside = refl

-- each component's bits, all of them, added at their places
abbrev added : Content → List ℕ → ℕ → ℕ → ℕ
added c f p s =
    tally (length (sample_of c p s).components) (λ k.
    part_of f (whole c.subframes (component (sample_of c p s) k)) * 2 ^ place_in c.subframes (sample_of c p s) k)

both_added : added lapped_wall agreeing 2 1 ≡ 4096
unfolding bit_at field part_of sum before position word_counts whole piece place_in
both_added = refl

-- the lowest component is its bits of raw
abbrev lowest_held : Content → List ℕ → ℕ → ℕ → ℕ → Bool
lowest_held c f p s raw = holds_at c.subframes f (sample_of c p s) raw 0

lower_differs : lowest_held lapped_wall rolled 2 1 2048 ≡ false
unfolding bit_at field part_of sum before position word_counts whole piece place_in holds_at
lower_differs = refl

module _ (B : Calls) (D : Demands B) where
  says_lapped : view lapped_table ≡ lapped_wall
  says_lapped = view_new lapped_wall lapped_lawful

  passes : B.check lapped_table ≡ Ok tt
  unfolding first_broken
  passes = same_checked (B.check lapped_table) true (D.one.tables lapped_table ∙ rw (new_accepted lapped_wall lapped_lawful) refl)

  fitting : (f : List ℕ) → meets lapped_wall f ≡ true → Fitting B lapped_table f
  fitting f m = record { passes = passes; fits = ap (λ (c : Content). meets c f) says_lapped ∙ m }

  there : HasSample (view lapped_table) 2 1
  there = subst (λ (c : Content). HasSample c 2 1) (sym says_lapped) lapped_listed

  reads : (f : List ℕ) → meets lapped_wall f ≡ true → B.read lapped_table f 2 1 ≡ answer_in lapped_wall f 2 1
  reads f m = D.two.joined lapped_table f 2 1 (fitting f m) there ∙ ap (λ (c : Content). answer_in c f 2 1) says_lapped

  -- ---- what is read

  pub reads_agreeing : B.read lapped_table agreeing 2 1 ≡ Ok (Sample 2048 18 (pos 2048))
  reads_agreeing = reads agreeing agreeing_meets ∙ agreeing_answer

  pub reads_rolled : B.read lapped_table rolled 2 1 ≡ Ok (OverlapDiffers 2048 18 (pos 2048))
  reads_rolled = reads rolled rolled_meets ∙ rolled_answer

  -- minus eleven: 4085 is 12 bits of it, and 127 the 7 above, one of them in both
  pub reads_minus : B.read lapped_table minus 2 1 ≡ Ok (Sample 262133 18 (negsuc 10))
  reads_minus = reads minus minus_meets ∙ minus_answer

  -- ---- a bench that never tells copies that differ

  pub copies_told : ((t f : List ℕ) (p s : ℕ) (r w : ℕ) (v : ℤ) → B.read t f p s ≡ Ok (OverlapDiffers r w v) → ⊥) → ⊥
  copies_told u = u lapped_table rolled 2 1 2048 18 (pos 2048) reads_rolled

  -- one that joins all bits side by side: the overlap ignored
  pub overlap_not_ignored : ((t f : List ℕ) (p s : ℕ) → Fitting B t f → HasSample (view t) p s → raw_in (B.read t f p s) ≡ join f (wholes_of (view t) p s)) → ⊥
  overlap_not_ignored u =
      let e = u lapped_table agreeing 2 1 (fitting agreeing agreeing_meets) there in
      omega (arith, e, ap raw_in reads_agreeing, ap (λ (c : Content). join agreeing (wholes_of c 2 1)) says_lapped ∙ beside)

  -- one that adds the two copies
  pub copies_not_added : ((t f : List ℕ) (p s : ℕ) → Fitting B t f → HasSample (view t) p s → raw_in (B.read t f p s) ≡ added (view t) f p s) → ⊥
  copies_not_added u =
      let e = u lapped_table agreeing 2 1 (fitting agreeing agreeing_meets) there in
      omega (arith, e, ap raw_in reads_agreeing, ap (λ (c : Content). added c agreeing 2 1) says_lapped ∙ both_added)

  -- one that lets the lower copy stand where they differ: the lowest component always is its bits of raw
  pub lower_not_standing : ((t f : List ℕ) (p s : ℕ) → Fitting B t f → HasSample (view t) p s → lowest_held (view t) f p s (raw_in (B.read t f p s)) ≡ true) → ⊥
  lower_not_standing u =
      differ
      (ap (lowest_held (view lapped_table) rolled 2 1) (ap raw_in reads_rolled) ∙ ap (λ (c : Content). lowest_held c rolled 2 1 2048) says_lapped ∙ lower_differs)
      (u lapped_table rolled 2 1 (fitting rolled rolled_meets) there)

  -- one that places into an overlapped sample: of whatever table, frame and value, it is 10 as soon as the sample is listed
  pub overlap_not_placed : ((t f : List ℕ) (p s v : ℕ) → Fitting B t f → HasSample (view t) p s → B.place t f p s v ≡ Ok tt) → ⊥
  unfolding first_broken place_number
  overlap_not_placed u =
      let e = u lapped_table agreeing 2 1 0 (fitting agreeing agreeing_meets) there in
      let n : place_number (B.place lapped_table agreeing 2 1 0) ≡ 10 = D.one.places lapped_table agreeing 2 1 0 ∙ broken in
      omega (arith, n, ap place_number e)
    where
      broken : first_broken (place_rules lapped_table agreeing 2 1 0) ≡ 10
      broken = rw (new_accepted lapped_wall lapped_lawful, says_lapped, lapped_laps) refl
