-- Useless versions of reading cards: no bench that has one meets the demands. Each is put as what it would answer for every table,
-- stream and position, and fails on a card of the wall's words, or one like it. Assumes nothing.
use Prim.Native.Nat.{ℕ, ◌+◌, ◌-◌, ◌*◌, ◌/◌, ◌%◌, ◌^◌, ◌≤◌, ◌<◌}
use native.Mathlib.Nat.{zero-div}
use native.Mathlib.Omega.{arith}
use native.Mathlib.Decide.{dec_lt}
use mathlib.Core.Bool.{true, false}
use mathlib.Core.Path.{◌≡◌, refl, sym, ap, subst, ◌∙◌}
use mathlib.Core.List.{List, [], ◌∷◌}
use borrow.Author.Tests.{le-leb}
use lib.Dec.{leb}
use lib.ListN.{length, get_or, take, get_or-eq_default}
use Rattle.bits.specs.Word.{bit_at, field}
use Rattle.lay.specs.Below.{every, any}
use Rattle.lay.specs.Bytes.{same}
use Rattle.lay.proofs.Below.{any_made}
use Rattle.lay.proofs.Tests.{and_both, differ}
use Rattle.ratio.specs.Ratio.{gcd_in, gcd, lowest}
use Rattle.sample.specs.Joining.{part_of, width}
use Rattle.sample.specs.Clash.{clash, clash_any, twice}
use Rattle.sample.specs.Flat.{sum, before, position}
use Rattle.model.specs.Margin.{margin_bits}
use Rattle.model.specs.Accepts.{accepts}
use Rattle.model.specs.Content.{Content, subframe, subframes, parameters, all_samples, first_sample, first_component}
use Rattle.model.specs.Frame.{frame_words}
use Rattle.model.specs.Samples.{word_counts, whole, piece, wholes, pieces, width_of, place_in, holds_at, holds}
use Rattle.model.specs.Rules.{seconds_ok, margin_ok, subframe_ok, component_ok, next_bits, overlap_ok, sample_ok, byte_ok, text_ok, parameter_ok}
use Rattle.model.specs.Identifiers.{named_apart, newly_named, identifier_ok, identified_apart, identifies, taken, identifiers_ok}
use Rattle.model.specs.View.{view}
use Rattle.model.specs.Lawful.{lawful}
use Rattle.model.specs.Forms.{newest, sheet_limits}
use Rattle.model.specs.Write.{write}
use Rattle.model.proofs.Rows.{not_first}
use Rattle.model.proofs.Statements.{view_new, form_new, new_accepted}
use Rattle.model.proofs.TwoSubframes.{two, two_lawful}
use Rattle.framing.specs.Comparing.{differs_at, differs_in, compared_in, compared_number}
use Rattle.stream.specs.Stream.{stream_bit, bits_from}
use Rattle.carding.specs.Layout.{subframe_bits, bits_before, frame_bits, words_begin, word_begins, word_in, frame_at}
use Rattle.carding.specs.Search.{whole_at, agrees_at, sought_at, FirstFrame}
use Rattle.carding.specs.Answer.{margins_known, carded_number, found_at}
use Rattle.table.specs.declared.reason.Reason.TheVariants.{NoFrame}
use Rattle.carding.proofs.Back.{carried}
use Rattle.carding.proofs.Examples.{bare as card, tight, trailed}
use Rattle.carding.proofs.Straight.{frame_bit}
use Rattle.demands.specs.Calls.{Calls}
use Rattle.demands.specs.Refusing.{first_broken}
use Rattle.demands.specs.Demands.{Demands}
use Rattle.demands.proofs.CardEnd.{CardAsSaid, card_as_said}
use Rattle.demands.proofs.Told.{same_checked}
use Rattle.demands.proofs.Wall.{words}
use Rattle.std.specs.Prelude.{Ok, Err}

-- ---- the wall's words on a card, at its first bit and behind four zeros; no bits in the margins

abbrev shifted : List ℕ
shifted = 112 ∷ 36 ∷ 5 ∷ 0 ∷ 0 ∷ 6 ∷ 0 ∷ []

tight_lawful : lawful sheet_limits tight ≡ true
unfolding every same gcd_in gcd lowest width clash clash_any twice sum before position all_samples first_sample first_component word_counts whole piece wholes pieces width_of seconds_ok margin_ok subframe_ok component_ok next_bits overlap_ok sample_ok byte_ok text_ok parameter_ok named_apart newly_named identifier_ok identified_apart identifies taken identifiers_ok lawful
tight_lawful = refl

tight_known : margins_known tight ≡ true
unfolding margins_known
tight_known = refl

card_whole : whole_at tight card 0 ≡ true
unfolding whole_at bits_before subframe_bits
card_whole = refl

card_agrees : agrees_at tight card 0 ≡ true
unfolding agrees_at compared_number compared_in differs_in differs_at holds holds_at place_in part_of whole piece word_counts position before sum frame_at word_in word_begins words_begin bits_before subframe_bits bits_from stream_bit bit_at field
card_agrees = refl

shifted_whole : whole_at tight shifted 4 ≡ true
unfolding whole_at bits_before subframe_bits
shifted_whole = refl

shifted_agrees : agrees_at tight shifted 4 ≡ true
unfolding agrees_at compared_number compared_in differs_in differs_at holds holds_at place_in part_of whole piece word_counts position before sum frame_at word_in word_begins words_begin bits_before subframe_bits bits_from stream_bit bit_at field
shifted_agrees = refl

-- at its first bit the shifted one has no frame
shifted_differs : agrees_at tight shifted 0 ≡ false
unfolding agrees_at compared_number compared_in differs_in differs_at holds holds_at place_in part_of whole piece word_counts position before sum frame_at word_in word_begins words_begin bits_before subframe_bits bits_from stream_bit bit_at field
shifted_differs = refl

-- bit 2 of the last word, 6, is the card's last bit that is set
last_bit : (p : ℕ) → bit_at (get_or (frame_at tight card p) (before (word_counts tight.subframes) 1 + 3) 0) 2 ≡ stream_bit card (p + word_begins tight 0 3 + 2)
last_bit p = frame_bit tight card p 0 3 2 (omega arith) (omega arith) (omega arith)

last_begins : word_begins tight 0 3 ≡ 36
unfolding word_begins words_begin bits_before
last_begins = refl

last_set : stream_bit card (0 + word_begins tight 0 3 + 2) ≡ 1
unfolding stream_bit bit_at word_begins words_begin bits_before
last_set = refl

none_behind : (k : ℕ) → 39 ≤ k → stream_bit card k ≡ 0
unfolding stream_bit
none_behind k l = go (dec_lt k 40)
  where
    no_bit : (i : ℕ) → bit_at 0 i ≡ 0
    no_bit i = unfold bit_at in rw (zero-div (2 ^ i))

    last_byte : (m : ℕ) → 5 ≤ m → Dec (m < 6) → get_or card m 0 ≡ 0
    last_byte m h (yes d) = let z : m ≡ 5 = omega arith in rw z
    last_byte m h (no d) = get_or-eq_default card 0 {n = m} (omega arith)

    go : Dec (k < 40) → bit_at (get_or card (k / 8) 0) (k % 8) ≡ 0
    go (yes d) = let z : k ≡ 39 = omega arith in rw z (unfold bit_at in refl)
    go (no d) = ap (λ (x : ℕ). bit_at x (k % 8)) (last_byte (k / 8) (omega arith) (dec_lt (k / 8) 6)) ∙ no_bit (k % 8)

first_word : get_or (frame_at tight card 0) 0 0 ≡ 583
unfolding frame_at word_in word_begins words_begin bits_before subframe_bits bits_from stream_bit bit_at
first_word = refl

-- ---- the wall with eight trailing bits, and a card that ends before them

trailed_lawful : lawful sheet_limits trailed ≡ true
unfolding every same gcd_in gcd lowest width clash clash_any twice sum before position all_samples first_sample first_component word_counts whole piece wholes pieces width_of seconds_ok margin_ok subframe_ok component_ok next_bits overlap_ok sample_ok byte_ok text_ok parameter_ok named_apart newly_named identifier_ok identified_apart identifies taken identifiers_ok lawful
trailed_lawful = refl

trailed_known : margins_known trailed ≡ true
unfolding margins_known
trailed_known = refl

trailed_agrees : agrees_at trailed card 0 ≡ true
unfolding agrees_at compared_number compared_in differs_in differs_at holds holds_at place_in part_of whole piece word_counts position before sum frame_at word_in word_begins words_begin bits_before subframe_bits bits_from stream_bit bit_at field
trailed_agrees = refl

trailed_bits : frame_bits trailed ≡ 56
unfolding bits_before subframe_bits
trailed_bits = refl

trailed_nowhere : any 49 (sought_at trailed card 0) ≡ false
unfolding whole_at bits_before subframe_bits
trailed_nowhere = refl

-- ---- two subframes: the first one's identifier 1, the second one's not 2

abbrev half : List ℕ
half = 1 ∷ 0 ∷ 0 ∷ 0 ∷ 0 ∷ 0 ∷ []

two_known : margins_known two ≡ true
unfolding margins_known
two_known = refl

half_whole : whole_at two half 0 ≡ true
unfolding whole_at bits_before subframe_bits
half_whole = refl

half_first : differs_in two (frame_at two half 0) 1 ≡ false
unfolding differs_in differs_at holds holds_at place_in part_of whole piece word_counts position before sum frame_at word_in word_begins words_begin bits_before subframe_bits bits_from stream_bit bit_at field
half_first = refl

half_nowhere : any 49 (sought_at two half 0) ≡ false
unfolding whole_at agrees_at compared_number compared_in differs_in differs_at holds holds_at place_in part_of whole piece word_counts position before sum frame_at word_in word_begins words_begin bits_before subframe_bits bits_from stream_bit bit_at field
half_nowhere = refl

-- ---- what a bench that meets the demands answers by the table of lawful Content

-- the high bit of a byte first
abbrev high_bit : List ℕ → ℕ → ℕ
high_bit y k = bit_at (get_or y (k / 8) 0) (7 - k % 8)

-- the words f stand at another position
pub record Elsewhere (c : Content) (y : List ℕ) (p : ℕ) (f : List ℕ) : Type 0 where
  pub at : ℕ
  pub other : at ≡ p → ⊥
  pub words : f ≡ frame_at c y at

-- what is found, and where
record CardRead (B : Calls) (c : Content) (y w : List ℕ) : Type 0 where
  at : ℕ
  count : ℕ
  is : B.card_from (write newest c) y 0 w ≡ found_at at count
  said : CardAsSaid B (write newest c) y 0 w at count c

module _ (B : Calls) (D : Demands B) (c : Content) (h : lawful sheet_limits c ≡ true) (some : leb 1 (parameters c) ≡ true) (known : margins_known c ≡ true) where
  checked : B.check (write newest c) ≡ Ok tt
  unfolding first_broken
  checked = same_checked (B.check (write newest c)) (accepts (write newest c)) (D.one.tables (write newest c)) ∙ rw (new_accepted c h)

  module _ (y w : List ℕ) (short : leb (length y) 65536 ≡ true) where
    none_read : any (8 * length y + 1) (sought_at c y 0) ≡ false → carded_number (B.card_from (write newest c) y 0 w) ≡ 25
    unfolding first_broken
    none_read n = D.one.cards (write newest c) y 0 w ∙ rw (new_accepted c h, form_new c h, view_new c h, some, not_first, known, short, n)

    card_read : (k : ℕ) → whole_at c y k ≡ true → agrees_at c y k ≡ true → k < 8 * length y + 1 → leb (frame_words c) (length w) ≡ true → CardRead B c y w
    unfolding first_broken
    card_read k a b l room =
        let n = any_made (8 * length y + 1) (sought_at c y 0) k l (and_both (le-leb 0 k (omega arith)) (and_both a b)) in
        let f = D.two.found (write newest c) y 0 w (rw (new_accepted c h, form_new c h, view_new c h, some, not_first, known, short, n, room)) in
        record { at = f.position; count = frame_words (view (write newest c)); is = f.is; said = subst (CardAsSaid B (write newest c) y 0 w f.position (frame_words (view (write newest c)))) (view_new c h) (card_as_said B D (write newest c) y 0 w f.position (frame_words (view (write newest c))) f.is) }

module _ (B : Calls) (D : Demands B) where
  wall_card : CardRead B tight card words
  unfolding frame_words
  wall_card = card_read B D tight tight_lawful refl tight_known card words refl 0 card_whole card_agrees (omega arith) refl

  wall_shifted : CardRead B tight shifted words
  unfolding frame_words
  wall_shifted = card_read B D tight tight_lawful refl tight_known shifted words refl 4 shifted_whole shifted_agrees (omega arith) refl

  -- always 25
  pub some_card_read : ((t y : List ℕ) (from : ℕ) (w : List ℕ) → B.card_from t y from w ≡ Err NoFrame) → ⊥
  some_card_read u = let e = sym (u (write newest tight) card 0 words) ∙ wall_card.is in let z : ◌≡◌ {A = ℕ} 0 1 = cc in omega arith

  -- steps by whole bytes
  pub not_whole_bytes : ((t y : List ℕ) (from : ℕ) (w : List ℕ) (p n : ℕ) → B.card_from t y from w ≡ found_at p n → p % 8 ≡ 0) → ⊥
  not_whole_bytes u = go wall_shifted.at (u (write newest tight) shifted 0 words wall_shifted.at wall_shifted.count wall_shifted.is) wall_shifted.said.first
    where
      go : (p : ℕ) → p % 8 ≡ 0 → FirstFrame tight shifted 0 p → ⊥
      go p e f = past (dec_lt 4 p)
        where
          past : Dec (4 < p) → ⊥
          past (yes l) = f.none_earlier 4 (omega arith) l shifted_whole shifted_agrees
          past (no l) =
              let z : p ≡ 0 = omega arith in
              differ shifted_differs (subst (λ (k : ℕ). agrees_at tight shifted k ≡ true) z f.agrees)

  -- only subframe 1's identifier compared: no 25 where it agrees
  pub all_identifiers_compared : ((t y : List ℕ) (from : ℕ) (w : List ℕ) (k : ℕ) → B.check t ≡ Ok tt → from ≤ k → whole_at (view t) y k ≡ true
      → differs_in (view t) (frame_at (view t) y k) 1 ≡ false → carded_number (B.card_from t y from w) ≡ 25 → ⊥) → ⊥
  all_identifiers_compared u =
      u (write newest two) half 0 words 0 (checked B D two two_lawful refl two_known) (omega arith)
      (rw (view_new two two_lawful) half_whole)
      (rw (view_new two two_lawful) half_first)
      (none_read B D two two_lawful refl two_known half words refl half_nowhere)

  -- the trailing bits not asked: no 25 where all but the last ones are there
  pub trailing_bits_asked : ((t y : List ℕ) (from : ℕ) (w : List ℕ) (k : ℕ) → B.check t ≡ Ok tt → from ≤ k
      → k + frame_bits (view t) ≤ 8 * length y + margin_bits (subframe (view t) (subframes (view t) - 1)).trailing
      → agrees_at (view t) y k ≡ true → carded_number (B.card_from t y from w) ≡ 25 → ⊥) → ⊥
  trailing_bits_asked u =
      u (write newest trailed) card 0 words 0 (checked B D trailed trailed_lawful refl trailed_known) (omega arith)
      (rw (view_new trailed trailed_lawful) (omega (arith, trailed_bits)))
      (rw (view_new trailed trailed_lawful) trailed_agrees)
      (none_read B D trailed trailed_lawful refl trailed_known card words refl trailed_nowhere)

  -- where the wall's card is found
  at_first : wall_card.at ≡ 0
  at_first = go wall_card.at wall_card.said.first
    where
      go : (p : ℕ) → FirstFrame tight card 0 p → p ≡ 0
      go p f = past (dec_lt 0 p)
        where
          past : Dec (0 < p) → p ≡ 0
          past (yes l) = absurd (f.none_earlier 0 (omega arith) l card_whole card_agrees)
          past (no l) = omega arith

  abbrev handed : List ℕ
  handed = take wall_card.count (B.handed_from (write newest tight) card 0 words)

  handed_is : handed ≡ frame_at tight card 0
  handed_is = sym (carried tight handed wall_card.said.carries) ∙ ap (frame_at tight card) at_first

  -- the high bit of a byte first: of the first word's lowest bit
  pub low_bit_first : ((t y : List ℕ) (from : ℕ) (w : List ℕ) (p n : ℕ) → B.card_from t y from w ≡ found_at p n
      → bit_at (get_or (take n (B.handed_from t y from w)) 0 0) 0 ≡ high_bit y (p + word_begins (view t) 0 0)) → ⊥
  unfolding bit_at word_begins words_begin bits_before
  low_bit_first u =
      let e = u (write newest tight) card 0 words wall_card.at wall_card.count wall_card.is in
      let a : bit_at (get_or handed 0 0) 0 ≡ 1 = ap (λ (f : List ℕ). bit_at (get_or f 0 0) 0) handed_is ∙ ap (λ (x : ℕ). bit_at x 0) first_word in
      let b : high_bit card (wall_card.at + word_begins (view (write newest tight)) 0 0) ≡ 0 = rw (at_first, view_new tight tight_lawful) refl in
      omega (arith, a, b, e)

  -- the words of another position, of whatever other
  pub not_another_position : ((t y : List ℕ) (from : ℕ) (w : List ℕ) (p n : ℕ) → B.card_from t y from w ≡ found_at p n
      → Elsewhere (view t) y p (take n (B.handed_from t y from w))) → ⊥
  not_another_position u =
      let e = u (write newest tight) card 0 words wall_card.at wall_card.count wall_card.is in
      let q = e.at in
      let a : frame_at tight card q ≡ frame_at tight card 0 = sym (ap (λ (c : Content). frame_at c card q) (view_new tight tight_lawful)) ∙ sym e.words ∙ handed_is in
      let b : stream_bit card (q + word_begins tight 0 3 + 2) ≡ stream_bit card (0 + word_begins tight 0 3 + 2) =
      sym (last_bit q) ∙ ap (λ (f : List ℕ). bit_at (get_or f (before (word_counts tight.subframes) 1 + 3) 0) 2) a ∙ last_bit 0 in
      let d : q ≡ 0 → ⊥ = λ z. e.other (z ∙ sym at_first) in
      omega (arith, b, last_set, last_begins, none_behind (q + word_begins tight 0 3 + 2) (behind q (word_begins tight 0 3) last_begins d))
    where
      behind : (q k : ℕ) → k ≡ 36 → (q ≡ 0 → ⊥) → 39 ≤ q + k + 2
      behind q k e d = omega (arith, d)
