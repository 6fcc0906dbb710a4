-- There and back: a card written of a frame, with any bits in the margins, before it and behind it, has that frame there. Assumes
-- nothing.
use mathlib.Core.Path.{◌≡◌, sym, ap, ◌∙◌}
use mathlib.Core.Bool.{true}
use mathlib.Core.List.{List, ◌++◌}
use Prim.Native.Nat.{ℕ, ◌+◌, ◌*◌, ◌^◌, ◌/◌, ◌%◌, ◌≤◌, ◌<◌}
use native.Mathlib.Nat.{mul_comm, zero-add, div-one, mod-eq_of_lt, mul-le-mul_right, add-mul, one-mul}
use native.Mathlib.Omega.{arith}
use borrow.Author.Tests.{le-leb, eq-eqb}
use lib.ListN.{length, get_or, length-append, get_or-append}
use lib.Seq.{get_or-append-add, ext_get_or}
use Rattle.bits.specs.Word.{bit_at, field}
use Rattle.lay.specs.Below.{sum, tab}
use Rattle.lay.proofs.Below.{sum_same, sum_const, sum_up, length_tab, get_or_tab, tab_same, length_flat, get_or_flat, flat_same, flat_tab}
use Rattle.stream.specs.Stream.{stream_bit, bits_from}
use Rattle.stream.proofs.Sums.{field_summed}
use Rattle.sample.specs.Flat.{before}
use Rattle.model.specs.Margin.{margin_bits}
use Rattle.model.specs.Content.{Content, subframe, subframes}
use Rattle.model.specs.Samples.{word_counts}
use Rattle.model.specs.Frame.{frame_words, meets}
use Rattle.model.proofs.Frames.{meets_law}
use Rattle.framing.specs.Comparing.{compared_in, compared_number}
use Rattle.carding.specs.Layout.{subframe_bits, bits_before, frame_bits, words_begin, word_begins, word_in, frame_at, Carries}
use Rattle.carding.specs.Writing.{Margins, packed, low_bits, row_bits, subframe_stream, frame_stream, written}
use Rattle.carding.specs.Search.{whole_at, agrees_at, position_from}
use Rattle.carding.proofs.Frames.{before_sum}
use Rattle.carding.proofs.Answers.{found_by}
use Rattle.carding.proofs.Packing.{packed_bit, stream_bits, bits_append, bits_low}

-- ---- a stream that carries a frame

module _ (c : Content) (f : List ℕ) where
  -- word w of subframe i of the frame
  abbrev pub word : ℕ → ℕ → ℕ
  word i w = get_or f (before (word_counts c.subframes) (i + 1) + w) 0

  module _ {y : List ℕ} {p : ℕ} (k : Carries c y p f) where
    carried_word : (i w : ℕ) → i < subframes c → w < (subframe c i).words → word_in c y p i w ≡ word i w
    unfolding word_in bits_from field
    carried_word i w l m =
        let b = (subframe c i).bits in
        let x = word i w in
        sum_same b _ (λ j. bit_at x (0 + j) * 2 ^ j)
        (λ j o. ap (λ (z : ℕ). z * 2 ^ j) (sym (k.bit i w j l m o) ∙ ap (bit_at x) (sym (zero-add j))))
        ∙ sym (field_summed x 0 b)
        ∙ ap (λ (z : ℕ). z % 2 ^ b) (div-one x)
        ∙ mod-eq_of_lt ((meets_law c f k.fits).below i w l m)

    -- it has that frame there, and no other
    pub carried : frame_at c y p ≡ f
    unfolding frame_at frame_words
    carried =
        let n = frame_words c in
        let long = (meets_law c f k.fits).long in
        flat_same (subframes c) _ (λ i. tab (subframe c i).words (λ w. get_or f (sum i (λ k. (subframe c k).words) + w) 0))
        (λ i l. tab_same (subframe c i).words _ _ (λ w m. carried_word i w l m ∙ ap (λ (k : ℕ). get_or f (k + w) 0) (before_sum c i (omega arith))))
        ∙ flat_tab (subframes c) (λ k. (subframe c k).words) (λ k. get_or f k 0)
        ∙ ext_get_or 0 (tab n (λ k. get_or f k 0)) f (length_tab n (λ k. get_or f k 0) ∙ sym long)
        (λ k l. get_or_tab n (λ k. get_or f k 0) 0 k (omega (arith, l, length_tab n (λ k. get_or f k 0))))

    -- and there, or earlier, a frame is found, if its identifiers agree
    pub carried_found : p + frame_bits c ≤ 8 * length y → compared_number (compared_in c f) ≡ 0 → position_from c y 0 ≤ p
    unfolding whole_at agrees_at
    carried_found l e =
        found_by c y 0 p (omega arith) (le-leb _ _ l) (eq-eqb _ _ (ap (λ (g : List ℕ). compared_number (compared_in c g)) carried ∙ e))

-- ---- the card that is written of a frame

low_long : (n x : ℕ) → length (low_bits n x) ≡ n
unfolding low_bits
low_long n x = length_tab n (bit_at x)

module _ (c : Content) (m : Margins) (f : List ℕ) where
  words_long : (i n : ℕ) → sum n (λ w. length (low_bits (subframe c i).bits (word c f i w))) ≡ n * (subframe c i).bits
  words_long i n =
      sum_same n _ (λ w. (subframe c i).bits) (λ w l. low_long (subframe c i).bits (word c f i w))
      ∙ sum_const (subframe c i).bits n
      ∙ mul_comm (subframe c i).bits n

  row_long : (i : ℕ) → length (row_bits c f i) ≡ (subframe c i).words * (subframe c i).bits
  unfolding row_bits
  row_long i = length_flat (subframe c i).words _ ∙ words_long i (subframe c i).words

  abbrev lead : ℕ → List ℕ
  lead i = low_bits (margin_bits (subframe c i).leading) (m.leading i)

  abbrev trail : ℕ → List ℕ
  trail i = low_bits (margin_bits (subframe c i).trailing) (m.trailing i)

  subframe_long : (i : ℕ) → length (subframe_stream c m f i) ≡ subframe_bits (subframe c i)
  unfolding subframe_stream subframe_bits
  subframe_long i =
      let a = length-append (lead i) (row_bits c f i ++ trail i) in
      let b = length-append (row_bits c f i) (trail i) in
      omega (arith, a, b, low_long (margin_bits (subframe c i).leading) (m.leading i), low_long (margin_bits (subframe c i).trailing) (m.trailing i), row_long i)

  stream_before : (i : ℕ) → sum i (λ k. length (subframe_stream c m f k)) ≡ bits_before c i
  unfolding bits_before
  stream_before i = sum_same i _ _ (λ k l. subframe_long k)

  stream_long : length (frame_stream c m f) ≡ bits_before c (subframes c)
  unfolding frame_stream
  stream_long = length_flat (subframes c) (subframe_stream c m f) ∙ stream_before (subframes c)

  module _ (i w j : ℕ) (l : i < subframes c) (n : w < (subframe c i).words) (o : j < (subframe c i).bits) where
    -- bit j of word w lies in the row
    in_row : w * (subframe c i).bits + j < (subframe c i).words * (subframe c i).bits
    in_row =
        let b = (subframe c i).bits in
        let h : (w + 1) * b ≤ (subframe c i).words * b = mul-le-mul_right b (omega arith) in
        omega (arith, h, add-mul w 1 b, one-mul b)

    row_bit : get_or (row_bits c f i) (w * (subframe c i).bits + j) 0 ≡ bit_at (word c f i w) j
    unfolding row_bits low_bits
    row_bit =
        ap (λ (k : ℕ). get_or (row_bits c f i) (k + j) 0) (sym (words_long i w))
        ∙ get_or_flat (subframe c i).words (λ w. low_bits (subframe c i).bits (word c f i w)) 0 w j n (omega (arith, low_long (subframe c i).bits (word c f i w)))
        ∙ get_or_tab (subframe c i).bits (bit_at (word c f i w)) 0 j o

    abbrev place : ℕ
    place = margin_bits (subframe c i).leading + (w * (subframe c i).bits + j)

    subframe_bit : get_or (subframe_stream c m f i) place 0 ≡ bit_at (word c f i w) j
    unfolding subframe_stream
    subframe_bit =
        let k = w * (subframe c i).bits + j in
        let rest = row_bits c f i ++ trail i in
        ap (λ (a : ℕ). get_or (lead i ++ rest) (a + k) 0) (sym (low_long (margin_bits (subframe c i).leading) (m.leading i)))
        ∙ get_or-append-add (lead i) rest k 0
        ∙ get_or-append (row_bits c f i) (trail i) 0 k (omega (arith, row_long i, in_row))
        ∙ row_bit

    in_subframe : place < length (subframe_stream c m f i)
    unfolding subframe_bits
    in_subframe = omega (arith, subframe_long i, in_row)

    frame_bit : get_or (frame_stream c m f) (bits_before c i + place) 0 ≡ bit_at (word c f i w) j
    unfolding frame_stream
    frame_bit =
        ap (λ (a : ℕ). get_or (frame_stream c m f) (a + place) 0) (sym (stream_before i))
        ∙ get_or_flat (subframes c) (subframe_stream c m f) 0 i place l in_subframe
        ∙ subframe_bit

    in_frame : bits_before c i + place < length (frame_stream c m f)
    unfolding bits_before subframe_bits
    in_frame =
        let up = sum_up (subframes c) (λ k. subframe_bits (subframe c k)) i l in
        omega (arith, stream_long, up, in_row)

  -- the frame behind k bits, with n bits behind it
  module _ (k front n back : ℕ) where
    abbrev all : List ℕ
    all = low_bits k front ++ (frame_stream c m f ++ low_bits n back)

    all_bit : (a : ℕ) → a < length (frame_stream c m f) → get_or all (k + a) 0 ≡ get_or (frame_stream c m f) a 0
    all_bit a l =
        ap (λ (b : ℕ). get_or all (b + a) 0) (sym (low_long k front))
        ∙ get_or-append-add (low_bits k front) (frame_stream c m f ++ low_bits n back) a 0
        ∙ get_or-append (frame_stream c m f) (low_bits n back) 0 a l

    pub written_whole : k + frame_bits c ≤ 8 * length (written c m f k front n back)
    unfolding written packed
    written_whole =
        let a = length-append (low_bits k front) (frame_stream c m f ++ low_bits n back) in
        let b = length-append (frame_stream c m f) (low_bits n back) in
        let d = length_tab ((length all + 7) / 8) (λ i. sum 8 (λ j. get_or all (8 * i + j) 0 * 2 ^ j)) in
        omega (arith, a, b, d, low_long k front, stream_long)

    written_bit : (i w j : ℕ) → i < subframes c → w < (subframe c i).words → j < (subframe c i).bits → stream_bit (written c m f k front n back) (k + word_begins c i w + j) ≡ bit_at (word c f i w) j
    unfolding written word_begins words_begin
    written_bit i w j l u o =
        let at : ℕ = margin_bits (subframe c i).leading + (w * (subframe c i).bits + j) in
        let q : k + word_begins c i w + j ≡ k + (bits_before c i + at) = omega arith in
        packed_bit all
        (bits_append (low_bits k front) _ (bits_low k front) (bits_append (frame_stream c m f) _ (stream_bits c m f) (bits_low n back)))
        (k + word_begins c i w + j)
        ∙ ap (λ (a : ℕ). get_or all a 0) q
        ∙ all_bit (bits_before c i + at) (in_frame i w j l u o)
        ∙ frame_bit i w j l u o

    -- for every frame that meets the table, with any margins
    module _ (h : meets c f ≡ true) where
      carries : Carries c (written c m f k front n back) k f
      carries = record { fits = h; bit = λ i w j l u o. sym (written_bit i w j l u o) }

      -- "that frame's words"
      pub there_and_back : frame_at c (written c m f k front n back) k ≡ f
      there_and_back = carried c f carries

      -- found there or earlier, so at the first bit where nothing stands before it
      pub written_found : compared_number (compared_in c f) ≡ 0 → position_from c (written c m f k front n back) 0 ≤ k
      written_found e = carried_found c f carries written_whole e
