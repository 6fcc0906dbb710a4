-- Bits packed into bytes are the stream's bits. Assumes nothing.
use mathlib.Core.Path.{◌≡◌, sym, ap, ◌∙◌}
use mathlib.Core.List.{List, [], ◌∷◌, ◌++◌}
use Prim.Native.Nat.{ℕ, zero, suc, ◌+◌, ◌*◌, ◌/◌, ◌%◌, ◌^◌, ◌<◌}
use native.Mathlib.Nat.{zero-div}
use native.Mathlib.Decide.{dec_lt}
use native.Mathlib.Omega.{arith}
use lib.Dec.{lit<}
use lib.ListN.{length, get_or, get_or-eq_default}
use Rattle.bits.specs.Word.{bit_at}
use Rattle.bits.proofs.Bits.{bit_lt}
use Rattle.lay.specs.Below.{sum, tab, flat}
use Rattle.lay.proofs.Below.{length_tab, get_or_tab}
use Rattle.stream.specs.Stream.{stream_bit}
use Rattle.stream.proofs.Sums.{summed_bit}
use Rattle.model.specs.Margin.{margin_bits}
use Rattle.model.specs.Content.{Content, subframe, subframes}
use Rattle.carding.specs.Writing.{Margins, packed, low_bits, row_bits, subframe_stream, frame_stream}

-- ---- lists of bits

abbrev pub AreBits : List ℕ → Type 0
AreBits xs = (k : ℕ) → get_or xs k 0 < 2

bits_none : AreBits []
bits_none k = lit< tt

bits_cons : (x : ℕ) (xs : List ℕ) → x < 2 → AreBits xs → AreBits (x ∷ xs)
bits_cons x xs h b zero = h
bits_cons x xs h b (suc k) = b k

pub bits_append : (xs ys : List ℕ) → AreBits xs → AreBits ys → AreBits (xs ++ ys)
bits_append [] ys a b = b
bits_append (x ∷ xs) ys a b = bits_cons x (xs ++ ys) (a 0) (bits_append xs ys (λ k. a (suc k)) b)

bits_tab : (n : ℕ) (f : ℕ → ℕ) → ((k : ℕ) → f k < 2) → AreBits (tab n f)
bits_tab zero f h = bits_none
bits_tab (suc n) f h = bits_append (tab n f) (f n ∷ []) (bits_tab n f h) (bits_cons (f n) [] (h n) bits_none)

bits_flat : (n : ℕ) (f : ℕ → List ℕ) → ((k : ℕ) → AreBits (f k)) → AreBits (flat n f)
bits_flat zero f h = bits_none
bits_flat (suc n) f h = bits_append (flat n f) (f n) (bits_flat n f h) (h n)

pub bits_low : (n x : ℕ) → AreBits (low_bits n x)
unfolding low_bits
bits_low n x = bits_tab n (bit_at x) (bit_lt x)

pub stream_bits : (c : Content) (m : Margins) (f : List ℕ) → AreBits (frame_stream c m f)
unfolding frame_stream subframe_stream row_bits
stream_bits c m f =
    bits_flat (subframes c) (subframe_stream c m f)
    (λ i.
    bits_append (low_bits (margin_bits (subframe c i).leading) (m.leading i)) _ (bits_low (margin_bits (subframe c i).leading) (m.leading i))
    (bits_append (row_bits c f i) (low_bits (margin_bits (subframe c i).trailing) (m.trailing i))
    (bits_flat (subframe c i).words _ (λ w. bits_low (subframe c i).bits _))
    (bits_low (margin_bits (subframe c i).trailing) (m.trailing i))))

-- ---- packed

no_bits : (k : ℕ) → bit_at 0 k ≡ 0
unfolding bit_at
no_bits k = rw (zero-div (2 ^ k))

pub packed_bit : (xs : List ℕ) → AreBits xs → (k : ℕ) → stream_bit (packed xs) k ≡ get_or xs k 0
unfolding stream_bit packed
packed_bit xs b k = go (dec_lt (k / 8) ((length xs + 7) / 8))
  where
    go : Dec (k / 8 < (length xs + 7) / 8) → bit_at (get_or (tab ((length xs + 7) / 8) (λ i. sum 8 (λ j. get_or xs (8 * i + j) 0 * 2 ^ j))) (k / 8) 0) (k % 8) ≡ get_or xs k 0
    go (yes l) =
        let q : 8 * (k / 8) + k % 8 ≡ k = omega arith in
        ap (λ (x : ℕ). bit_at x (k % 8)) (get_or_tab ((length xs + 7) / 8) (λ i. sum 8 (λ j. get_or xs (8 * i + j) 0 * 2 ^ j)) 0 (k / 8) l)
        ∙ summed_bit (λ j. get_or xs (8 * (k / 8) + j) 0) (λ j. b (8 * (k / 8) + j)) 8 (k % 8) (omega arith)
        ∙ ap (λ (m : ℕ). get_or xs m 0) q
    go (no l) =
        let m = length_tab ((length xs + 7) / 8) (λ i. sum 8 (λ j. get_or xs (8 * i + j) 0 * 2 ^ j)) in
        ap (λ (x : ℕ). bit_at x (k % 8)) (get_or-eq_default (tab ((length xs + 7) / 8) (λ i. sum 8 (λ j. get_or xs (8 * i + j) 0 * 2 ^ j))) 0 (omega (arith, m)))
        ∙ no_bits (k % 8)
        ∙ sym (get_or-eq_default xs 0 (omega arith))
