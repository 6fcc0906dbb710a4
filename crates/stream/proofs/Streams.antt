-- Laws of a stream's bits, for every width. Assumes nothing.
use mathlib.Core.Path.{◌≡◌, refl, sym, ap, ◌∙◌}
use mathlib.Core.List.{List}
use Prim.Native.Nat.{ℕ, zero, suc, ◌+◌, ◌-◌, ◌*◌, ◌/◌, ◌%◌, ◌^◌, ◌≤◌, ◌<◌}
use native.Mathlib.Nat.{add_assoc, mul_comm}
use native.Mathlib.Numerals.{add-one}
use native.Mathlib.Decide.{dec_lt}
use native.Mathlib.Omega.{arith}
use lib.ListN.{length, get_or, take, drop}
use lib.Seq.{drop-cons}
use Rattle.bits.specs.Word.{bit_at, field}
use Rattle.bits.proofs.Bits.{stack_low, stack_high, bit_lt, bit_mod, bit_div}
use Rattle.lay.specs.Bytes.{number, num_at, AreBytes}
use Rattle.lay.proofs.Below.{sum_same}
use Rattle.stream.specs.Stream.{stream_bit, bits_from}
use Rattle.stream.specs.Promise.{Window}
use Rattle.stream.proofs.Sums.{field_summed, summed_lt, summed_bit, field_of_summed}

pub stream_bit_lt : (y : List ℕ) (k : ℕ) → stream_bit y k < 2
unfolding stream_bit
stream_bit_lt y k = bit_lt (get_or y (k / 8) 0) (k % 8)

-- ---- a number read from the stream

pub from_lt : (y : List ℕ) (k n : ℕ) → bits_from y k n < 2 ^ n
unfolding bits_from
from_lt y k n = summed_lt (λ j. stream_bit y (k + j)) (λ j. stream_bit_lt y (k + j)) n

-- its bit j is the stream's bit k + j
pub from_bit : (y : List ℕ) (k n j : ℕ) → j < n → bit_at (bits_from y k n) j ≡ stream_bit y (k + j)
unfolding bits_from
from_bit y k n j h = summed_bit (λ j. stream_bit y (k + j)) (λ j. stream_bit_lt y (k + j)) n j h

-- a field of it is the number that stands so many bits further on: no word need be cut out for a component of it
pub field_from_lem : (y : List ℕ) (k b s n : ℕ) → s + n ≤ b → field (bits_from y k b) s n ≡ bits_from y (k + s) n
unfolding bits_from
field_from_lem y k b s n h =
    field_of_summed (λ j. stream_bit y (k + j)) (λ j. stream_bit_lt y (k + j)) b s n h
    ∙ sum_same n _ _ (λ j l. ap (λ (x : ℕ). stream_bit y x * 2 ^ j) (sym (add_assoc k s j)))

-- ---- bytes hold the stream's bits

-- bit i of a byte with a number above it, in the byte and above it
module _ (x z : ℕ) (h : x < 256) where
  low_bit : (i : ℕ) → i < 8 → bit_at (x + z * 256) i ≡ bit_at x i
  low_bit i l = sym (bit_mod (x + z * 256) 8 i l) ∙ ap (λ (w : ℕ). bit_at w i) (stack_low 8 0 z {low = x} h)

  high_bit : (i : ℕ) → bit_at (x + z * 256) (8 + i) ≡ bit_at z i
  high_bit i = sym (bit_div (x + z * 256) 8 i) ∙ ap (λ (w : ℕ). bit_at w i) (stack_high 8 0 z {low = x} h)

-- bit i of the byte at a
byte_bit : (y : List ℕ) (a i : ℕ) → i < 8 → bit_at (get_or y a 0) i ≡ stream_bit y (8 * a + i)
unfolding stream_bit
byte_bit y a i h =
    let d : (8 * a + i) / 8 ≡ a = omega arith in
    let m : (8 * a + i) % 8 ≡ i = omega arith in
    rw (d, m)

-- the m bytes from a on as one number
abbrev pub bytes_at : List ℕ → ℕ → ℕ → ℕ
bytes_at y a zero = 0
bytes_at y a (suc m) = get_or y a 0 + bytes_at y (a + 1) m * 256

pub bytes_bit : (y : List ℕ) (m a : ℕ) → AreBytes y → (i : ℕ) → i < 8 * m → bit_at (bytes_at y a m) i ≡ stream_bit y (8 * a + i)
bytes_bit y zero a b i h = absurd (omega arith)
bytes_bit y (suc m) a b i h = go (bytes_bit y m (a + 1) b) (dec_lt i 8)
  where
    go : ((j : ℕ) → j < 8 * m → bit_at (bytes_at y (a + 1) m) j ≡ stream_bit y (8 * (a + 1) + j)) → Dec (i < 8) → bit_at (get_or y a 0 + bytes_at y (a + 1) m * 256) i ≡ stream_bit y (8 * a + i)
    go more (yes l) = low_bit (get_or y a 0) (bytes_at y (a + 1) m) (b a) i l ∙ byte_bit y a i l
    go more (no l) =
        let j : ℕ = i - 8 in
        let e : i ≡ 8 + j = omega arith in
        let q : 8 * (a + 1) + j ≡ 8 * a + i = omega arith in
        ap (bit_at (get_or y a 0 + bytes_at y (a + 1) m * 256)) e
        ∙ high_bit (get_or y a 0) (bytes_at y (a + 1) m) (b a) j
        ∙ more j (omega arith)
        ∙ ap (stream_bit y) q

-- a field of these bytes is the number in the stream: what the code reads, for every width that they hold
pub field_bytes_lem : (y : List ℕ) (m a : ℕ) → AreBytes y → (s n : ℕ) → s + n ≤ 8 * m → field (bytes_at y a m) s n ≡ bits_from y (8 * a + s) n
unfolding bits_from
field_bytes_lem y m a b s n h =
    field_summed (bytes_at y a m) s n
    ∙ sum_same n _ _
    (λ j l.
    ap (λ (x : ℕ). x * 2 ^ j)
    (bytes_bit y m a b (s + j) (omega arith) ∙ ap (stream_bit y) (sym (add_assoc (8 * a) s j))))

-- ---- what the code loads

-- the number in m bytes is these bytes as one number
number_bytes : (y : List ℕ) (m a : ℕ) → a + m ≤ length y → num_at m y a ≡ bytes_at y a m
unfolding num_at
number_bytes y zero a h = refl
number_bytes y (suc m) a h =
    let l : a < length y = omega arith in
    let e = drop-cons y a 0 l in
    ap (λ (z : List ℕ). number (take (suc m) z)) e
    ∙ ap (λ (n : ℕ). get_or y a 0 + n) (mul_comm 256 (number (take m (drop (suc a) y))))
    ∙ ap (λ (n : ℕ). get_or y a 0 + n * 256) (ap (λ (n : ℕ). number (take m (drop n y))) (sym (add-one a)) ∙ number_bytes y m (a + 1) (omega arith))

pub window_made : (m : ℕ) (y : List ℕ) (a r : ℕ) → AreBytes y → a + m ≤ length y → r ≡ num_at m y a → Window m y a r
window_made m y a r b h e =
    record { reads = λ s n l. ap (λ (w : ℕ). field w s n) (e ∙ number_bytes y m a h) ∙ field_bytes_lem y m a b s n l }

pub window_less : (m k : ℕ) (y : List ℕ) (a r : ℕ) → k ≤ m → Window m y a r → Window k y a r
window_less m k y a r h w = record { reads = λ s n l. w.reads s n (omega arith) }

pub window_three : (y : List ℕ) (a r : ℕ) → AreBytes y → r ≡ get_or y a 0 + 256 * get_or y (a + 1) 0 + 65536 * get_or y (a + 2) 0 → Window 3 y a r
window_three y a r b e =
    let q : a + 1 + 1 ≡ a + 2 = omega arith in
    let w : get_or y a 0 + 256 * get_or y (a + 1) 0 + 65536 * get_or y (a + 2) 0 ≡ bytes_at y a 3 = rw q (omega arith) in
    record { reads = λ s n l. ap (λ (x : ℕ). field x s n) (e ∙ w) ∙ field_bytes_lem y 3 a b s n (omega arith) }
