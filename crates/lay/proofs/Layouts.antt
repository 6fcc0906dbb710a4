-- A table of any layout: what is laid out is read back, and bytes are the laying of what they say. Assumes nothing.
use Prim.Native.Nat.{ℕ, zero, suc, ◌+◌, ◌*◌, ◌<◌, ◌≤◌}
use mathlib.Core.Path.{◌≡◌, refl, sym, ap, ap₂, ◌∙◌}
use mathlib.Core.Bool.{true}
use mathlib.Core.List.{List, ◌++◌, append_assoc}
use native.Mathlib.Nat.{mul-suc, mul-le-mul_left}
use native.Mathlib.Omega.{arith}
use lib.ListN.{length, drop, length-append}
use lib.Seq.{drop-drop, drop_at}
use Rattle.lay.specs.Below.{sum, flat}
use Rattle.lay.specs.Bytes.{AreBytes, part}
use Rattle.lay.proofs.Below.{sum_up, sum_same, sum_const, length_flat, flat_same}
use Rattle.lay.proofs.Parts.{From, join_parts, flat_part, drop_flat}
use Rattle.lay.specs.Slots.{span, tidy, entry_bytes, item_at, Fits}
use Rattle.lay.specs.Layout.{Layout, Numbers, count, slots_of, many_parts, start_by, end_by, entry_by, counts, row_bytes, laid, head_in, item_in, numbers_in}
use Rattle.lay.proofs.Slots.{length_entry, item_read, entry_part, entry_same}

-- ---- places

pub start_same : (L : Layout) (n m : ℕ → ℕ) (p : ℕ) → ((q : ℕ) → q < p → n q ≡ m q) → start_by L n p ≡ start_by L m p
unfolding start_by
start_same L n m p h = ap (λ (s : ℕ). span L.header + s) (sum_same p _ _ (λ q l. ap (λ (k : ℕ). span (slots_of L q) * k) (h q l)))

sum_le : (p : ℕ) (f g : ℕ → ℕ) → ((q : ℕ) → q < p → f q ≤ g q) → sum p f ≤ sum p g
sum_le zero f g h = omega arith
sum_le (suc p) f g h = let a = sum_le p f g (λ q l. h q (omega arith)) in let e = h p (omega arith) in omega arith

pub start_most : (L : Layout) (n m : ℕ → ℕ) (p : ℕ) → ((q : ℕ) → q < p → n q ≤ m q) → start_by L n p ≤ start_by L m p
unfolding start_by
start_most L n m p h =
    let a = sum_le p (λ q. span (slots_of L q) * n q) (λ q. span (slots_of L q) * m q) (λ q l. mul-le-mul_left (span (slots_of L q)) (h q l)) in
    omega arith

-- an entry's bytes lie before the parts' end
pub row_ends : (L : Layout) (n : ℕ → ℕ) (p : ℕ) → p < many_parts L → start_by L n p + span (slots_of L p) * n p ≤ end_by L n
unfolding start_by
row_ends L n p l = let u = sum_up (many_parts L) (λ q. span (slots_of L q) * n q) p l in omega arith

pub times_ends : (w i n : ℕ) → i < n → w * i + w ≤ w * n
times_ends w i n l = let e = mul-suc w i in let m = mul-le-mul_left w l in omega arith

pub entry_ends : (L : Layout) (n : ℕ → ℕ) (p i : ℕ) → p < many_parts L → i < n p → entry_by L n p i + span (slots_of L p) ≤ end_by L n
unfolding entry_by
entry_ends L n p i l m = let r = row_ends L n p l in let t = times_ends (span (slots_of L p)) i (n p) m in omega arith

-- ---- laid, then read

module _ (L : Layout) (N : Numbers) where
  length_row : (p : ℕ) → length (row_bytes L N p) ≡ span (slots_of L p) * counts N p
  unfolding row_bytes
  length_row p =
      length_flat (counts N p) (λ i. entry_bytes (slots_of L p) (N.item p i))
      ∙ sum_same (counts N p) _ _ (λ i l. length_entry (slots_of L p) (N.item p i))
      ∙ sum_const (span (slots_of L p)) (counts N p)

  rows_before : (p : ℕ) → sum p (λ q. length (row_bytes L N q)) ≡ sum p (λ q. span (slots_of L q) * counts N q)
  rows_before p = sum_same p _ _ (λ q l. length_row q)

  pub length_laid : length (laid L N) ≡ end_by L (counts N)
  unfolding laid start_by
  length_laid =
      length-append (entry_bytes L.header N.head) (flat (many_parts L) (row_bytes L N))
      ∙ ap₂ ◌+◌ (length_entry L.header N.head) (length_flat (many_parts L) (row_bytes L N) ∙ rows_before (many_parts L))

  module _ (r : List ℕ) where
    header_there : From (laid L N ++ r) (entry_bytes L.header N.head)
    unfolding laid
    header_there =
        record { rest = _; is = append_assoc (entry_bytes L.header N.head) (flat (many_parts L) (row_bytes L N)) r }

    row_there : (p : ℕ) → p < many_parts L → From (drop (start_by L (counts N) p) (laid L N ++ r)) (row_bytes L N p)
    unfolding laid start_by
    row_there p l =
        let h = entry_bytes L.header N.head in
        let f = flat (many_parts L) (row_bytes L N) in
        let s = sum p (λ q. length (row_bytes L N q)) in
        let d = drop_flat (many_parts L) (row_bytes L N) p l r in
        let e = drop_at h (f ++ r) (span L.header) (length_entry L.header N.head) in
        record {
          rest = d.rest;
          is =
              ap (λ (m : ℕ). drop (span L.header + m) ((h ++ f) ++ r)) (sym (rows_before p))
              ∙ ap (drop (span L.header + s)) (append_assoc h f r)
              ∙ sym (drop-drop s (span L.header) (h ++ (f ++ r)))
              ∙ ap (drop s) e
              ∙ d.is;
        }

    entry_there : (p i : ℕ) → p < many_parts L → i < counts N p → From (drop (entry_by L (counts N) p i) (laid L N ++ r)) (entry_bytes (slots_of L p) (N.item p i))
    unfolding entry_by row_bytes
    entry_there p i l m =
        let g : ℕ → List ℕ = λ i. entry_bytes (slots_of L p) (N.item p i) in
        let w = row_there p l in
        let d = drop_flat (counts N p) g i m w.rest in
        let s = sum i (λ k. length (g k)) in
        let o = start_by L (counts N) p in
        let e : s ≡ span (slots_of L p) * i = sum_same i _ _ (λ k l. length_entry (slots_of L p) (N.item p k)) ∙ sum_const (span (slots_of L p)) i in
        record {
          rest = d.rest;
          is =
              ap (λ (m : ℕ). drop (o + m) (laid L N ++ r)) (sym e)
              ∙ sym (drop-drop s o (laid L N ++ r))
              ∙ ap (drop s) w.is
              ∙ d.is;
        }

    module _ (f : Fits L.header N.head) where
      pub head_read : (k : ℕ) → head_in L (laid L N ++ r) k ≡ N.head k
      unfolding head_in
      head_read = item_read L.header N.head f (laid L N ++ r) 0 header_there

      pub item_laid : (p i : ℕ) → p < many_parts L → i < counts N p → Fits (slots_of L p) (N.item p i) → (k : ℕ) → item_in L (laid L N ++ r) p i k ≡ N.item p i k
      unfolding item_in entry_by
      item_laid p i l m g k =
          let e = start_same L (λ q. head_in L (laid L N ++ r) (count q)) (counts N) p (λ q l. head_read (count q)) in
          ap (λ (s : ℕ). item_at (slots_of L p) (laid L N ++ r) (s + span (slots_of L p) * i) k) e
          ∙ item_read (slots_of L p) (N.item p i) g (laid L N ++ r) (entry_by L (counts N) p i) (entry_there p i l m) k

-- ---- read, then laid

-- no item of the header or of an entry has two slots, and the items are below h, and below n p in part p
pub record Tidy (L : Layout) (h : ℕ) (n : ℕ → ℕ) : Type 0 where
  pub head : tidy h L.header ≡ true
  pub part : (p : ℕ) → p < many_parts L → tidy (n p) (slots_of L p) ≡ true

module _ (L : Layout) (h : ℕ) (n : ℕ → ℕ) (t : Tidy L h n) where
  pub laid_same : (N M : Numbers) → ((k : ℕ) → k < h → N.head k ≡ M.head k) → ((p : ℕ) → p < many_parts L → counts N p ≡ counts M p) → ((p i : ℕ) → p < many_parts L → i < counts M p → (k : ℕ) → k < n p → N.item p i k ≡ M.item p i k) → laid L N ≡ laid L M
  unfolding laid row_bytes
  laid_same N M e c g =
      ap₂ ◌++◌
      (entry_same h L.header t.head N.head M.head e)
      (flat_same (many_parts L) _ _
      (λ p l.
      ap (λ (m : ℕ). flat m (λ i. entry_bytes (slots_of L p) (N.item p i))) (c p l)
      ∙ flat_same (counts M p) _ _ (λ i m. entry_same (n p) (slots_of L p) (t.part p l) (N.item p i) (M.item p i) (g p i l m))))

  module _ (b : List ℕ) (y : AreBytes b) where
    abbrev said : ℕ → ℕ
    said q = head_in L b (count q)

    pub laid_in : end_by L (λ q. head_in L b (count q)) ≤ length b → laid L (numbers_in L b) ≡ part b 0 (end_by L (λ q. head_in L b (count q)))
    unfolding laid row_bytes start_by head_in item_in entry_by
    laid_in f =
        let w = span L.header in
        let s : ℕ → ℕ = λ q. span (slots_of L q) * said q in
        ap₂ ◌++◌
        (entry_part h L.header (head_in L b) b y 0 t.head (omega arith) (λ k l. refl))
        (flat_part b w (many_parts L) (row_bytes L (numbers_in L b)) s
        (λ p l.
        let v = span (slots_of L p) in
        let o = w + sum p s in
        let u = row_ends L said p l in
        rw (← sum_const v (said p))
        (flat_part b o (said p) (λ i. entry_bytes (slots_of L p) (item_in L b p i)) (λ k. v)
        (λ i m.
        let z = times_ends v i (said p) m in
        entry_part (n p) (slots_of L p) (item_in L b p i) b y (o + v * i) (t.part p l) (omega arith) (λ k l. refl)
        ∙ ap (λ (j : ℕ). part b (o + j) v) (sym (sum_const v i))))))
        ∙ join_parts b 0 w w (sum (many_parts L) s) (w + sum (many_parts L) s) (omega arith) refl
