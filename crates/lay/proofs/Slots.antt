-- An entry of any slots is read back as it was written, and back. Assumes nothing.
use Prim.Native.Nat.{ℕ, zero, suc, ◌+◌, ◌<◌, ◌≤◌}
use mathlib.Core.Path.{◌≡◌, refl, sym, ap, ap₂, ◌∙◌}
use mathlib.Core.Bool.{Bool, true, false, cond, not, ◌&&◌, ◌||◌, true≢false}
use mathlib.Core.Logic.{⊎_elim}
use mathlib.Core.List.{List, [], ◌∷◌, ◌++◌, append_assoc}
use native.Mathlib.Decide.{dec_lt}
use native.Mathlib.Omega.{arith}
use borrow.Author.Tests.{eqb-true, eq-eqb, ltb-true}
use lib.Dec.{eqb, ltb}
use lib.ListN.{length, get_or, drop}
use Rattle.lay.specs.Bytes.{bytes_of, num_at, room, AreBytes, part, put}
use Rattle.lay.specs.Fields.{Field, fld, size, field_bytes}
use Rattle.lay.proofs.Tests.{and_0, and_1, and_both, or_either, not_holds, differ}
use Rattle.lay.proofs.Below.{all_below}
use Rattle.lay.proofs.Bytes.{length_bytes, bytes_num_at}
use Rattle.lay.proofs.Parts.{From, join_parts, past, number_there}
use Rattle.lay.proofs.Fields.{length_fields}
use Rattle.lay.proofs.Puts.{put_none}
use Rattle.lay.specs.Slots.{Slot, span, has, wide_of, offset_of, once, tidy, plain, long, all_plain, fields_by, entry_bytes, item_at, Fits, RoomFor, room_for}

pub room_some : (w : ℕ) → 0 < room w
room_some zero = omega arith
room_some (suc w) = let h = room_some w in omega arith

span_fields : (ss : List Slot) (v : ℕ → ℕ) → size (fields_by ss v) ≡ span ss
span_fields [] v = refl
span_fields (s ∷ ss) v = ap (λ (n : ℕ). s.wide + n) (span_fields ss v)

pub length_entry : (ss : List Slot) (v : ℕ → ℕ) → length (entry_bytes ss v) ≡ span ss
unfolding entry_bytes
length_entry ss v = length_fields (fields_by ss v) ∙ span_fields ss v

-- an item lies in its entry
pub item_ends : (ss : List Slot) (k : ℕ) → offset_of ss k + wide_of ss k ≤ span ss
item_ends [] k = omega arith
item_ends (s ∷ ss) k = go (eqb s.item k) (item_ends ss k)
  where
    go : (t : Bool) → offset_of ss k + wide_of ss k ≤ span ss → cond t 0 (s.wide + offset_of ss k) + cond t s.wide (wide_of ss k) ≤ s.wide + span ss
    go true h = omega arith
    go false h = omega arith

-- ---- written, then read

pub none_there : (b : List ℕ) (o : ℕ) → num_at 0 b o ≡ 0
unfolding num_at
none_there b o = refl

item_there : (ss : List Slot) (v : ℕ → ℕ) (b : List ℕ) (o : ℕ) (r : List ℕ) → drop o b ≡ field_bytes (fields_by ss v) ++ r → (k : ℕ) → v k < room (wide_of ss k) → num_at (wide_of ss k) b (o + offset_of ss k) ≡ v k
item_there [] v b o r h k f = none_there b (o + 0) ∙ (omega arith)
item_there (s ∷ ss) v b o r h k f =
    let x = bytes_of s.wide (v s.item) in
    let e = h ∙ append_assoc x (field_bytes (fields_by ss v)) r in
    go (eqb s.item k) (λ e. eqb-true s.item k e) e
    (λ f. item_there ss v b (o + s.wide) r (past b o s.wide x _ e (length_bytes s.wide (v s.item))) k f)
    f
  where
    go : (t : Bool) → (t ≡ true → s.item ≡ k) → drop o b ≡ bytes_of s.wide (v s.item) ++ (field_bytes (fields_by ss v) ++ r) → (v k < room (wide_of ss k) → num_at (wide_of ss k) b (o + s.wide + offset_of ss k) ≡ v k) → v k < room (cond t s.wide (wide_of ss k)) → num_at (cond t s.wide (wide_of ss k)) b (o + cond t 0 (s.wide + offset_of ss k)) ≡ v k
    go true q e ih f =
        let i = q refl in
        let z : o + 0 ≡ o = omega arith in
        let a = number_there s.wide b o (v s.item) (field_bytes (fields_by ss v) ++ r) e (rw (← i) at f) in
        ap (num_at s.wide b) z ∙ a ∙ ap v i
    go false q e ih f =
        let z : o + (s.wide + offset_of ss k) ≡ o + s.wide + offset_of ss k = omega arith in
        ap (num_at (wide_of ss k) b) z ∙ ih f

pub item_read : (ss : List Slot) (v : ℕ → ℕ) → Fits ss v → (b : List ℕ) (o : ℕ) → From (drop o b) (entry_bytes ss v) → (k : ℕ) → item_at ss b o k ≡ v k
unfolding entry_bytes item_at
item_read ss v f b o d k = item_there ss v b o d.rest d.is k (f k)

-- ---- read, then written

entry_from : (ss : List Slot) (v : ℕ → ℕ) (b : List ℕ) → AreBytes b → (o : ℕ) → once ss ≡ true → o + span ss ≤ length b → ((k : ℕ) → has ss k ≡ true → num_at (wide_of ss k) b (o + offset_of ss k) ≡ v k) → field_bytes (fields_by ss v) ≡ part b o (span ss)
entry_from [] v b y o u l h = refl
entry_from (s ∷ ss) v b y o u l h =
    let w = s.wide in
    let g : has (s ∷ ss) s.item ≡ true = rw (eq-eqb s.item s.item refl) in
    let z : o + 0 ≡ o = omega arith in
    let a : num_at w b o ≡ v s.item = rw (eq-eqb s.item s.item refl, z) at (h s.item g) in
    let n : has ss s.item ≡ false = not_holds _ (and_0 (not (has ss s.item)) (once ss) u) in
    ap₂ ◌++◌
    (ap (bytes_of w) (sym a) ∙ bytes_num_at w b o y (omega arith))
    (entry_from ss v b y (o + w) (and_1 (not (has ss s.item)) (once ss) u) (omega arith) (λ k m. go (eqb s.item k) k refl n m (h k)))
    ∙ join_parts b o w (o + w) (span ss) (w + span ss) refl refl
  where
    go : (t : Bool) (k : ℕ) → eqb s.item k ≡ t → has ss s.item ≡ false → has ss k ≡ true → (cond t true (has ss k) ≡ true → num_at (cond t s.wide (wide_of ss k)) b (o + cond t 0 (s.wide + offset_of ss k)) ≡ v k) → num_at (wide_of ss k) b (o + s.wide + offset_of ss k) ≡ v k
    go true k e n m f = absurd (differ n (rw (eqb-true s.item k e) m))
    go false k e n m f =
        let z : o + s.wide + offset_of ss k ≡ o + (s.wide + offset_of ss k) = omega arith in
        rw z (f m)

-- the items are all below n, and no item has two slots
tidy_once : (n : ℕ) (ss : List Slot) → tidy n ss ≡ true → once ss ≡ true
tidy_once n [] h = refl
tidy_once n (s ∷ ss) h =
    let r = and_1 (ltb s.item n) (not (has ss s.item) && tidy n ss) h in
    and_both (and_0 (not (has ss s.item)) (tidy n ss) r) (tidy_once n ss (and_1 (not (has ss s.item)) (tidy n ss) r))

tidy_below : (n : ℕ) (ss : List Slot) → tidy n ss ≡ true → (k : ℕ) → has ss k ≡ true → k < n
tidy_below n [] h k m = absurd (true≢false (sym m))
tidy_below n (s ∷ ss) h k m =
    let r = and_1 (ltb s.item n) (not (has ss s.item) && tidy n ss) h in
    let a : s.item < n = ltb-true _ _ (and_0 (ltb s.item n) (not (has ss s.item) && tidy n ss) h) in
    go (eqb s.item k) (λ e. eqb-true s.item k e) a (λ m. tidy_below n ss (and_1 (not (has ss s.item)) (tidy n ss) r) k m) m
  where
    go : (t : Bool) → (t ≡ true → s.item ≡ k) → s.item < n → (has ss k ≡ true → k < n) → cond t true (has ss k) ≡ true → k < n
    go true q a ih m = let e = q refl in omega arith
    go false q a ih m = ih m

pub entry_part : (n : ℕ) (ss : List Slot) (v : ℕ → ℕ) (b : List ℕ) → AreBytes b → (o : ℕ) → tidy n ss ≡ true → o + span ss ≤ length b → ((k : ℕ) → k < n → item_at ss b o k ≡ v k) → entry_bytes ss v ≡ part b o (span ss)
unfolding entry_bytes item_at
entry_part n ss v b y o u l h = entry_from ss v b y o (tidy_once n ss u) l (λ k m. h k (tidy_below n ss u k m))

-- only the items that have a slot count
fields_same : (ss : List Slot) (v u : ℕ → ℕ) → ((k : ℕ) → has ss k ≡ true → v k ≡ u k) → fields_by ss v ≡ fields_by ss u
fields_same [] v u h = refl
fields_same (s ∷ ss) v u h =
    let a = h s.item (rw (eq-eqb s.item s.item refl)) in
    ap₂ (λ (x : ℕ) (l : List Field). fld s.wide x ∷ l) a (fields_same ss v u (λ k m. h k (go (eqb s.item k) k m)))
  where
    go : (t : Bool) (k : ℕ) → has ss k ≡ true → cond t true (has ss k) ≡ true
    go true k m = refl
    go false k m = m

pub entry_same : (n : ℕ) (ss : List Slot) → tidy n ss ≡ true → (v u : ℕ → ℕ) → ((k : ℕ) → k < n → v k ≡ u k) → entry_bytes ss v ≡ entry_bytes ss u
unfolding entry_bytes
entry_same n ss t v u h = ap field_bytes (fields_same ss v u (λ k m. h k (tidy_below n ss t k m)))

-- ---- an item of a list

-- each item of a list fits, the first as item k
abbrev pub FitFrom : List Slot → ℕ → List ℕ → Type 0
FitFrom ss k [] = Unit {0}
FitFrom ss k (x ∷ xs) = (x < room (wide_of ss k)) × FitFrom ss (suc k) xs

fit_from : (ss : List Slot) (k : ℕ) (xs : List ℕ) → FitFrom ss k xs → (j : ℕ) → get_or xs j 0 < room (wide_of ss (k + j))
fit_from ss k [] f j = room_some (wide_of ss (k + j))
fit_from ss k (x ∷ xs) f zero = let e : k + 0 ≡ k = omega arith in rw e f.0
fit_from ss k (x ∷ xs) f (suc j) = let e : k + suc j ≡ suc k + j = omega arith in rw e (fit_from ss (suc k) xs f.1 j)

pub fits : (ss : List Slot) (xs : List ℕ) → FitFrom ss 0 xs → Fits ss (λ k. get_or xs k 0)
fits ss xs f k = let e : 0 + k ≡ k = omega arith in rw e at (fit_from ss 0 xs f k)

-- numbers that are not above others fit where those do
abbrev pub MostFrom : List ℕ → List ℕ → Type 0
MostFrom [] ys = Unit {0}
MostFrom (x ∷ xs) [] = ⊥
MostFrom (x ∷ xs) (y ∷ ys) = (x ≤ y) × MostFrom xs ys

most_each : (xs ys : List ℕ) → MostFrom xs ys → (k : ℕ) → get_or xs k 0 ≤ get_or ys k 0
most_each [] ys h k = omega arith
most_each (x ∷ xs) [] h k = absurd h
most_each (x ∷ xs) (y ∷ ys) h zero = h.0
most_each (x ∷ xs) (y ∷ ys) h (suc k) = most_each xs ys h.1 k

pub fits_most : (ss : List Slot) (xs ys : List ℕ) → RoomFor ss ys → MostFrom xs ys → RoomFor ss xs
fits_most ss xs ys r h k = let a = most_each xs ys h k in let e = r k in omega arith

pub room_law : (ss : List Slot) (xs : List ℕ) → room_for ss xs ≡ true → RoomFor ss xs
room_law ss xs h k = go (dec_lt k (length xs))
  where
    beyond : (xs : List ℕ) (k : ℕ) → length xs ≤ k → get_or xs k 0 ≡ 0
    beyond [] k l = refl
    beyond (x ∷ xs) zero l = absurd (omega arith)
    beyond (x ∷ xs) (suc k) l = beyond xs k (omega arith)

    go : Dec (k < length xs) → get_or xs k 0 < room (wide_of ss k)
    go (yes l) = ltb-true _ _ (all_below (length xs) (λ k. ltb (get_or xs k 0) (room (wide_of ss k))) h k l)
    go (no n) = let e = beyond xs k (omega arith) in let z = room_some (wide_of ss k) in omega arith

-- item by item
abbrev pub SameFrom : (ℕ → ℕ) → ℕ → List ℕ → Type 0
SameFrom u k [] = Unit {0}
SameFrom u k (x ∷ xs) = (x ≡ u k) × SameFrom u (suc k) xs

same_from : (u : ℕ → ℕ) (k : ℕ) (xs : List ℕ) → SameFrom u k xs → (j : ℕ) → j < length xs → get_or xs j 0 ≡ u (k + j)
same_from u k [] f j l = absurd (omega arith)
same_from u k (x ∷ xs) f zero l = f.0 ∙ ap u (omega arith)
same_from u k (x ∷ xs) f (suc j) l = same_from u (suc k) xs f.1 j (omega arith) ∙ ap u (omega arith)

pub same_items : (u : ℕ → ℕ) (xs : List ℕ) → SameFrom u 0 xs → (k : ℕ) → k < length xs → get_or xs k 0 ≡ u k
same_items u xs f k l = same_from u 0 xs f k l ∙ ap u (omega arith)

-- ---- widths that the code reads

pub wide_plain : (ss : List Slot) → all_plain ss ≡ true → (k : ℕ) → plain (wide_of ss k) ≡ true
unfolding plain
wide_plain [] h k = refl
wide_plain (s ∷ ss) h k = go (eqb s.item k) (and_0 (plain s.wide) (all_plain ss) h) (wide_plain ss (and_1 (plain s.wide) (all_plain ss) h) k)
  where
    go : (t : Bool) → plain s.wide ≡ true → plain (wide_of ss k) ≡ true → plain (cond t s.wide (wide_of ss k)) ≡ true
    go true a b = a
    go false a b = b

-- a width of a list in which all are plain or 8 wide
pub long_plain : (w : ℕ) → long w ≡ true → (w ≡ 8 → ⊥) → plain w ≡ true
unfolding long
long_plain w h n = ⊎_elim (λ e. absurd (n (eqb-true w 8 e))) (λ p. p) (or_either (eqb w 8) (plain w) h)

-- a width that is none of 1, 2 and 4 is 0
pub plain_none : (w : ℕ) → plain w ≡ true → (w ≡ 1 → ⊥) → (w ≡ 2 → ⊥) → (w ≡ 4 → ⊥) → w ≡ 0
unfolding plain
plain_none w h a b c =
    ⊎_elim (λ e. eqb-true w 0 e)
    (λ h. ⊎_elim (λ e. absurd (a (eqb-true w 1 e)))
    (λ h. ⊎_elim (λ e. absurd (b (eqb-true w 2 e))) (λ e. absurd (c (eqb-true w 4 e))) (or_either (eqb w 2) (eqb w 4) h))
    (or_either (eqb w 1) (eqb w 2 || eqb w 4) h))
    (or_either (eqb w 0) (eqb w 1 || (eqb w 2 || eqb w 4)) h)

pub at_wide : (n w : ℕ) (b : List ℕ) (o r : ℕ) → w ≡ n → r ≡ num_at n b o → r ≡ num_at w b o
at_wide n w b o r e h = h ∙ ap (λ (w : ℕ). num_at w b o) (sym e)

pub at_none : (w : ℕ) (b : List ℕ) (o : ℕ) → w ≡ 0 → 0 ≡ num_at w b o
at_none w b o e = at_wide 0 w b o 0 e (sym (none_there b o))

pub put_wide : (n w : ℕ) (out after : List ℕ) (o x : ℕ) → w ≡ n → after ≡ put out o (bytes_of n x) → after ≡ put out o (bytes_of w x)
put_wide n w out after o x e h = h ∙ ap (λ (w : ℕ). put out o (bytes_of w x)) (sym e)

pub put_nothing : (w : ℕ) (out : List ℕ) (o x : ℕ) → w ≡ 0 → out ≡ put out o (bytes_of w x)
put_nothing w out o x e = put_wide 0 w out out o x e (sym (put_none out o))
