-- Items written each at its place, in any order, are the entry: so what writes an entry need not know the order in which its
-- form stores it. Assumes nothing.
use Prim.Native.Nat.{ℕ, ◌+◌, ◌≤◌, ◌<◌}
use mathlib.Core.Path.{◌≡◌, refl, sym, ap, ap₂, ◌∙◌}
use mathlib.Core.Bool.{Bool, true, false, cond, not, ◌&&◌, true≢false}
use mathlib.Core.List.{List, [], ◌∷◌, ◌++◌, append_assoc}
use native.Mathlib.Omega.{arith}
use borrow.Author.Tests.{eqb-true, ltb-true}
use lib.Dec.{eqb, ltb}
use lib.ListN.{length, take, drop, length-append, length-drop, take-append-drop}
use lib.Seq.{take-add, take-append-add, drop-append-add, take-append-le, drop-append-le, drop_at, drop-drop, length-take-le}
use Rattle.lay.specs.Below.{all}
use Rattle.lay.specs.Bytes.{bytes_of, put}
use Rattle.lay.specs.Fields.{field_bytes}
use Rattle.lay.specs.Slots.{Slot, span, has, wide_of, offset_of, tidy, fields_by, entry_bytes}
use Rattle.lay.specs.Reading.{place_of}
use Rattle.lay.specs.declared.item.Place.{Place}
use Rattle.lay.proofs.Tests.{and_0, and_1, not_holds}
use Rattle.lay.proofs.Below.{all_below}
use Rattle.lay.proofs.Bytes.{length_bytes}
use Rattle.lay.proofs.Puts.{length_put, put_none, put_front}
use Rattle.lay.proofs.Slots.{item_ends}

-- ---- bytes written within others

put_past : (a r : List ℕ) (q : ℕ) (x : List ℕ) → put (a ++ r) (length a + q) x ≡ a ++ put r q x
unfolding put
put_past a r q x =
    let e : length a + q + length x ≡ length a + (q + length x) = omega arith in
    rw (e, take-append-add a r q, drop-append-add a r (q + length x)) (append_assoc a (take q r) (x ++ drop (q + length x) r))

put_before : (e d : List ℕ) (q : ℕ) (x : List ℕ) → q + length x ≤ length e → put (e ++ d) q x ≡ put e q x ++ d
unfolding put
put_before e d q x h =
    rw (take-append-le q e d (omega arith), drop-append-le (q + length x) e d h)
    (sym (append_assoc (take q e) (x ++ drop (q + length x) e) d ∙ ap (λ (l : List ℕ). take q e ++ l) (append_assoc x (drop (q + length x) e) d)))

put_in : (first e x : List ℕ) (o q : ℕ) → o + length e ≤ length first → q + length x ≤ length e → put (put first o e) (o + q) x ≡ put first o (put e q x)
unfolding put
put_in first e x o q h i =
    let d = drop (o + length e) first in
    let t = length-take-le o first (omega arith) in
    ap (λ (m : ℕ). put (take o first ++ (e ++ d)) (m + q) x) (sym t)
    ∙ put_past (take o first) (e ++ d) q x
    ∙ ap (λ (l : List ℕ). take o first ++ l) (put_before e d q x i)
    ∙ ap (λ (m : ℕ). take o first ++ (put e q x ++ drop (o + m) first)) (sym (length_put e q x i))

put_same : (first : List ℕ) (o w : ℕ) → o + w ≤ length first → put first o (take w (drop o first)) ≡ first
unfolding put
put_same first o w h =
    let d = length-drop o first in
    let n = length-take-le w (drop o first) (omega arith) in
    rw (n, ← drop-drop w o first, take-append-drop w (drop o first)) (take-append-drop o first)

-- ---- an entry of which some items are written

-- the items of which d says so are v's, the others are as they were in b
mixed : List Slot → (ℕ → ℕ) → (ℕ → Bool) → List ℕ → List ℕ
mixed [] v d b = []
mixed (s ∷ ss) v d b = cond (d s.item) (bytes_of s.wide (v s.item)) (take s.wide b) ++ mixed ss v d (drop s.wide b)

-- one item more
also : ℕ → (ℕ → Bool) → ℕ → Bool
also k d j = cond (eqb j k) true (d j)

module _ (v : ℕ → ℕ) where
  mixed_none : (ss : List Slot) (b : List ℕ) → mixed ss v (λ k. false) b ≡ take (span ss) b
  unfolding mixed
  mixed_none [] b = refl
  mixed_none (s ∷ ss) b =
      ap (λ (l : List ℕ). take s.wide b ++ l) (mixed_none ss (drop s.wide b)) ∙ sym (take-add s.wide (span ss) b)

  mixed_all : (n : ℕ) (ss : List Slot) (d : ℕ → Bool) (b : List ℕ) → tidy n ss ≡ true → ((k : ℕ) → k < n → d k ≡ true) → mixed ss v d b ≡ field_bytes (fields_by ss v)
  unfolding mixed
  mixed_all n [] d b t h = refl
  mixed_all n (s ∷ ss) d b t h =
      let r = and_1 (ltb s.item n) (not (has ss s.item) && tidy n ss) t in
      let l = ltb-true _ _ (and_0 (ltb s.item n) (not (has ss s.item) && tidy n ss) t) in
      ap₂ (λ (u : Bool) (x : List ℕ). cond u (bytes_of s.wide (v s.item)) (take s.wide b) ++ x)
      (h s.item l)
      (mixed_all n ss d (drop s.wide b) (and_1 (not (has ss s.item)) (tidy n ss) r) h)

  front_long : (s : Slot) (u : Bool) (b : List ℕ) → s.wide ≤ length b → length (cond u (bytes_of s.wide (v s.item)) (take s.wide b)) ≡ s.wide
  front_long s true b h = length_bytes s.wide (v s.item)
  front_long s false b h = length-take-le s.wide b h

  mixed_long : (ss : List Slot) (d : ℕ → Bool) (b : List ℕ) → span ss ≤ length b → length (mixed ss v d b) ≡ span ss
  unfolding mixed
  mixed_long [] d b h = refl
  mixed_long (s ∷ ss) d b h =
      let e = length-drop s.wide b in
      length-append (cond (d s.item) (bytes_of s.wide (v s.item)) (take s.wide b)) (mixed ss v d (drop s.wide b))
      ∙ ap₂ ◌+◌ (front_long s (d s.item) b (omega arith)) (mixed_long ss d (drop s.wide b) (omega arith))

  -- an item that has no slot changes nothing
  absent : (ss : List Slot) (d : ℕ → Bool) (k : ℕ) (b : List ℕ) → has ss k ≡ false → mixed ss v (also k d) b ≡ mixed ss v d b
  unfolding mixed also
  absent [] d k b h = refl
  absent (s ∷ ss) d k b h = go (eqb s.item k) h (λ h. absent ss d k (drop s.wide b) h)
    where
      go : (t : Bool) → cond t true (has ss k) ≡ false → (has ss k ≡ false → mixed ss v (also k d) (drop s.wide b) ≡ mixed ss v d (drop s.wide b)) → cond (cond t true (d s.item)) (bytes_of s.wide (v s.item)) (take s.wide b) ++ mixed ss v (also k d) (drop s.wide b) ≡ cond (d s.item) (bytes_of s.wide (v s.item)) (take s.wide b) ++ mixed ss v d (drop s.wide b)
      go true h ih = absurd (true≢false h)
      go false h ih = ap (λ (l : List ℕ). cond (d s.item) (bytes_of s.wide (v s.item)) (take s.wide b) ++ l) (ih h)

  mixed_more : (n : ℕ) (ss : List Slot) (d : ℕ → Bool) (k : ℕ) (b : List ℕ) → tidy n ss ≡ true → span ss ≤ length b → put (mixed ss v d b) (offset_of ss k) (bytes_of (wide_of ss k) (v k)) ≡ mixed ss v (also k d) b
  unfolding mixed also
  mixed_more n [] d k b t h = put_none [] 0
  mixed_more n (s ∷ ss) d k b t h =
      let r = and_1 (ltb s.item n) (not (has ss s.item) && tidy n ss) t in
      let e = length-drop s.wide b in
      go (eqb s.item k) (λ e. eqb-true s.item k e) (not_holds _ (and_0 (not (has ss s.item)) (tidy n ss) r)) (front_long s (d s.item) b (omega arith))
      (mixed_more n ss d k (drop s.wide b) (and_1 (not (has ss s.item)) (tidy n ss) r) (omega arith))
    where
      R : List ℕ
      R = mixed ss v d (drop s.wide b)

      A : List ℕ
      A = cond (d s.item) (bytes_of s.wide (v s.item)) (take s.wide b)

      go : (t : Bool) → (t ≡ true → s.item ≡ k) → has ss s.item ≡ false → length (cond (d s.item) (bytes_of s.wide (v s.item)) (take s.wide b)) ≡ s.wide → put (mixed ss v d (drop s.wide b)) (offset_of ss k) (bytes_of (wide_of ss k) (v k)) ≡ mixed ss v (also k d) (drop s.wide b) → put (cond (d s.item) (bytes_of s.wide (v s.item)) (take s.wide b) ++ mixed ss v d (drop s.wide b)) (cond t 0 (s.wide + offset_of ss k)) (bytes_of (cond t s.wide (wide_of ss k)) (v k)) ≡ cond (cond t true (d s.item)) (bytes_of s.wide (v s.item)) (take s.wide b) ++ mixed ss v (also k d) (drop s.wide b)
      go true q a l ih =
          let x = bytes_of s.wide (v k) in
          let i = q refl in
          put_front (A ++ R) x
          ∙ ap₂ ◌++◌ (ap (λ (j : ℕ). bytes_of s.wide (v j)) (sym i))
          (drop_at A R (length x) (l ∙ sym (length_bytes s.wide (v k))) ∙ sym (absent ss d k (drop s.wide b) (rw (← i) a)))
      go false q a l ih =
          ap (λ (m : ℕ). put (A ++ R) (m + offset_of ss k) (bytes_of (wide_of ss k) (v k))) (sym l)
          ∙ put_past A R (offset_of ss k) (bytes_of (wide_of ss k) (v k))
          ∙ ap (λ (l : List ℕ). A ++ l) ih

-- ---- from no item to all

abbrev among : List ℕ → ℕ → Bool
among [] j = false
among (k ∷ ks) j = cond (eqb j k) true (among ks j)

-- now is first with the items ks of an entry at o
pub Done : List Slot → (ℕ → ℕ) → List ℕ → ℕ → List ℕ → List ℕ → Type 0
Done ss v first o ks now = now ≡ put first o (mixed ss v (among ks) (drop o first))

module _ (n : ℕ) (ss : List Slot) (v : ℕ → ℕ) (first : List ℕ) (o : ℕ) (t : tidy n ss ≡ true) (h : o + span ss ≤ length first) where
  pub none_done : Done ss v first o [] first
  unfolding Done
  none_done = sym (ap (put first o) (mixed_none v ss (drop o first)) ∙ put_same first o (span ss) h)

  pub one_done : (ks : List ℕ) (k : ℕ) (mid after : List ℕ) (p : Place) (x : ℕ) → Done ss v first o ks mid → p ≡ place_of ss k → x ≡ v k → after ≡ put mid (o + p.at) (bytes_of p.wide x) → Done ss v first o (k ∷ ks) after
  unfolding Done also
  one_done ks k mid after p x m q z a =
      let e = length-drop o first in
      let l = mixed_long v ss (among ks) (drop o first) (omega arith) in
      let i = item_ends ss k in
      let w = length_bytes (wide_of ss k) (v k) in
      a
      ∙ ap₂ (λ (p : Place) (x : ℕ). put mid (o + p.at) (bytes_of p.wide x)) q z
      ∙ ap (λ (b : List ℕ). put b (o + offset_of ss k) (bytes_of (wide_of ss k) (v k))) m
      ∙ put_in first (mixed ss v (among ks) (drop o first)) (bytes_of (wide_of ss k) (v k)) o (offset_of ss k) (omega arith) (omega arith)
      ∙ ap (put first o) (mixed_more v n ss (among ks) k (drop o first) t (omega arith))

  pub all_done : (ks : List ℕ) (now : List ℕ) → all n (among ks) ≡ true → Done ss v first o ks now → now ≡ put first o (entry_bytes ss v)
  unfolding Done entry_bytes
  all_done ks now g m = m ∙ ap (put first o) (mixed_all v n ss (among ks) (drop o first) t (all_below n (among ks) g))
