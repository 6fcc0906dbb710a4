-- A sample's components and what each is of the whole: copies agree exactly where some value has every component as its bits, and
-- that value is raw. Assumes nothing.
use mathlib.Core.Path.{◌≡◌, refl, sym, ap, ap₂, ◌∙◌, subst}
use mathlib.Core.Bool.{Bool, true, false, not, cond}
use mathlib.Core.List.{List, [], ◌∷◌, ◌++◌}
use mathlib.Core.Logic.{◌⊎◌, inl, inr, ◌↔◌}
use Prim.Native.Nat.{ℕ, zero, suc, ◌+◌, ◌*◌, ◌/◌, ◌%◌, ◌^◌, ◌≤◌, ◌<◌}
use native.Mathlib.Nat.{mul_comm, mul-add, mul_assoc, add_assoc, add_comm, mod-one, mod-eq_of_lt}
use native.Mathlib.Decide.{dec_lt}
use native.Mathlib.Omega.{arith}
use borrow.Author.Tests.{eqb-true, eq-eqb, le-ltb}
use lib.Dec.{eqb}
use lib.ListN.{length}
use lib.Pow.{pow-add, mod-pow-add}
use Rattle.bits.specs.Word.{bit_at, field}
use Rattle.bits.proofs.Bits.{stack_low, stack_high, bit_mod, field_lt, field_ext, field_low}
use Rattle.lay.specs.Below.{sum, tab}
use Rattle.lay.proofs.Below.{all_below, all_made, all_same, any_made, sum_up}
use Rattle.lay.proofs.Tests.{differ, refuse}
use Rattle.sample.specs.declared.component.Component.{Component as Piece}
use Rattle.sample.specs.Component.{first_of, bits_of, Place, Names, Named}
use Rattle.sample.specs.Source.{bit_in}
use Rattle.sample.specs.Joining.{part_of, width, join}
use Rattle.sample.proofs.Sources.{join_lt}
use Rattle.model.specs.Content.{Component, Sample, Subframe, component}
use Rattle.model.specs.Limits.{Limits}
use Rattle.model.specs.Samples.{whole, piece, wholes, pieces, width_of, overlapped, place_in, holds_at, holds}
use Rattle.model.specs.Meaning.{OverlapLaw}
use Rattle.model.specs.Rules.{bit_count, next_bits}
use Rattle.model.proofs.Pieces.{piece_whole}

-- ---- pieces in a row

width_more : (cs : List Piece) (c : Piece) → width (cs ++ (c ∷ [])) ≡ width cs + bits_of c
unfolding width
width_more [] c = omega arith
width_more (d ∷ cs) c = omega (arith, width_more cs c)

join_more : (f : List ℕ) (cs : List Piece) (c : Piece) → join f (cs ++ (c ∷ [])) ≡ join f cs + part_of f c * 2 ^ width cs
unfolding join width
join_more f [] c = omega arith
join_more f (d ∷ cs) c =
    ap (λ (x : ℕ). part_of f d + 2 ^ bits_of d * x) (join_more f cs c)
    ∙ ap (λ (x : ℕ). part_of f d + x) (mul-add (2 ^ bits_of d) (join f cs) (part_of f c * 2 ^ width cs) ∙ ap (λ (x : ℕ). 2 ^ bits_of d * join f cs + x) raised)
    ∙ sym (add_assoc (part_of f d) (2 ^ bits_of d * join f cs) (part_of f c * 2 ^ (bits_of d + width cs)))
  where
    raised : 2 ^ bits_of d * (part_of f c * 2 ^ width cs) ≡ part_of f c * 2 ^ (bits_of d + width cs)
    raised =
        sym (mul_assoc (2 ^ bits_of d) (part_of f c) (2 ^ width cs))
        ∙ ap (λ (x : ℕ). x * 2 ^ width cs) (mul_comm (2 ^ bits_of d) (part_of f c))
        ∙ mul_assoc (part_of f c) (2 ^ bits_of d) (2 ^ width cs)
        ∙ ap (λ (x : ℕ). part_of f c * x) (sym (pow-add 2 (bits_of d) (width cs)))

module _ (f : List ℕ) (g : ℕ → Piece) where
  pub width_row : (n : ℕ) → width (tab n g) ≡ sum n (λ k. bits_of (g k))
  width_row zero = unfold width in refl
  width_row (suc n) = width_more (tab n g) (g n) ∙ ap (λ (x : ℕ). x + bits_of (g n)) (width_row n)

  -- where each is its bits of v, they join to v
  held_joins : (v n : ℕ) → ((k : ℕ) → k < n → part_of f (g k) ≡ field v (width (tab k g)) (bits_of (g k))) → join f (tab n g) ≡ v % 2 ^ width (tab n g)
  unfolding field
  held_joins v zero h = unfold join width in sym (mod-one v)
  held_joins v (suc n) h =
      let w = width (tab n g) in
      let b = bits_of (g n) in
      join_more f (tab n g) (g n)
      ∙ ap₂ (λ (x y : ℕ). x + y * 2 ^ w) (held_joins v n (λ k l. h k (omega arith))) (h n (omega arith))
      ∙ add_comm (v % 2 ^ w) (field v w b * 2 ^ w)
      ∙ split
      ∙ ap (λ (m : ℕ). v % 2 ^ m) (add_comm b w ∙ sym (width_more (tab n g) (g n)))
    where
      split : field v (width (tab n g)) (bits_of (g n)) * 2 ^ width (tab n g) + v % 2 ^ width (tab n g) ≡ v % 2 ^ (bits_of (g n) + width (tab n g))
      split = sym (mod-pow-add v (bits_of (g n)) (width (tab n g)))

  -- and each is its bits of what they join to
  part_field : (n k : ℕ) → k < n → part_of f (g k) ≡ field (join f (tab n g)) (width (tab k g)) (bits_of (g k))
  unfolding field part_of
  part_field zero k l = absurd (omega arith)
  part_field (suc n) k l = go (dec_lt k n) (part_field n k)
    where
      above : join f (tab (suc n) g) ≡ join f (tab n g) + part_of f (g n) * 2 ^ width (tab n g)
      above = join_more f (tab n g) (g n)

      low : join f (tab n g) < 2 ^ width (tab n g)
      low = join_lt f (tab n g)

      last : part_of f (g n) ≡ field (join f (tab (suc n) g)) (width (tab n g)) (bits_of (g n))
      last =
          sym (mod-eq_of_lt (field_lt _ _ (bits_of (g n))))
          ∙ ap (λ (x : ℕ). x % 2 ^ bits_of (g n)) (sym (stack_high (width (tab n g)) 0 (part_of f (g n)) low))
          ∙ ap (λ (x : ℕ). x / 2 ^ width (tab n g) % 2 ^ bits_of (g n)) (sym above)

      fits : k < n → width (tab k g) + bits_of (g k) ≤ width (tab n g)
      fits h = omega (arith, width_row k, width_row n, sum_up n (λ k. bits_of (g k)) k h)

      go : Dec (k < n) → (k < n → part_of f (g k) ≡ field (join f (tab n g)) (width (tab k g)) (bits_of (g k))) → part_of f (g k) ≡ field (join f (tab (suc n) g)) (width (tab k g)) (bits_of (g k))
      go (yes h) before =
          before h
          ∙ field_ext (width (tab k g)) (bits_of (g k)) (join f (tab n g)) (join f (tab (suc n) g))
          (λ j a b.
          ap (λ (x : ℕ). bit_at x j) (sym (stack_low (width (tab n g)) 0 (part_of f (g n)) low))
          ∙ bit_mod _ (width (tab n g)) j (omega (arith, fits h, b))
          ∙ ap (λ (x : ℕ). bit_at x j) (sym above))
      go (no h) before = let e : k ≡ n = omega arith in subst (λ (m : ℕ). part_of f (g m) ≡ field (join f (tab (suc n) g)) (width (tab m g)) (bits_of (g m))) (sym e) last

-- ---- a sample

-- what a component holds is its bits, each by itself
part_agree : (f g : List ℕ) (c : Piece) → ((p : Place) → Names c p → bit_in f p ≡ bit_in g p) → part_of f c ≡ part_of g c
unfolding part_of
part_agree f g c h = field_ext (first_of c) (bits_of c) _ _ (λ k a b. h (record { word = c.word; bit = k }) (refl, a, b))

-- what one of a row names, the row names
named_left : (xs ys : List Piece) (p : Place) → Named xs p → Named (xs ++ ys) p
unfolding Named
named_left [] ys p h = absurd h
named_left (x ∷ xs) ys p (inl h) = inl h
named_left (x ∷ xs) ys p (inr h) = inr (named_left xs ys p h)

named_right : (xs ys : List Piece) (p : Place) → Named ys p → Named (xs ++ ys) p
unfolding Named
named_right [] ys p h = h
named_right (x ∷ xs) ys p h = inr (named_right xs ys p h)

named_own : (c : Piece) (p : Place) → Names c p → Named (c ∷ []) p
unfolding Named
named_own c p h = inl h

pub named_tab : (n : ℕ) (g : ℕ → Piece) (k : ℕ) → k < n → (p : Place) → Names (g k) p → Named (tab n g) p
named_tab zero g k l p h = absurd (omega arith)
named_tab (suc n) g k l p h = go (dec_lt k n) (λ m. named_tab n g k m p h)
  where
    go : Dec (k < n) → (k < n → Named (tab n g) p) → Named (tab (suc n) g) p
    go (yes m) before = named_left (tab n g) (g n ∷ []) p (before m)
    go (no m) before =
        let e : k ≡ n = omega arith in
        named_right (tab n g) (g n ∷ []) p (named_own (g n) p (subst (λ (i : ℕ). Names (g i) p) e h))

-- and the other way round
named_append : (xs ys : List Piece) (q : Place) → Named (xs ++ ys) q → Named xs q ⊎ Named ys q
unfolding Named
named_append [] ys q h = inr h
named_append (x ∷ xs) ys q (inl h) = inl (inl h)
named_append (x ∷ xs) ys q (inr h) = go (named_append xs ys q h)
  where
    go : Named xs q ⊎ Named ys q → (Names x q ⊎ Named xs q) ⊎ Named ys q
    go (inl k) = inl (inr k)
    go (inr k) = inr k

pub tab_named : (n : ℕ) (g : ℕ → Piece) (q : Place) (A : Type 0) → ((k : ℕ) → k < n → Names (g k) q → A) → Named (tab n g) q → A
unfolding Named
tab_named zero g q A h e = absurd e
tab_named (suc n) g q A h e = go (tab_named n g q A (λ k l. h k (omega arith))) (named_append (tab n g) (g n ∷ []) q e)
  where
    go : (Named (tab n g) q → A) → Named (tab n g) q ⊎ (Names (g n) q ⊎ ⊥) → A
    go more (inl k) = more k
    go more (inr (inl k)) = h n (omega arith) k
    go more (inr (inr k)) = absurd k

-- a bit that a component gives is one that it names
pub given_named : (subs : List Subframe) (s : Sample) (p : Place) → Named (pieces subs s) p → Named (wholes subs s) p
unfolding pieces wholes
given_named subs s p =
    tab_named (length s.components) (λ k. piece subs (component s k)) p _
    (λ k l n. named_tab (length s.components) (λ k. whole subs (component s k)) k l p (names_more (component s k) n))
  where
    names_more : (c : Component) → Names (piece subs c) p → Names (whole subs c) p
    names_more c n = unfold piece whole in (n.0, n.1, omega (arith, n.2))

pub not_overlapped_lem : (s : Sample) → overlapped s ≡ false → (k : ℕ) → k < length s.components → (component s k).overlap ≡ 0
unfolding overlapped
not_overlapped_lem s h k l =
    eqb-true _ _ (not_not _ (not_false_any (λ e. differ h (any_made (length s.components) (λ k. not (eqb (component s k).overlap 0)) k l e))))
  where
    not_false_any : {t : Bool} → (t ≡ true → ⊥) → t ≡ false
    not_false_any n = sym (refuse _ n)

    not_not : (t : Bool) → not t ≡ false → t ≡ true
    not_not true e = refl
    not_not false e = sym e

-- the last one overlaps none
pub last_none : (lim : Limits) (s : Sample) (k : ℕ) → OverlapLaw lim s k → length s.components ≤ k + 1 → (component s k).overlap ≡ 0
unfolding next_bits
last_none lim s k r h =
    omega (arith, r.next, ap (λ (t : Bool). cond t (bit_count (component s (k + 1))) 0) (le-ltb (k + 1) (length s.components) h))

module _ (subs : List Subframe) (s : Sample) where
  abbrev given : ℕ → Piece
  given k = piece subs (component s k)

  place_is : (k : ℕ) → place_in subs s k ≡ width (tab k given)
  unfolding place_in
  place_is k = sym (width_row [] given k)

  pub width_is : width_of subs s ≡ place_in subs s (length s.components)
  unfolding width_of pieces
  width_is = sym (place_is (length s.components))

  module _ (f : List ℕ) where
    -- the bits that a component gives are the low ones of what it holds
    given_low : (k : ℕ) → part_of f (given k) ≡ part_of f (whole subs (component s k)) % 2 ^ bits_of (given k)
    unfolding part_of whole piece
    given_low k = sym (field_low _ _ (bits_of (whole subs (component s k))) (bits_of (given k)) (omega arith))

    held_given : (v k : ℕ) → holds_at subs f s v k ≡ true → part_of f (given k) ≡ field v (place_in subs s k) (bits_of (given k))
    unfolding holds_at
    held_given v k h =
        given_low k
        ∙ ap (λ (x : ℕ). x % 2 ^ bits_of (given k)) (eqb-true _ _ h)
        ∙ field_low v (place_in subs s k) (bits_of (whole subs (component s k))) (bits_of (given k)) (unfold whole piece in omega arith)

    -- a value that has every component as its bits is raw
    pub held_raw : (v : ℕ) → holds subs f s v ≡ true → v < 2 ^ width_of subs s → join f (pieces subs s) ≡ v
    unfolding holds pieces width_of
    held_raw v h l =
        held_joins f given v (length s.components)
        (λ k m. held_given v k (all_below (length s.components) (holds_at subs f s v) h k m) ∙ ap (λ (p : ℕ). field v p (bits_of (given k))) (place_is k))
        ∙ mod-eq_of_lt l

    -- the copies agree exactly where there is such a value: it makes no difference which of them stands
    pub agree_exactly : (holds subs f s (join f (pieces subs s)) ≡ true) ↔ ((v : ℕ) × ((v < 2 ^ width_of subs s) × (holds subs f s v ≡ true)))
    unfolding width_of
    agree_exactly = (
      λ h. (join f (pieces subs s), (join_lt f (pieces subs s), h)),
      λ r. subst (λ (v : ℕ). holds subs f s v ≡ true) (sym (held_raw r.0 r.1.1 r.1.0)) r.1.1,
    )

    -- with no overlap they always agree
    pub plain_holds : ((k : ℕ) → k < length s.components → (component s k).overlap ≡ 0) → holds subs f s (join f (pieces subs s)) ≡ true
    unfolding holds holds_at pieces
    plain_holds z =
        all_made (length s.components) (holds_at subs f s (join f (pieces subs s)))
        (λ k l.
        let e = piece_whole subs (component s k) (z k l) in
        eq-eqb _ _
        (ap (part_of f) (sym e)
        ∙ part_field f given (length s.components) k l
        ∙ ap₂ (λ (p : ℕ) (c : Piece). field (join f (pieces subs s)) p (bits_of c)) (sym (place_is k)) e))

  -- two frames that agree at every bit that a component names hold a value alike
  pub holds_agree : (f g : List ℕ) (v : ℕ) → ((p : Place) → Named (wholes subs s) p → bit_in f p ≡ bit_in g p) → holds subs f s v ≡ holds subs g s v
  unfolding holds holds_at wholes
  holds_agree f g v h =
      all_same (length s.components) (holds_at subs f s v) (holds_at subs g s v)
      (λ k l.
      ap (λ (x : ℕ). eqb x (field v (place_in subs s k) (bits_of (whole subs (component s k)))))
      (part_agree f g (whole subs (component s k)) (λ p n. h p (named_tab (length s.components) (λ k. whole subs (component s k)) k l p n))))
