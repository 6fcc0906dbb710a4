-- Components joined to a sample: what 14's tests leave known of the bits that they give and of their overlaps. Assumes nothing.
use mathlib.Core.Path.{◌≡◌, refl, sym, ap, ◌∙◌}
use mathlib.Core.Bool.{Bool, true, false, not, ◌||◌}
use mathlib.Core.List.{List, [], ◌∷◌, ◌++◌}
use Prim.Native.Nat.{ℕ, zero, suc, ◌+◌, ◌-◌, ◌≤◌, ◌<◌}
use native.Mathlib.Omega.{arith}
use borrow.Author.Tests.{leb-false, ltb-true, ltb-false, lt-ltb, le-ltb, eqb-true, not-false}
use lib.Dec.{eqb, leb, ltb}
use lib.ListN.{length, get_or}
use Rattle.std.specs.Prelude.{Ok}
use Rattle.sample.specs.Clash.{twice}
use Rattle.written.proofs.Tests.{neither}
use Rattle.written.proofs.Passing.{when_false}
use Rattle.model.specs.Content.{Component, Sample, no_component, component}
use Rattle.model.specs.Forms.{sheet_limits}
use Rattle.model.specs.Rules.{bit_count, next_bits}
use Rattle.gather.specs.Tests.{spots, given, last_overlap, joined_test, unlike_first, width_test}
use Rattle.gather.proofs.Rows.{Each}

-- ---- what has passed

-- component c behind cs
pub record JoinedLaw (cs : List Component) (c : Component) : Type 0 where
  pub once : twice (spots (cs ++ (c ∷ []))) ≡ false
  pub narrow : given cs + bit_count c ≤ sheet_limits.width
  pub lapped : c.overlap < bit_count c
  pub next : last_overlap cs ≤ bit_count c

pub joined_passed : (cs : List Component) (c : Component) → joined_test cs c ≡ Ok tt → JoinedLaw cs c
unfolding joined_test
joined_passed cs c e =
    let l = leb (bit_count c) c.overlap in
    let n = ltb (bit_count c) (last_overlap cs) in
    let w = ltb sheet_limits.width (given cs + bit_count c) in
    let a = neither (twice (spots (cs ++ (c ∷ [])))) (w || (l || n)) (when_false _ _ e) in
    let b = neither w (l || n) a.1 in
    let d = neither l n b.1 in
    record {
      once = a.0;
      narrow = ltb-false sheet_limits.width (given cs + bit_count c) b.0;
      lapped = leb-false (bit_count c) c.overlap d.0;
      next = ltb-false (bit_count c) (last_overlap cs) d.1;
    }

pub width_passed : (ss : List Sample) (cs : List Component) → width_test ss cs ≡ Ok tt → (last_overlap cs ≡ 0) × (unlike_first ss cs ≡ false)
unfolding width_test
width_passed ss cs e =
    let a = neither (not (eqb (last_overlap cs) 0)) (ltb (given cs) 1 || unlike_first ss cs) (when_false _ _ e) in
    (eqb-true (last_overlap cs) 0 (not-false _ a.0), (neither (ltb (given cs) 1) (unlike_first ss cs) a.1).1)

-- ---- the bits that they give

pub given_join : (cs ds : List Component) → given (cs ++ ds) ≡ given cs + given ds
unfolding given
given_join [] ds = omega arith
given_join (c ∷ cs) ds = omega (arith, given_join cs ds)

pub given_more : (cs : List Component) (c : Component) → given (cs ++ (c ∷ [])) ≡ given cs + (bit_count c - c.overlap)
unfolding given
given_more cs c = omega (arith, given_join cs (c ∷ []))

-- the clause "a width below 1" never fires: each component gives at least one bit
pub given_some : (cs : List Component) → 1 ≤ length cs → Each (λ c. c.overlap < bit_count c) no_component cs → 1 ≤ given cs
unfolding given
given_some [] n h = absurd (omega arith)
given_some (c ∷ cs) n h = omega (arith, h 0 (omega arith))

-- ---- each overlap and the next component

-- no overlap is above the next component's bits
abbrev pub Followed : List Component → Type 0
Followed cs = (k : ℕ) → suc k < length cs → (get_or cs k no_component).overlap ≤ bit_count (get_or cs (suc k) no_component)

pub followed_more : (cs : List Component) (c : Component) → Followed cs → last_overlap cs ≤ bit_count c → Followed (cs ++ (c ∷ []))
unfolding last_overlap
followed_more [] c h n k l = absurd (omega arith)
followed_more (d ∷ []) c h n zero l = n
followed_more (d ∷ []) c h n (suc k) l = absurd (omega arith)
followed_more (d ∷ e ∷ cs) c h n zero l = h 0 (omega arith)
followed_more (d ∷ e ∷ cs) c h n (suc k) l = followed_more (e ∷ cs) c (λ j m. h (suc j) (omega arith)) n k (omega arith)

last_is : (cs : List Component) (k : ℕ) → suc k ≡ length cs → (get_or cs k no_component).overlap ≡ last_overlap cs
unfolding last_overlap
last_is [] k e = absurd (omega arith)
last_is (c ∷ []) zero e = refl
last_is (c ∷ []) (suc k) e = absurd (omega arith)
last_is (c ∷ d ∷ cs) zero e = absurd (omega arith)
last_is (c ∷ d ∷ cs) (suc k) e = last_is (d ∷ cs) k (omega arith)

last_none : (cs : List Component) → ((k : ℕ) → suc k ≡ length cs → (get_or cs k no_component).overlap ≡ 0) → last_overlap cs ≡ 0
last_none [] h = unfold last_overlap in refl
last_none (c ∷ cs) h = sym (last_is (c ∷ cs) (length cs) refl) ∙ h (length cs) refl

module _ (s : Sample) where
  next_inside : (k : ℕ) → suc k < length s.components → next_bits s k ≡ bit_count (component s (suc k))
  unfolding next_bits
  next_inside k l =
      rw (lt-ltb (k + 1) (length s.components) (omega arith)) (ap (λ (n : ℕ). bit_count (component s n)) (omega arith))

  next_last : (k : ℕ) → length s.components ≤ suc k → next_bits s k ≡ 0
  unfolding next_bits
  next_last k l = rw (le-ltb (k + 1) (length s.components) (omega arith))

  -- as the table's rule has it
  abbrev Next : Type 0
  Next = (k : ℕ) → k < length s.components → (component s k).overlap ≤ next_bits s k

  pub overlaps_next : Followed s.components → last_overlap s.components ≡ 0 → Next
  overlaps_next h z k l = go (ltb (suc k) (length s.components)) refl
    where
      go : (t : Bool) → ltb (suc k) (length s.components) ≡ t → (component s k).overlap ≤ next_bits s k
      go true e = let m = ltb-true _ _ e in rw (next_inside k m) (h k m)
      go false e = let m = ltb-false (suc k) (length s.components) e in omega (arith, z, last_is s.components k (omega arith))

  pub next_followed : Next → Followed s.components
  next_followed h k l = omega (arith, h k (omega arith), next_inside k l)

  pub next_none : Next → last_overlap s.components ≡ 0
  next_none h = last_none s.components (λ k e. omega (arith, h k (omega arith), next_last k (omega arith)))
