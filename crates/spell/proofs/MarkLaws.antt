-- What digits parted by a mark are on each side of it. Assumes nothing.
use native.Mathlib.Omega.{arith}
use mathlib.Core.Path.{◌≡◌, refl, ap, ◌∙◌}
use mathlib.Core.Bool.{Bool, true, false, not, ◌||◌}
use mathlib.Core.List.{List, []}
use Prim.Native.Nat.{ℕ, ◌+◌, ◌*◌, ◌^◌, ◌≤◌, ◌<◌}
use lib.ListN.{length}
use borrow.Author.Tests.{ltb-false, le-leb, lt-ltb}
use Rattle.lay.proofs.Tests.{and_0, and_1, and_both}
use Rattle.text.specs.Parts.{index_of, up_to, past, holds}
use Rattle.text.proofs.Cuts.{drop_end}
use Rattle.spell.specs.Digits.{all_digits, digits_up_to, is_marked}
use Rattle.spell.proofs.DigitLaws.{up_some, up_few, up_digits, ten_six}

or_right : (a b : Bool) → a ≡ true → not a || b ≡ true → b ≡ true
or_right true b e h = h
or_right false b e h = absurd (cc)

-- more digits may be allowed
up_more : (base n m : ℕ) (l : List ℕ) → n ≤ m → digits_up_to base n l ≡ true → digits_up_to base m l ≡ true
unfolding digits_up_to
up_more base n m l h e =
    let k = up_few base n l e in
    and_both (lt-ltb 0 (length l) (up_some base n l e)) (and_both (le-leb (length l) m (omega arith)) (up_digits base n l e))

module _ (mark n m : ℕ) (l : List ℕ) (h : is_marked mark n m l ≡ true) where
  pub mark_left : digits_up_to 10 n (up_to mark l) ≡ true
  unfolding is_marked
  mark_left = and_0 (digits_up_to 10 n (up_to mark l)) (not (holds mark l) || digits_up_to 10 m (past mark l)) h

  rest_holds : not (holds mark l) || digits_up_to 10 m (past mark l) ≡ true
  unfolding is_marked
  rest_holds = and_1 (digits_up_to 10 n (up_to mark l)) (not (holds mark l) || digits_up_to 10 m (past mark l)) h

  pub mark_right : holds mark l ≡ true → digits_up_to 10 m (past mark l) ≡ true
  mark_right e = or_right (holds mark l) (digits_up_to 10 m (past mark l)) e rest_holds

-- nothing follows a mark that is not there
past_none : (mark : ℕ) (l : List ℕ) → holds mark l ≡ false → past mark l ≡ []
unfolding holds past
past_none mark l e =
    let k = ltb-false (index_of mark l) (length l) e in
    drop_end l (index_of mark l + 1) (omega arith)

pub mark_past : (mark n m : ℕ) (l : List ℕ) → is_marked mark n m l ≡ true → all_digits 10 (past mark l) ≡ true
mark_past mark n m l h = go (holds mark l) refl
  where
    none_digits : all_digits 10 [] ≡ true
    none_digits = unfold all_digits in refl

    go : (t : Bool) → holds mark l ≡ t → all_digits 10 (past mark l) ≡ true
    go true e = up_digits 10 m (past mark l) (mark_right mark n m l h e)
    go false e = ap (all_digits 10) (past_none mark l e) ∙ none_digits

-- and with more digits allowed
pub mark_more : (mark n k m : ℕ) (l : List ℕ) → n ≤ k → is_marked mark n m l ≡ true → is_marked mark k m l ≡ true
unfolding is_marked
mark_more mark n k m l i h = and_both (up_more 10 n k (up_to mark l) i (mark_left mark n m l h)) (rest_holds mark n m l h)

-- the number of up to six digits
pub six_small : (v : ℕ) (l : List ℕ) → digits_up_to 10 6 l ≡ true → v < 10 ^ length l → v < 1000000
six_small v l h k = omega (arith, ten_six (length l) (up_few 10 6 l h))

-- in the form that a callee asks for it
pub six_asked : (l s : List ℕ) → s ≡ l → digits_up_to 10 6 l ≡ true → (length s ≤ 10) × (all_digits 10 s ≡ true)
six_asked l s e h = (omega (arith, ap length e, up_few 10 6 l h), ap (all_digits 10) e ∙ up_digits 10 6 l h)

pub six_small_of : (l s : List ℕ) (v : ℕ) → s ≡ l → digits_up_to 10 6 l ≡ true → v < 10 ^ length s → v < 1000000
six_small_of l s v e h k = six_small v l h (rw (← e) k)

-- in the form of a decimal's promise
pub parts_small : (h p : ℕ) → h < 1000000 → p < 1000000 → h * 1000000 + p < 1000000000000
parts_small h p a b = omega arith
