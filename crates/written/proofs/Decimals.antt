-- What the decimals take, exactly: digits, or digits, a point and 1 to 6 digits. Assumes nothing.
use native.Mathlib.Omega.{arith}
use native.Mathlib.Nat.{add-zero}
use mathlib.Core.Path.{◌≡◌, refl, sym, ap, subst, ◌∙◌}
use mathlib.Core.Logic.{◌↔◌, ◌⊎◌, inl, inr, ⊎_elim}
use mathlib.Core.Bool.{true, not}
use mathlib.Core.List.{List, []}
use Prim.Native.Nat.{ℕ, ◌+◌, ◌*◌}
use borrow.Author.Tests.{not-false}
use Rattle.text.specs.Parts.{up_to, past}
use Rattle.std.specs.Prelude.{Ok}
use Rattle.spell.specs.Digits.{place_of, places, number}
use Rattle.spell.specs.Decimals.{point, million, is_decimal, millionths, decimal_judged, decimal_of, delay_judged}
use Rattle.written.specs.Words.{Numeral, Marked, IsDecimal}
use Rattle.text.proofs.Order.{says_ok, ok_says}
use Rattle.written.proofs.Passing.{first_all, all_first, when_false, false_when}
use Rattle.written.proofs.Marks.{without_past}
use Rattle.written.proofs.MarkedNumerals.{Cases, test_cases, alone_left, alone_test, marked_left, marked_right, marked_test}
use Rattle.written.proofs.Numerals.{numeral_without}
use Rattle.written.proofs.Empty.{or_empty, empty_or, marked_some}

not_written : places 10 6 0 [] ≡ 0
unfolding places place_of
not_written = refl

-- digits alone: no millionth more
alone_millionths : (n : ℕ) (f : List ℕ) → Numeral 10 n f → millionths f ≡ number 10 f * million
unfolding millionths
alone_millionths n f d =
    rw (alone_left point n (omega arith) d, without_past point f (numeral_without point (omega arith) d), not_written) (add-zero _)

pointed_millionths : (n : ℕ) (f x y : List ℕ) → Marked point n 6 f x y → millionths f ≡ number 10 x * million + places 10 6 0 y
unfolding millionths
pointed_millionths n f x y w = rw (marked_left point n 6 (omega arith) w, marked_right point n 6 (omega arith) w)

-- the test of a decimal, and its millionths
pub test_decimal : (n : ℕ) (f : List ℕ) → is_decimal n f ≡ true → IsDecimal n f (millionths f)
test_decimal n f e = go (test_cases point n 6 f e)
  where
    go : Cases point n 6 f → IsDecimal n f (millionths f)
    go (inl c) = inl (record { digits = c.1; value = alone_millionths n f c.1 })
    go (inr c) = inr (record { before = up_to point f; after = past point f; digits = c.1; value = pointed_millionths n f (up_to point f) (past point f) c.1 })

pub decimal_test : (n : ℕ) (f : List ℕ) (v : ℕ) → IsDecimal n f v → (is_decimal n f ≡ true) × (v ≡ millionths f)
decimal_test n f v (inl w) = (alone_test point n (omega arith) w.digits 6, w.value ∙ sym (alone_millionths n f w.digits))
decimal_test n f v (inr p) =
    (marked_test point n 6 (omega arith) p.digits, p.value ∙ sym (pointed_millionths n f p.before p.after p.digits))

pub decimal_exactly : (n : ℕ) (f : List ℕ) (v : ℕ) → (decimal_of n f ≡ Ok v) ↔ IsDecimal n f v
unfolding decimal_of decimal_judged
decimal_exactly n f v = (
  λ e.
      let s = says_ok (decimal_judged n f) (millionths f) v e in
      let p = first_all _ s.0 in
      subst (λ (k : ℕ). IsDecimal n f k) (sym s.1) (test_decimal n f (not-false _ (when_false _ _ p.1.0))),
  λ d.
      let t = decimal_test n f v d in
      ok_says (decimal_judged n f) (millionths f) v
      (all_first _ (false_when _ _ (marked_some point n 6 f t.0), (false_when _ _ (ap not t.0), tt)))
      t.1,
)

-- empty, or a decimal with up to 6 digits before the point
pub delay_exactly : (f : List ℕ) → (delay_judged f ≡ Ok tt) ↔ ((f ≡ []) ⊎ ((v : ℕ) × IsDecimal 6 f v))
unfolding delay_judged
delay_exactly f = (
  λ e.
      let p = first_all _ e in
      ⊎_elim inl (λ t. inr (millionths f, test_decimal 6 f t)) (or_empty f (is_decimal 6 f) (not-false _ (when_false _ _ p.0))),
  λ d.
      let t = empty_or f (is_decimal 6 f) (⊎_elim inl (λ w. inr (decimal_test 6 f w.0 w.1).0) d) in
      all_first _ (false_when _ _ (ap not t), tt),
)
