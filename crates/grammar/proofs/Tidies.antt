-- Whatever an item is, its spelling is tidy. Assumes nothing.
use native.Mathlib.Omega.{arith}
use mathlib.Core.Path.{◌≡◌, refl, ap, ◌∙◌}
use mathlib.Core.Logic.{⊎_elim}
use mathlib.Core.Bool.{Bool, true, false}
use mathlib.Core.List.{List, [], ◌∷◌, ◌++◌}
use Prim.Native.Nat.{ℕ, zero, suc, ◌+◌, ◌-◌, ◌≤◌, ◌<◌}
use lib.ListN.{length, get_or, length-append, get_or-append}
use lib.Seq.{get_or-append-add}
use borrow.Author.Tests.{ne_eqb, le-leb}
use Rattle.text.specs.Blanks.{space, is_blank}
use Rattle.text.specs.Parts.{index_of, holds}
use Rattle.text.specs.Fields.{comma}
use Rattle.lines.specs.Line.{is_clean, all_clean}
use Rattle.spell.specs.Decimals.{point}
use Rattle.spell.specs.BitRanges.{hyphen}
use Rattle.spell.specs.Durations.{slash}
use Rattle.written.specs.Words.{Numeral, Marked, IsDecimal, IsRange, IsSeconds, IsTruth}
use Rattle.written.proofs.Marks.{holds_without}
use Rattle.gather.proofs.Rows.{Each}
use Rattle.gather.proofs.FieldBytes.{clean_each}
use Rattle.model.specs.Margin.{Known, Unknown}
use Rattle.grammar.specs.Items.{Item, exactly, text, some_text, truth, truth_or_none, integer, margin, time, delay, bits, bits_or_none, label, seconds, Text, Spelled}
use Rattle.grammar.proofs.Tidy.{Tidy}

-- ---- bytes

-- a byte that text holds
printed_clean : (b : ℕ) → 32 ≤ b → b ≤ 126 → is_clean b ≡ true
printed_clean b h k = rw (ne_eqb b 9 (λ e. omega arith), le-leb 32 b h, le-leb b 126 k)

solid_byte : (b : ℕ) → (b ≡ 32 → ⊥) → (b ≡ 9 → ⊥) → is_blank b ≡ false
solid_byte b h k = rw (ne_eqb b 32 h, ne_eqb b 9 k)

-- what holds of each item of two lists, and of both joined
pub each_join : (P : ℕ → Type 0) (x y : List ℕ) → Each P 0 x → Each P 0 y → Each P 0 (x ++ y)
each_join P [] y h k i m = k i m
each_join P (c ∷ x) y h k zero m = h 0 (omega arith)
each_join P (c ∷ x) y h k (suc i) m = each_join P x y (λ j n. h (suc j) (omega arith)) k i (omega arith)

pub each_cons : (P : ℕ → Type 0) (b : ℕ) (y : List ℕ) → P b → Each P 0 y → Each P 0 (b ∷ y)
each_cons P b y p k zero m = p
each_cons P b y p k (suc i) m = k i (omega arith)

-- ---- texts

text_ends : (f : List ℕ) → ((i : ℕ) → i < length f → 32 ≤ get_or f i 0) → (i : ℕ) → get_or f i 0 ≡ 9 → ⊥
text_ends [] h zero e = omega arith
text_ends [] h (suc i) e = omega arith
text_ends (b ∷ f) h zero e = omega (arith, h 0 (omega arith))
text_ends (b ∷ f) h (suc i) e = text_ends f (λ j m. h (suc j) (omega arith)) i e

text_tidy : (f : List ℕ) → Text f → Tidy f
text_tidy f t =
    record {
      clean = λ i h. printed_clean (get_or f i 0) (t.each i h).least (t.each i h).most;
      comma = λ i h. (t.each i h).comma;
      begins = solid_byte (get_or f 0 0) t.begins (text_ends f (λ i h. (t.each i h).least) 0);
      ends = solid_byte (get_or f (length f - 1) 0) t.ends (text_ends f (λ i h. (t.each i h).least) (length f - 1));
    }

-- nothing is spelled by nothing
pub none_tidy : (f : List ℕ) → f ≡ [] → Tidy f
none_tidy f e = rw e (record { clean = λ i h. absurd (omega arith); comma = λ i h. absurd (omega arith); begins = refl; ends = refl })

-- ---- numbers

numeral_tidy : (base n : ℕ) (f : List ℕ) → base ≤ 10 → Numeral base n f → Tidy f
numeral_tidy base n f b d =
    record {
      clean = λ i h. printed_clean (get_or f i 0) (omega (arith, (d.each i h).least)) (omega (arith, (d.each i h).below));
      comma = λ i h e. omega (arith, (d.each i h).least);
      begins = solid 0 d.some;
      ends = solid (length f - 1) (omega (arith, d.some));
    }
  where
    solid : (i : ℕ) → i < length f → is_blank (get_or f i 0) ≡ false
    solid i h =
        solid_byte (get_or f i 0)
        (λ e. omega (arith, (d.each i h).least))
        (λ e. omega (arith, (d.each i h).least))

-- two tidy spellings, neither empty, with a mark between
joined_tidy : (m : ℕ) (x y : List ℕ) → is_clean m ≡ true → (m ≡ comma → ⊥) → 1 ≤ length x → 1 ≤ length y → Tidy x → Tidy y → Tidy (x ++ (m ∷ y))
joined_tidy m x y c d h k t u =
    record {
      clean = each_join (λ b. is_clean b ≡ true) x (m ∷ y) t.clean (each_cons (λ b. is_clean b ≡ true) m y c u.clean);
      comma = each_join (λ b. b ≡ comma → ⊥) x (m ∷ y) t.comma (each_cons (λ b. b ≡ comma → ⊥) m y d u.comma);
      begins = rw (get_or-append x (m ∷ y) 0 0 h) t.begins;
      ends = rw last u.ends;
    }
  where
    last : get_or (x ++ (m ∷ y)) (length (x ++ (m ∷ y)) - 1) 0 ≡ get_or y (length y - 1) 0
    last =
        let e : length (x ++ (m ∷ y)) - 1 ≡ length x + suc (length y - 1) = omega (arith, length-append x (m ∷ y)) in
        ap (λ (i : ℕ). get_or (x ++ (m ∷ y)) i 0) e ∙ get_or-append-add x (m ∷ y) (suc (length y - 1)) 0

marked_tidy : (mark n m : ℕ) (f x y : List ℕ) → is_clean mark ≡ true → (mark ≡ comma → ⊥) → Marked mark n m f x y → Tidy f
marked_tidy mark n m f x y c d w =
    rw w.written
    (joined_tidy mark x y c d w.left.some w.right.some (numeral_tidy 10 n x (omega arith) w.left) (numeral_tidy 10 m y (omega arith) w.right))

decimal_tidy : (n : ℕ) (f : List ℕ) (v : ℕ) → IsDecimal n f v → Tidy f
decimal_tidy n f v =
    ⊎_elim
    (λ w. numeral_tidy 10 n f (omega arith) w.digits)
    (λ w. marked_tidy point n 6 f w.before w.after refl (λ e. omega arith) w.digits)

range_tidy : (f : List ℕ) (a b : ℕ) → IsRange f a b → Tidy f
range_tidy f a b =
    ⊎_elim
    (λ w. numeral_tidy 10 6 f (omega arith) w.digits)
    (λ w. marked_tidy hyphen 6 6 f w.from w.to refl (λ e. omega arith) w.digits)

seconds_tidy : (f : List ℕ) (a b : ℕ) → IsSeconds f a b → Tidy f
seconds_tidy f a b =
    ⊎_elim (λ w. decimal_tidy 6 f a w.digits)
    (⊎_elim
    (λ w. marked_tidy slash 6 6 f w.above w.under refl (λ e. omega arith) w.digits)
    (λ w.
    let p = numeral_tidy 10 6 w.whole (omega arith) w.whole_digits in
    let q = numeral_tidy 10 6 w.above (omega arith) w.above_digits in
    let r = numeral_tidy 10 6 w.under (omega arith) w.under_digits in
    let s = joined_tidy slash w.above w.under refl (λ e. omega arith) w.above_digits.some w.under_digits.some q r in
    rw w.written
    (joined_tidy space w.whole (w.above ++ (slash ∷ w.under)) refl (λ e. omega arith)
    w.whole_digits.some (omega (arith, length-append w.above (slash ∷ w.under))) p s)))

-- ---- truths

test_tidy : (f : List ℕ) → all_clean f ≡ true → holds comma f ≡ false → is_blank (get_or f 0 0) ≡ false → is_blank (get_or f (length f - 1) 0) ≡ false → Tidy f
test_tidy f c h b e = record { clean = clean_each f c; comma = holds_without comma f h; begins = b; ends = e }

truth_tidy : (f : List ℕ) (b : Bool) → IsTruth f b → Tidy f
unfolding all_clean holds index_of
truth_tidy f true =
    ⊎_elim (λ e. rw e (test_tidy _ refl refl refl refl))
    (⊎_elim (λ e. rw e (test_tidy _ refl refl refl refl)) (λ e. rw e (test_tidy _ refl refl refl refl)))
truth_tidy f false =
    ⊎_elim (λ e. rw e (test_tidy _ refl refl refl refl))
    (⊎_elim (λ e. rw e (test_tidy _ refl refl refl refl)) (λ e. rw e (test_tidy _ refl refl refl refl)))

-- ---- every item

pub spelled_tidy : (i : Item) (f : List ℕ) → Spelled i f → Tidy f
spelled_tidy (exactly t) f s = text_tidy f s.1
spelled_tidy text f s = text_tidy f s
spelled_tidy some_text f s = text_tidy f s.1
spelled_tidy (truth b) f s = truth_tidy f b s
spelled_tidy truth_or_none f s = ⊎_elim (none_tidy f) (λ w. truth_tidy f w.0 w.1) s
spelled_tidy (integer n v) f s = numeral_tidy 10 _ f (omega arith) s.digits
spelled_tidy (margin Unknown) f s = none_tidy f s
spelled_tidy (margin (Known v)) f s = numeral_tidy 10 _ f (omega arith) s.digits
spelled_tidy (time v) f s = decimal_tidy 3 f v s
spelled_tidy delay f s = ⊎_elim (none_tidy f) (λ w. decimal_tidy 6 f w.0 w.1) s
spelled_tidy (bits a b) f s = range_tidy f a b s
spelled_tidy bits_or_none f s = ⊎_elim (none_tidy f) (λ w. range_tidy f w.0 w.1 w.2.range) s
spelled_tidy label f s = numeral_tidy 8 3 f (omega arith) s.1.0.digits
spelled_tidy (seconds n d) f s = seconds_tidy f s.top s.bottom s.written
