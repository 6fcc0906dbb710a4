-- Parts of a line, one put after the other. Assumes nothing.
use mathlib.Core.Path.{◌≡◌, refl, sym, ap, ◌∙◌}
use mathlib.Core.List.{List, [], ◌∷◌, ◌++◌, append_assoc}
use Prim.Native.Nat.{ℕ, suc, ◌+◌, ◌≤◌}
use native.Mathlib.Omega.{arith}
use lib.Seq.{take-append_seam}
use lib.IntN.{ℤ, pos, negsuc}
use lib.ListN.{length, set, take, drop, length-append}
use Rattle.io.specs.Counts.{IsPrefixLen}
use Rattle.lay.specs.Bytes.{put}
use Rattle.listed.specs.Decimals.{decimal_text, value_text}
use Rattle.listed.proofs.DecimalLaws.{decimal_short}
use Rattle.lay.proofs.Puts.{length_put, put_cell, put_then, put_front}

-- a text, then a byte right after it
pub put_ended : (out mid after x : List ℕ) (o e s : ℕ) → mid ≡ put out o x → e ≡ o + length x → after ≡ set mid e s → e + 1 ≤ length out → (e + 1 ≡ o + length (x ++ (s ∷ []))) × (after ≡ put out o (x ++ (s ∷ [])))
put_ended out mid after x o e s p q a h =
    let l : length mid ≡ length out = ap length p ∙ length_put out o x (omega (arith, q, h)) in
    let b : after ≡ put mid e (s ∷ []) = a ∙ put_cell mid e s (omega (arith, l, h)) in
    (omega (arith, q, length-append x (s ∷ [])), put_then out mid after o x (s ∷ []) e p b q (omega (arith, h)))

-- ---- steps: x is put at o, and p is where it ends

abbrev pub Step : List ℕ → ℕ → List ℕ → ℕ → List ℕ → Type 0
Step out o x p after = (p ≡ o + length x) × (after ≡ put out o x)

-- a text and a byte, then the rest of the line
pub part_step : (out mid after x r : List ℕ) (o p e s : ℕ) → Step out o (x ++ (s ∷ [])) p mid → Step mid p r e after → p + length r ≤ length out → Step out o (x ++ (s ∷ r)) e after
part_step out mid after x r o p e s f g h =
    (omega (arith, f.0, g.0, length-append x (s ∷ []), length-append x (s ∷ r)), put_then out mid after o (x ++ (s ∷ [])) r p f.1 g.1 f.0 h ∙ ap (put out o) (append_assoc x (s ∷ []) r))

-- one thing after the other
pub then_step : (out mid after x r : List ℕ) (o p e : ℕ) → Step out o x p mid → Step mid p r e after → p + length r ≤ length out → Step out o (x ++ r) e after
then_step out mid after x r o p e f g h =
    (omega (arith, f.0, g.0, length-append x r), put_then out mid after o x r p f.1 g.1 f.0 h)

-- ---- where a step ends, and that the slice is as long as before

pub record Room (out : List ℕ) (p : ℕ) (m : List ℕ) (most : ℕ) : Type 0 where
  pub long : length m ≡ length out
  pub here : p ≤ most

pub room_start : (out : List ℕ) (o : ℕ) → Room out o out o
room_start out o = record { long = refl; here = omega arith }

pub room_step : (out m after x : List ℕ) (p e most k : ℕ) → Room out p m most → length x ≤ k → most + k ≤ length out → Step m p x e after → Room out e after (most + k)
room_step out m after x p e most k r l h t =
    record { long = ap length t.1 ∙ (length_put m p x (omega (arith, r.long, r.here, l, h)) ∙ r.long); here = omega (arith, t.0, r.here, l) }

pub text_short : (x : List ℕ) (s : ℕ) → length (x ++ (s ∷ [])) ≤ length x + 1
text_short x s = omega (arith, length-append x (s ∷ []))

pub field_short : (n s : ℕ) → length (decimal_text n ++ (s ∷ [])) ≤ 21
field_short n s = omega (arith, length-append (decimal_text n) (s ∷ []), decimal_short n)

pub value_short : (v : ℤ) → length (value_text v) ≤ 21
unfolding value_text
value_short (pos n) = omega (arith, decimal_short n)
value_short (negsuc n) = omega (arith, decimal_short (suc n))

pub last_short : (v : ℤ) (s : ℕ) → length (value_text v ++ (s ∷ [])) ≤ 22
last_short v s = omega (arith, length-append (value_text v) (s ∷ []), value_short v)

-- what was put at the front is counted by its length
pub front_counts : (out after x : List ℕ) (r : ℕ) → r ≡ length x → after ≡ put out 0 x → length x ≤ length out → IsPrefixLen r after
front_counts out after x r e p h =
    let f : after ≡ x ++ drop (length x) out = p ∙ put_front out x in
    let t : take r after ≡ x = rw (e, f) (take-append_seam x (drop (length x) out)) in
    (omega (arith, e, ap length f, length-append x (drop (length x) out)), e ∙ sym (ap length t))

pub value_counts : (out after : List ℕ) (r : ℕ) (v : ℤ) → 21 ≤ length out → Step out 0 (value_text v) r after → IsPrefixLen r after
value_counts out after r v h s = front_counts out after (value_text v) r (omega (arith, s.0)) s.1 (omega (arith, h, value_short v))
