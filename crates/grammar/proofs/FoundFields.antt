-- A field found in a clean line is tidy. Assumes nothing.
use mathlib.Core.Path.{◌≡◌, refl, sym, ap, ◌∙◌}
use mathlib.Core.Bool.{Bool, true, false, cond}
use mathlib.Core.List.{List, [], ◌∷◌}
use Prim.Native.Nat.{ℕ, zero, suc, ◌-◌}
use native.Mathlib.Omega.{arith}
use lib.ListN.{length, get_or, take}
use Rattle.text.specs.Blanks.{is_blank, before, trim_start, trim_end, trim}
use Rattle.text.specs.Fields.{piece_of, field_of}
use Rattle.text.proofs.Trims.{end_take}
use Rattle.lines.specs.Line.{is_clean, all_clean}
use Rattle.gather.proofs.FieldBytes.{field_each, field_comma, clean_each}
use Rattle.grammar.proofs.Tidy.{Tidy}

-- ---- no blank at either end

start_first : (l : List ℕ) → is_blank (get_or (trim_start l) 0 0) ≡ false
unfolding trim_start
start_first [] = refl
start_first (b ∷ l) = go (is_blank b) refl (start_first l)
  where
    go : (t : Bool) → is_blank b ≡ t → is_blank (get_or (trim_start l) 0 0) ≡ false → is_blank (get_or (cond t (trim_start l) (b ∷ l)) 0 0) ≡ false
    go true h ih = ih
    go false h ih = h

take_first : (n : ℕ) (l : List ℕ) → is_blank (get_or l 0 0) ≡ false → is_blank (get_or (take n l) 0 0) ≡ false
take_first zero l h = refl
take_first (suc n) [] h = refl
take_first (suc n) (x ∷ l) h = h

end_last : (l : List ℕ) → is_blank (get_or (trim_end l) (length (trim_end l) - 1) 0) ≡ false
unfolding trim_end
end_last [] = refl
end_last (b ∷ l) = go (trim_end l) (end_last l)
  where
    one : (t : Bool) → is_blank b ≡ t → is_blank (get_or (cond t [] (b ∷ [])) (length (cond t [] (b ∷ [])) - 1) 0) ≡ false
    one true h = refl
    one false h = h

    go : (m : List ℕ) → is_blank (get_or m (length m - 1) 0) ≡ false → is_blank (get_or (before b m) (length (before b m) - 1) 0) ≡ false
    go [] ih = one (is_blank b) refl
    go (x ∷ m) ih =
        let i : suc (suc (length m)) - 1 ≡ suc (length m) = omega arith in
        let j : suc (length m) - 1 ≡ length m = omega arith in
        ap (λ (n : ℕ). is_blank (get_or (b ∷ x ∷ m) n 0)) i ∙ (sym (ap (λ (n : ℕ). is_blank (get_or (x ∷ m) n 0)) j) ∙ ih)

field_begins : (k : ℕ) (l : List ℕ) → is_blank (get_or (field_of k l) 0 0) ≡ false
unfolding field_of trim
field_begins k l =
    rw (end_take (trim_start (piece_of k l)))
    (take_first (length (trim_end (trim_start (piece_of k l)))) (trim_start (piece_of k l)) (start_first (piece_of k l)))

field_ends : (k : ℕ) (l : List ℕ) → is_blank (get_or (field_of k l) (length (field_of k l) - 1) 0) ≡ false
unfolding field_of trim
field_ends k l = end_last (trim_start (piece_of k l))

pub field_tidy : (k : ℕ) (l : List ℕ) → all_clean l ≡ true → Tidy (field_of k l)
field_tidy k l c =
    record {
      clean = field_each (λ x. is_clean x ≡ true) k l (clean_each l c);
      comma = field_comma k l;
      begins = field_begins k l;
      ends = field_ends k l;
    }
