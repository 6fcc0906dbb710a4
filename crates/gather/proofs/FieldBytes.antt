-- The bytes of a field: those of its line, no comma, no blank at either end. Assumes nothing.
use mathlib.Core.Path.{◌≡◌, refl, sym, ap, ◌∙◌, subst}
use mathlib.Core.Bool.{Bool, true, false, cond, ◌&&◌}
use mathlib.Core.Logic.{⊎_elim}
use mathlib.Core.List.{List, [], ◌∷◌}
use Prim.Native.Nat.{ℕ, zero, suc, ◌+◌, ◌-◌, ◌≤◌}
use native.Mathlib.Omega.{arith}
use borrow.Author.Tests.{eqb-true, leb-true}
use lib.Dec.{eqb, leb}
use lib.ListN.{length, get_or, take}
use Rattle.std.specs.Prelude.{Ok}
use Rattle.lay.proofs.Tests.{and_0, and_1, or_either, differ}
use Rattle.text.specs.Blanks.{space, tab, is_blank, before, trim_start, trim_end, trim}
use Rattle.text.specs.Parts.{index_of, up_to, past}
use Rattle.text.specs.Fields.{comma, piece_of, field_of}
use Rattle.text.proofs.Trims.{start_drop, end_take}
use Rattle.text.proofs.Places.{past_of, piece_past}
use Rattle.spell.specs.Texts.{text_judged}
use Rattle.written.proofs.Marks.{up_to_without}
use Rattle.written.proofs.Texts.{text_exactly}
use Rattle.lines.specs.Line.{is_clean, all_clean}
use Rattle.model.specs.Forms.{sheet_limits}
use Rattle.model.specs.Meaning.{ByteLaw, TextLaw}
use Rattle.gather.proofs.Rows.{Each, each_take, each_drop}

-- ---- what a part keeps

module _ (P : ℕ → Type 0) where
  start_each : (l : List ℕ) → Each P 0 l → Each P 0 (trim_start l)
  start_each l h =
      subst (λ (m : List ℕ). Each P 0 m) (sym (start_drop l)) (each_drop P 0 (length l - length (trim_start l)) l h)

  end_each : (l : List ℕ) → Each P 0 l → Each P 0 (trim_end l)
  end_each l h = subst (λ (m : List ℕ). Each P 0 m) (sym (end_take l)) (each_take P 0 (length (trim_end l)) l h)

  trim_each : (l : List ℕ) → Each P 0 l → Each P 0 (trim l)
  unfolding trim
  trim_each l h = end_each (trim_start l) (start_each l h)

  up_to_each : (b : ℕ) (l : List ℕ) → Each P 0 l → Each P 0 (up_to b l)
  unfolding up_to
  up_to_each b l h = each_take P 0 (index_of b l) l h

  past_each : (b : ℕ) (l : List ℕ) → Each P 0 l → Each P 0 (past b l)
  unfolding past
  past_each b l h = each_drop P 0 (index_of b l + 1) l h

  piece_each : (k : ℕ) (l : List ℕ) → Each P 0 l → Each P 0 (piece_of k l)
  unfolding piece_of
  piece_each zero l h = up_to_each comma l h
  piece_each (suc k) l h = piece_each k (past comma l) (past_each comma l h)

  -- bytes of a field are bytes of its line
  pub field_each : (k : ℕ) (l : List ℕ) → Each P 0 l → Each P 0 (field_of k l)
  unfolding field_of
  field_each k l h = trim_each (piece_of k l) (piece_each k l h)

-- a field holds no comma
pub field_comma : (k : ℕ) (l : List ℕ) → Each (λ x. x ≡ comma → ⊥) 0 (field_of k l)
unfolding field_of
field_comma k l = trim_each (λ x. x ≡ comma → ⊥) (piece_of k l) (rw (piece_past k l) (up_to_without comma (past_of k l)))

-- ---- its ends

start_first : (l : List ℕ) → get_or (trim_start l) 0 0 ≡ space → ⊥
unfolding trim_start
start_first [] e = omega arith
start_first (b ∷ l) e = go (is_blank b) refl (λ q. start_first l q) e
  where
    go : (t : Bool) → is_blank b ≡ t → (get_or (trim_start l) 0 0 ≡ space → ⊥) → get_or (cond t (trim_start l) (b ∷ l)) 0 0 ≡ space → ⊥
    go true h ih q = ih q
    go false h ih q = differ h (rw q refl)

take_first : (n : ℕ) (l : List ℕ) → (get_or l 0 0 ≡ space → ⊥) → get_or (take n l) 0 0 ≡ space → ⊥
take_first zero l h e = omega arith
take_first (suc n) [] h e = omega arith
take_first (suc n) (x ∷ l) h e = h e

end_last : (l : List ℕ) → get_or (trim_end l) (length (trim_end l) - 1) 0 ≡ space → ⊥
unfolding trim_end
end_last [] e = omega arith
end_last (b ∷ l) e = go (trim_end l) (λ q. end_last l q) e
  where
    one : (t : Bool) → is_blank b ≡ t → get_or (cond t [] (b ∷ [])) (length (cond t [] (b ∷ [])) - 1) 0 ≡ space → ⊥
    one true h q = omega arith
    one false h q = differ h (rw q refl)

    go : (m : List ℕ) → (get_or m (length m - 1) 0 ≡ space → ⊥) → get_or (before b m) (length (before b m) - 1) 0 ≡ space → ⊥
    go [] ih q = one (is_blank b) refl q
    go (x ∷ m) ih q =
        let i : suc (suc (length m)) - 1 ≡ suc (length m) = omega arith in
        let j : suc (length m) - 1 ≡ length m = omega arith in
        ih (ap (λ (n : ℕ). get_or (x ∷ m) n 0) j ∙ sym (ap (λ (n : ℕ). get_or (b ∷ x ∷ m) n 0) i) ∙ q)

field_first : (k : ℕ) (l : List ℕ) → get_or (field_of k l) 0 0 ≡ space → ⊥
unfolding field_of trim
field_first k l =
    rw (end_take (trim_start (piece_of k l)))
    (take_first (length (trim_end (trim_start (piece_of k l)))) (trim_start (piece_of k l)) (start_first (piece_of k l)))

field_last : (k : ℕ) (l : List ℕ) → get_or (field_of k l) (length (field_of k l) - 1) 0 ≡ space → ⊥
unfolding field_of trim
field_last k l = end_last (trim_start (piece_of k l))

-- ---- a text of the table

pub clean_each : (l : List ℕ) → all_clean l ≡ true → Each (λ x. is_clean x ≡ true) 0 l
unfolding all_clean
clean_each [] h k m = absurd (omega arith)
clean_each (b ∷ l) h zero m = and_0 (is_clean b) (all_clean l) h
clean_each (b ∷ l) h (suc k) m = clean_each l (and_1 (is_clean b) (all_clean l) h) k (omega arith)

clean_byte : (x : ℕ) → is_clean x ≡ true → (x ≡ tab → ⊥) → (x ≡ comma → ⊥) → ByteLaw x
clean_byte x h t c =
    ⊎_elim (λ e. absurd (t (eqb-true x 9 e)))
    (λ e. record { least = leb-true _ _ (and_0 (leb 32 x) (leb x 126) e); most = leb-true _ _ (and_1 (leb 32 x) (leb x 126) e); comma = c })
    (or_either (eqb x 9) (leb 32 x && leb x 126) h)

pub field_text : (k : ℕ) (l : List ℕ) (mandatory : Bool) → all_clean l ≡ true
    → text_judged sheet_limits.text mandatory (field_of k l) ≡ Ok tt → TextLaw sheet_limits (field_of k l)
field_text k l mandatory c e =
    let r = ((text_exactly sheet_limits.text mandatory (field_of k l)).0 e).0 in
    record {
      short = r.short;
      each = λ i m.
          clean_byte (get_or (field_of k l) i 0) (field_each (λ x. is_clean x ≡ true) k l (clean_each l c) i m) (r.plain i m) (field_comma k l i m);
      begins = field_first k l;
      ends = field_last k l;
    }

pub field_some : (k : ℕ) (l : List ℕ) → text_judged sheet_limits.text true (field_of k l) ≡ Ok tt → 1 ≤ length (field_of k l)
field_some k l e = ((text_exactly sheet_limits.text true (field_of k l)).0 e).1 refl
