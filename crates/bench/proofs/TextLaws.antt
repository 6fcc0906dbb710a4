-- Whether a text fits, and that a name is short. Assumes nothing.
use mathlib.Core.Path.{◌≡◌, refl, sym, ap, ◌∙◌}
use mathlib.Core.Bool.{Bool, true, false, cond, ◌&&◌}
use mathlib.Core.List.{List, []}
use Prim.Native.Nat.{ℕ, ◌+◌, ◌-◌, ◌/◌, ◌%◌, ◌≤◌, ◌<◌}
use native.Mathlib.Omega.{arith}
use borrow.Author.Tests.{le-leb, lt-leb, leb-true, eq-eqb, ne_eqb}
use lib.Dec.{leb}
use lib.IntN.{ℤ}
use lib.ListN.{length}
use Rattle.lay.specs.Bytes.{put}
use Rattle.lay.proofs.Puts.{put_none}
use Rattle.model.specs.Accepts.{accepts}
use Rattle.model.specs.Content.{parameters}
use Rattle.model.specs.Forms.{sheet_limits}
use Rattle.model.specs.View.{view}
use Rattle.model.proofs.Views.{parameters_view}
use Rattle.table.specs.Answers.{numbered_of, asked_number, name_answered}
use Rattle.table.proofs.Accepting.{accepted_ruled}
use Rattle.framing.specs.Reading.{Read, read_of}
use Rattle.table.specs.declared.reason.Reason.{Reason}
use Rattle.table.specs.declared.reason.Reason.TheVariants.{NoTable, NoParameter}
use Rattle.listed.specs.Lines.{row_text}
use Rattle.listed.specs.Listing.{row_most, words_of}
use Rattle.listed.proofs.RowLaws.{name_is, name_short}
use Rattle.bench.specs.Texts.{Fills, row_of, row_for, WordsFill}
use Rattle.std.specs.Prelude.{Ok, Err}

-- ---- a text

pub fills_none : (text lent : List ℕ) (need : ℕ) → length lent < need → Fills text need lent 0 lent
fills_none text lent need h = let b = lt-leb need (length lent) h in (rw b, rw b)

pub fills_some : (text lent after : List ℕ) (need n : ℕ) → need ≤ length lent → n ≡ length text → after ≡ put lent 0 text → Fills text need lent n after
fills_some text lent after need n h e p = let b = le-leb need (length lent) h in (e ∙ sym (rw b), p ∙ sym (rw b))

-- ---- a row

row_found : (b f : List ℕ) (p s r w : ℕ) (v : ℤ) (q : Read) → read_of b f p s ≡ q → row_of (name_answered b (asked_number b p)) s q ≡ row_text (name_answered b (asked_number b p)) s w r v → row_for b f p s ≡ row_text (name_answered b (asked_number b p)) s w r v
unfolding row_for
row_found b f p s r w v q e h = ap (row_of (name_answered b (asked_number b p)) s) e ∙ h

row_missing : (b f : List ℕ) (p s : ℕ) (q : Reason) → read_of b f p s ≡ Err q → row_for b f p s ≡ []
unfolding row_for row_of
row_missing b f p s q e = ap (row_of (name_answered b (asked_number b p)) s) e

pub row_fills : (b f lent after : List ℕ) (p s r w n : ℕ) (v : ℤ) (q : Read) → row_most ≤ length lent → read_of b f p s ≡ q → row_of (name_answered b (asked_number b p)) s q ≡ row_text (name_answered b (asked_number b p)) s w r v → (n ≡ 0 + length (row_text (name_answered b (asked_number b p)) s w r v)) × (after ≡ put lent 0 (row_text (name_answered b (asked_number b p)) s w r v)) → Fills (row_for b f p s) row_most lent n after
row_fills b f lent after p s r w n v q h e k t =
    let row : row_text (name_answered b (asked_number b p)) s w r v ≡ row_for b f p s = sym (row_found b f p s r w v q e k) in
    fills_some (row_for b f p s) lent after row_most n h (omega (arith, t.0, ap length row)) (t.1 ∙ ap (put lent 0) row)

pub row_none : (b f lent : List ℕ) (p s : ℕ) (q : Reason) → row_most ≤ length lent → read_of b f p s ≡ Err q → Fills (row_for b f p s) row_most lent 0 lent
row_none b f lent p s q h e =
    let m = row_missing b f p s q e in
    fills_some (row_for b f p s) lent lent row_most 0 h (sym (ap length m)) (sym (ap (put lent 0) m ∙ put_none lent 0))

-- whoever is asked for, the name is short
pub answered_short : (b : List ℕ) (p : ℕ) → length (name_answered b (asked_number b p)) ≤ sheet_limits.text
unfolding asked_number numbered_of name_answered
answered_short b p = go (accepts b) refl
  where
    within : (x y : Bool) → leb 1 p ≡ x → leb p (parameters (view b)) ≡ y → accepts b ≡ true → length (name_answered b (cond (x && y) (Ok (p - 1)) (Err NoParameter))) ≤ sheet_limits.text
    within true true e g a =
        let l = leb-true 1 p e in
        let u = leb-true p (parameters (view b)) g in
        let i = accepted_ruled b a in
        let k : p - 1 < parameters (view b) = omega (arith, l, u) in
        let m = parameters_view b in
        omega (arith, ap length (name_is b i (p - 1) (omega (arith, k, m))), name_short b i (p - 1) (omega (arith, k, m)))
    within true false e g a = omega arith
    within false y e g a = omega arith

    go : (t : Bool) → accepts b ≡ t → length (name_answered b (cond t (cond (leb 1 p && leb p (parameters (view b))) (Ok (p - 1)) (Err NoParameter)) (Err NoTable))) ≤ sheet_limits.text
    go true a = within (leb 1 p) (leb p (parameters (view b))) refl refl a
    go false a = omega arith

-- ---- words

pub words_odd : (bytes lent : List ℕ) → length bytes % 2 ≡ 1 → WordsFill bytes lent 19 lent
words_odd bytes lent h = let b = eq-eqb (length bytes % 2) 1 h in (rw b, rw b)

pub words_many : (bytes lent : List ℕ) → (length bytes % 2 ≡ 1 → ⊥) → length lent < length bytes / 2 → WordsFill bytes lent 19 lent
words_many bytes lent h l =
    let b = ne_eqb (length bytes % 2) 1 h in
    let d = lt-leb (length bytes / 2) (length lent) l in
    (rw (b, d), rw (b, d))

pub words_fill : (bytes lent after : List ℕ) → (length bytes % 2 ≡ 1 → ⊥) → length bytes / 2 ≤ length lent → after ≡ put lent 0 (words_of bytes) → WordsFill bytes lent 0 after
words_fill bytes lent after h l p =
    let b = ne_eqb (length bytes % 2) 1 h in
    let d = le-leb (length bytes / 2) (length lent) l in
    (rw (b, d), p ∙ sym (rw (b, d)))
