-- Lines with their end bytes are the lines that a sheet is cut into. Assumes nothing.
use mathlib.Core.Path.{◌≡◌, refl, ap}
use mathlib.Core.Bool.{Bool, true, false, cond}
use mathlib.Core.List.{List, [], ◌∷◌, ◌++◌}
use Prim.Native.Nat.{ℕ}
use lib.Dec.{eqb}
use borrow.Author.Tests.{eqb-true, ne_eqb}
use Rattle.lay.proofs.Tests.{and_0, and_1, differ}
use Rattle.lines.specs.Line.{end_byte, is_clean, all_clean}
use Rattle.lines.specs.Lines.{Lines, none, unended, line, push, lines_of}

-- no byte of a line is an end byte
clean_end : (b : ℕ) → is_clean b ≡ true → eqb b end_byte ≡ false
clean_end b h = ne_eqb b end_byte (λ e. differ {a = is_clean b} (rw e) h)

pub lines_written : (l y : List ℕ) → all_clean l ≡ true → lines_of (l ++ (end_byte ∷ y)) ≡ line l (lines_of y)
unfolding lines_of all_clean
lines_written [] y h = refl
lines_written (b ∷ l) y h =
    rw (clean_end b (and_0 (is_clean b) (all_clean l) h)) (ap (push b) (lines_written l y (and_1 (is_clean b) (all_clean l) h)))

pub lines_none : (x : List ℕ) → lines_of x ≡ none → x ≡ []
unfolding lines_of
lines_none [] h = refl
lines_none (b ∷ x) h = absurd (go (eqb b end_byte) (lines_of x) h)
  where
    go : (t : Bool) (ls : Lines) → cond t (line [] ls) (push b ls) ≡ none → ⊥
    go true ls e = cc
    go false none e = cc
    go false (unended l) e = cc
    go false (line l ls) e = cc

-- a first line, and the bytes past its end byte
pub record Cut (x l : List ℕ) (ls : Lines) : Type 0 where
  pub rest : List ℕ
  pub written : x ≡ l ++ (end_byte ∷ rest)
  pub left : ls ≡ lines_of rest

pub lines_line : (x l : List ℕ) (ls : Lines) → lines_of x ≡ line l ls → Cut x l ls
unfolding lines_of
lines_line [] l ls h = absurd (cc)
lines_line (b ∷ x) l ls h = go (lines_line x) (eqb b end_byte) refl (lines_of x) refl h
  where
    go : ((k : List ℕ) (ks : Lines) → lines_of x ≡ line k ks → Cut x k ks) → (t : Bool) → eqb b end_byte ≡ t
        → (ms : Lines) → lines_of x ≡ ms → cond t (line [] ms) (push b ms) ≡ line l ls → Cut (b ∷ x) l ls
    go ih true e ms p q =
        let c : b ≡ end_byte = eqb-true b end_byte e in
        let m : l ≡ [] = cc in
        let n : ls ≡ ms = cc in
        record { rest = x; written = cc; left = cc }
    go ih false e none p q = absurd (cc)
    go ih false e (unended k) p q = absurd (cc)
    go ih false e (line k ks) p q =
        let c = ih k ks p in
        let m : l ≡ b ∷ k = cc in
        let n : ls ≡ ks = cc in
        record { rest = c.rest; written = rw (m, c.written); left = cc }
