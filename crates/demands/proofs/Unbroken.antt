-- What holds where none of 01's rules is broken. Assumes nothing.
use Prim.Native.Nat.{ℕ, ◌-◌, ◌<◌}
use native.Mathlib.Omega.{arith}
use mathlib.Core.Bool.{Bool, true, false, cond, ◌&&◌}
use mathlib.Core.Path.{◌≡◌, refl}
use mathlib.Core.List.{List}
use borrow.Author.Tests.{leb-true, eqb-true}
use lib.Dec.{eqb, leb}
use lib.ListN.{length}
use Rattle.lay.proofs.Tests.{and_0, and_1, rule, none, both, not_holds}
use Rattle.model.specs.Accepts.{accepts}
use Rattle.model.specs.Content.{parameter, parameters}
use Rattle.model.specs.Frame.{frame_words, words_ok, meets}
use Rattle.model.specs.Samples.{overlapped}
use Rattle.model.specs.View.{view}
use Rattle.framing.specs.Wanted.{has_parameter, has_sample}
use Rattle.demands.specs.Refusing.{sample_of, not_overlapped, as_many_words, fits_width, first_broken, read_rules, place_rules}
use Rattle.demands.specs.Demands.{HasSample}

pub holds_first : (b : Bool) (m n : ℕ) → 0 < n → cond b m n ≡ 0 → (b ≡ true) × (m ≡ 0)
holds_first true m n h e = (refl, e)
holds_first false m n h e = absurd (omega arith)

-- none of the rules of reading is broken
pub record Readable (t f : List ℕ) (p s : ℕ) : Type 0 where
  pub accepted : accepts t ≡ true
  pub fits : meets (view t) f ≡ true
  pub there : HasSample (view t) p s

pub readable : (t f : List ℕ) (p s : ℕ) → first_broken (read_rules t f p s) ≡ 0 → Readable t f p s
unfolding first_broken meets
readable t f p s e =
    let a = holds_first (accepts t) _ 18 (omega arith) e in
    let b = holds_first (leb 1 p && leb p (parameters (view t))) _ 21 (omega arith) a.1 in
    let d = holds_first (leb 1 s && leb s (length (parameter (view t) (p - 1)).samples)) _ 22 (omega arith) b.1 in
    let g = holds_first (eqb (length f) (frame_words (view t))) _ 19 (omega arith) d.1 in
    let h = holds_first (words_ok (view t) f) _ 20 (omega arith) g.1 in
    record {
      accepted = a.0;
      fits = both _ g.0 (both _ h.0 none);
      there = record {
        parameter_least = leb-true _ _ (and_0 _ _ b.0);
        parameter_most = leb-true _ _ (and_1 (leb 1 p) _ b.0);
        sample_least = leb-true _ _ (and_0 _ _ d.0);
        sample_most = leb-true _ _ (and_1 (leb 1 s) _ d.0);
      };
    }

pub long : (t f : List ℕ) → meets (view t) f ≡ true → length f ≡ frame_words (view t)
unfolding meets
long t f m = eqb-true _ _ (rule _ m 0)

-- where none of those of placing is, none of those of reading is, the sample has no overlap and the value fits
pub record Placeable (t f : List ℕ) (p s v : ℕ) : Type 0 where
  pub readable : Readable t f p s
  pub plain : overlapped (sample_of (view t) p s) ≡ false
  pub fitting : fits_width (view t) p s v ≡ true

pub placeable : (t f : List ℕ) (p s v : ℕ) → first_broken (place_rules t f p s v) ≡ 0 → Placeable t f p s v
unfolding first_broken
placeable t f p s v e =
    let a = holds_first (accepts t) _ 18 (omega arith) e in
    let b = holds_first (has_parameter (view t) p) _ 21 (omega arith) a.1 in
    let d = holds_first (has_sample (view t) p s) _ 22 (omega arith) b.1 in
    let o = holds_first (not_overlapped (view t) p s) _ 10 (omega arith) d.1 in
    let g = holds_first (as_many_words (view t) f) _ 19 (omega arith) o.1 in
    let h = holds_first (words_ok (view t) f) _ 20 (omega arith) g.1 in
    let w = holds_first (fits_width (view t) p s v) 0 23 (omega arith) h.1 in
    record { readable = readable t f p s (rw (a.0, b.0, d.0, g.0, h.0)); plain = not_holds _ o.0; fitting = w.0 }
