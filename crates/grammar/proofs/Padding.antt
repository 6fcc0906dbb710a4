-- Blanks round a field: trimming leaves what stands between them, and whatever is trimmed stood between blanks.
-- Assumes nothing.
use native.Mathlib.Omega.{arith}
use mathlib.Core.Path.{◌≡◌, refl, ap, ◌∙◌}
use mathlib.Core.Logic.{inl, inr, ⊎_elim}
use mathlib.Core.Bool.{Bool, true, false}
use mathlib.Core.List.{List, [], ◌∷◌, ◌++◌}
use Prim.Native.Nat.{ℕ, suc}
use lib.Dec.{eqb}
use borrow.Author.Tests.{eqb-true}
use Rattle.lay.proofs.Tests.{or_either}
use Rattle.text.specs.Blanks.{space, tab, is_blank, before, trim_start, trim_end, trim}
use Rattle.text.proofs.Trims.{start_solid, last_solid}
use Rattle.grammar.specs.Written.{Blank, Blanks}
use Rattle.grammar.proofs.Tidy.{Tidy}
use Rattle.grammar.proofs.Tidies.{each_join, each_cons}

-- the test for a space or a tab
test_blank : (b : ℕ) → is_blank b ≡ true → Blank b
test_blank b h = ⊎_elim (λ e. inl (eqb-true b space e)) (λ e. inr (eqb-true b tab e)) (or_either (eqb b space) (eqb b tab) h)

blank_test : (b : ℕ) → Blank b → is_blank b ≡ true
blank_test b = ⊎_elim (λ e. rw e) (λ e. rw e)

blanks_rest : (b : ℕ) (l : List ℕ) → Blanks (b ∷ l) → Blanks l
blanks_rest b l h i m = h (suc i) (omega arith)

pub blanks_none : Blanks []
blanks_none i m = absurd (omega arith)

pub blanks_join : (x y : List ℕ) → Blanks x → Blanks y → Blanks (x ++ y)
blanks_join = each_join Blank

-- ---- what stands between blanks is what trimming leaves

start_blanks : (l m : List ℕ) → Blanks l → trim_start (l ++ m) ≡ trim_start m
unfolding trim_start
start_blanks [] m h = refl
start_blanks (b ∷ l) m h = rw (blank_test b (h 0 (omega arith))) (start_blanks l m (blanks_rest b l h))

start_none : (l : List ℕ) → Blanks l → trim_start l ≡ []
unfolding trim_start
start_none [] h = refl
start_none (b ∷ l) h = rw (blank_test b (h 0 (omega arith))) (start_none l (blanks_rest b l h))

end_none : (l : List ℕ) → Blanks l → trim_end l ≡ []
unfolding trim_end
end_none [] h = refl
end_none (b ∷ l) h = rw (end_none l (blanks_rest b l h), blank_test b (h 0 (omega arith)))

end_blanks : (l m : List ℕ) → Blanks m → trim_end (l ++ m) ≡ trim_end l
unfolding trim_end
end_blanks [] m h = end_none m h
end_blanks (b ∷ l) m h = ap (before b) (end_blanks l m h)

pub padded_trim : (before f after : List ℕ) → Blanks before → Tidy f → Blanks after → trim (before ++ (f ++ after)) ≡ f
unfolding trim
padded_trim before [] after h t k = ap trim_end (start_blanks before after h ∙ start_none after k) ∙ end_none [] blanks_none
padded_trim before (b ∷ f) after h t k =
    ap trim_end (start_blanks before ((b ∷ f) ++ after) h ∙ start_solid ((b ∷ f) ++ after) (omega arith) t.begins)
    ∙ (end_blanks (b ∷ f) after k ∙ last_solid (b ∷ f) (omega arith) t.ends)

-- ---- every piece is its trimmed self between blanks

record Led (x : List ℕ) : Type 0 where
  lead : List ℕ
  written : x ≡ lead ++ trim_start x
  blanks : Blanks lead

led : (x : List ℕ) → Led x
unfolding trim_start
led [] = record { lead = []; written = refl; blanks = blanks_none }
led (b ∷ l) = go (is_blank b) refl (led l)
  where
    go : (t : Bool) → is_blank b ≡ t → Led l → Led (b ∷ l)
    go true e r = record { lead = b ∷ r.lead; written = rw e (ap (λ (m : List ℕ). b ∷ m) r.written); blanks = each_cons Blank b r.lead (test_blank b e) r.blanks }
    go false e r = record { lead = []; written = rw e refl; blanks = blanks_none }

record Trailed (x : List ℕ) : Type 0 where
  tail : List ℕ
  written : x ≡ trim_end x ++ tail
  blanks : Blanks tail

trailed : (x : List ℕ) → Trailed x
unfolding trim_end
trailed [] = record { tail = []; written = refl; blanks = blanks_none }
trailed (b ∷ l) = go (is_blank b) refl (trim_end l) refl (trailed l)
  where
    more : (m : List ℕ) → trim_end l ≡ m → (r : Trailed l) → b ∷ l ≡ b ∷ (m ++ r.tail)
    more m p r = ap (λ (n : List ℕ). b ∷ n) (r.written ∙ ap (λ (n : List ℕ). n ++ r.tail) p)

    go : (t : Bool) → is_blank b ≡ t → (m : List ℕ) → trim_end l ≡ m → Trailed l → Trailed (b ∷ l)
    go true e [] p r = record { tail = b ∷ r.tail; written = rw (p, e) (more [] p r); blanks = each_cons Blank b r.tail (test_blank b e) r.blanks }
    go false e [] p r = record { tail = r.tail; written = rw (p, e) (more [] p r); blanks = r.blanks }
    go t e (x ∷ m) p r = record { tail = r.tail; written = rw p (more (x ∷ m) p r); blanks = r.blanks }

pub record Padded (x : List ℕ) : Type 0 where
  pub before : List ℕ
  pub after : List ℕ
  pub written : x ≡ before ++ (trim x ++ after)
  pub blanks_before : Blanks before
  pub blanks_after : Blanks after

pub trim_padded : (x : List ℕ) → Padded x
unfolding trim
trim_padded x =
    let a = led x in
    let b = trailed (trim_start x) in
    record {
      before = a.lead;
      after = b.tail;
      written = a.written ∙ ap (λ (m : List ℕ). a.lead ++ m) b.written;
      blanks_before = a.blanks;
      blanks_after = b.blanks;
    }
