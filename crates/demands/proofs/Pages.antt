-- What a page answers and leaves, by its rules. Assumes nothing.
use Prim.Native.Nat.{ℕ, ◌≤◌}
use native.Mathlib.Omega.{arith}
use mathlib.Core.Bool.{Bool, true, false, cond}
use mathlib.Core.Path.{◌≡◌, refl, ap₂}
use mathlib.Core.List.{List}
use borrow.Author.Tests.{leb-true}
use lib.Dec.{leb}
use lib.ListN.{length}
use Rattle.framing.specs.Paging.{paged_of, results_of}
use Rattle.framing.specs.declared.page.Request.{Request}
use Rattle.framing.specs.declared.page.Outcome.{Outcome}
use Rattle.framing.specs.declared.page.Paged.{Paged}
use Rattle.demands.specs.Refusing.{first_broken, page_rules}

abbrev the_paged : ℕ → ℕ → Paged
the_paged n k = record { number = n; count = k }

-- equal items, equal answers
pub same_paged : (p q : Paged) → p.number ≡ q.number → p.count ≡ q.count → p ≡ q
same_paged p q e h = ap₂ (λ (n k : ℕ). the_paged n k) e h

-- the number where the two rules hold or not
abbrev told : Bool → Bool → ℕ
told a b = cond a (cond b 0 28) 29

module _ (qs : List Request) (rs : List Outcome) where
  -- the number is the first broken rule's
  pub page_number : (paged_of (length qs) (length rs)).number ≡ first_broken (page_rules qs rs)
  unfolding paged_of first_broken
  page_number = refl

  -- a page that passes has few enough requests, and room for each
  pub record Passing : Type 0 where
    pub few : length qs ≤ 256
    pub room : length qs ≤ length rs

  pub page_passing : first_broken (page_rules qs rs) ≡ 0 → Passing
  unfolding first_broken
  page_passing e = go (leb (length qs) 256) refl (leb (length qs) (length rs)) refl e
    where
      go : (a : Bool) → leb (length qs) 256 ≡ a → (b : Bool) → leb (length qs) (length rs) ≡ b → told a b ≡ 0 → Passing
      go true h true k z = record { few = leb-true _ _ h; room = leb-true _ _ k }
      go true h false k z = absurd (omega (arith, z))
      go false h b k z = absurd (omega (arith, z))

  -- one that does not writes nothing
  pub uncounted : (first_broken (page_rules qs rs) ≡ 0 → ⊥) → (paged_of (length qs) (length rs)).count ≡ 0
  unfolding paged_of first_broken
  uncounted n = go (leb (length qs) 256) (leb (length qs) (length rs)) n
    where
      counted : Bool → Bool → ℕ
      counted a b = cond a (cond b (length qs) 0) 0

      go : (a b : Bool) → (told a b ≡ 0 → ⊥) → counted a b ≡ 0
      go true true m = absurd (m refl)
      go true false m = refl
      go false b m = refl

  pub unwritten : (t f : List ℕ) → (first_broken (page_rules qs rs) ≡ 0 → ⊥) → results_of t f qs rs ≡ rs
  unfolding results_of first_broken
  unwritten t f n = go (leb (length qs) 256) (leb (length qs) (length rs)) _ n
    where
      go : (a b : Bool) (x : List Outcome) → (told a b ≡ 0 → ⊥) → cond a (cond b x rs) rs ≡ rs
      go true true x m = absurd (m refl)
      go true false x m = refl
      go false b x m = refl
