-- What an opening says, by its cases. Assumes nothing.
use Prim.Native.Nat.{ℕ}
use mathlib.Core.Path.{◌≡◌, sym, ap, subst, ◌∙◌}
use mathlib.Core.Bool.{Bool, true, false, true≢false}
use mathlib.Core.List.{List}
use Rattle.std.specs.Prelude.{Option, Some, None}
use Rattle.std.specs.Borrow.{Bor}
use Rattle.stored.specs.Entry.{opens, OpeningOf}

-- what is opened
opened_in : {A : Type 0} → A → Option A → A
opened_in d (Some o) = o
opened_in d None = d

some_one : {A : Type 0} {o p : A} → Some o ≡ Some p → o ≡ p
unfolding opened_in
some_one {A} {o} {p} e = ap (opened_in o) e

module _ {A : Type 0} {bytes_of : A → Bor (List ℕ)} {b : Bor (List ℕ)} {t : Bool} where
  -- a test that fails opens nothing
  pub unopened : false ≡ t → OpeningOf bytes_of b t None
  unfolding opens
  unopened e = record { is = e; of = λ o q. absurd (not_opened o q) }
    where
      not_opened : (o : A) → None ≡ Some o → ⊥
      not_opened o q = true≢false (sym (ap opens q))

  -- one that holds opens them
  pub opened_as : {o : A} → t ≡ true → bytes_of o ≡ b → OpeningOf bytes_of b t (Some o)
  unfolding opens
  opened_as {o} e h = record { is = sym e; of = λ p q. subst (λ (o : A). bytes_of o ≡ b) (some_one q) h }

  -- and what is opened, or not, tells how the test came out
  pub was_opened : {r : Option A} {o : A} → OpeningOf bytes_of b t r → r ≡ Some o → t ≡ true
  unfolding opens
  was_opened h e = sym h.is ∙ ap opens e

  pub was_not : {r : Option A} → OpeningOf bytes_of b t r → r ≡ None → t ≡ false
  unfolding opens
  was_not h e = sym h.is ∙ ap opens e
