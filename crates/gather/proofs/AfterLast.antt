-- The end of the lines: where no line is due there, and 16. Assumes nothing.
use Prim.Native.Nat.{ℕ, ◌+◌, ◌<◌, ◌≤◌}
use mathlib.Core.Path.{◌≡◌, refl, sym, ◌∙◌}
use mathlib.Core.Bool.{Bool, true, false, cond}
use mathlib.Core.List.{List}
use mathlib.Core.Logic.{◌⊎◌, inl, inr}
use borrow.Author.Tests.{ltb-true, ltb-false, eqb-false}
use lib.Dec.{eqb, ltb}
use lib.ListN.{get_or}
use Rattle.lay.specs.Below.{all}
use Rattle.text.specs.declared.refusal.Refusal.{Refusal}
use Rattle.text.specs.declared.refusal.Refusal.TheVariants.{Unended, BadIdentifiers}
use Rattle.lineforms.specs.declared.due.Due.{Due}
use Rattle.lineforms.specs.declared.due.Due.TheVariants.{HeaderWord, HeaderLine, RecordWord, RecordLine, Opening, NameLine, FirstComponent, NextComponent, AfterSample, SignedLine, RangeLine, SourceLine, AfterSource, SourceBlank, AfterSourceBlank, NextParameter, Nothing}
use Rattle.model.specs.Content.{Content, parameters, subframes}
use Rattle.model.specs.Identifiers.{taken}
use Rattle.gather.specs.Book.{Book, content_of}
use Rattle.gather.specs.Ruling.{Accepted, Refused, first_bad, identified, at_end}

-- no line is due: after a whole parameter, and after `NONE`
abbrev pub may_end : Due → Bool
may_end HeaderWord = false
may_end HeaderLine = false
may_end RecordWord = false
may_end RecordLine = false
may_end Opening = false
may_end NameLine = false
may_end FirstComponent = false
may_end NextComponent = false
may_end AfterSample = false
may_end SignedLine = false
may_end RangeLine = false
may_end SourceLine = false
may_end AfterSource = false
may_end SourceBlank = false
may_end AfterSourceBlank = false
may_end NextParameter = true
may_end Nothing = true

end_ruled : (d : Due) (K : Book) (os : List ℕ) (k : ℕ) → at_end d K os k ≡ cond (may_end d) (identified (content_of K) os) (Refused Unended k)
end_ruled HeaderWord K os k = refl
end_ruled HeaderLine K os k = refl
end_ruled RecordWord K os k = refl
end_ruled RecordLine K os k = refl
end_ruled Opening K os k = refl
end_ruled NameLine K os k = refl
end_ruled FirstComponent K os k = refl
end_ruled NextComponent K os k = refl
end_ruled AfterSample K os k = refl
end_ruled SignedLine K os k = refl
end_ruled RangeLine K os k = refl
end_ruled SourceLine K os k = refl
end_ruled AfterSource K os k = refl
end_ruled SourceBlank K os k = refl
end_ruled AfterSourceBlank K os k = refl
end_ruled NextParameter K os k = refl
end_ruled Nothing K os k = refl

-- every identifier keeps its rules, and some subframe is not taken
pub record Untaken (c : Content) : Type 0 where
  pub some : parameters c ≡ 0 → ⊥
  pub good : parameters c ≤ first_bad c
  pub untaken : all (subframes c) (λ s. taken c (s + 1)) ≡ false

-- what 16 refuses: at the line of the first bad parameter's word, or at 0
pub record Unidentified (c : Content) (os : List ℕ) (r : Refusal) (k : ℕ) : Type 0 where
  pub number : r ≡ BadIdentifiers
  pub place : ((k ≡ 0) × Untaken c) ⊎ ((first_bad c < parameters c) × (k ≡ get_or os (first_bad c) 0))

unidentified : (c : Content) (os : List ℕ) (r : Refusal) (k : ℕ) → identified c os ≡ Refused r k → Unidentified c os r k
unfolding identified
unidentified c os r k e = go (eqb (parameters c) 0) refl (ltb (first_bad c) (parameters c)) refl (all (subframes c) (λ s. taken c (s + 1))) refl e
  where
    go : (a : Bool) → eqb (parameters c) 0 ≡ a → (b : Bool) → ltb (first_bad c) (parameters c) ≡ b → (t : Bool) → all (subframes c) (λ s. taken c (s + 1)) ≡ t
        → cond a (Accepted c) (cond b (Refused BadIdentifiers (get_or os (first_bad c) 0)) (cond t (Accepted c) (Refused BadIdentifiers 0))) ≡ Refused r k
        → Unidentified c os r k
    go true n b p t u h = absurd (cc)
    go false n true p t u h = record { number = cc; place = inr (ltb-true _ _ p, cc) }
    go false n false p true u h = absurd (cc)
    go false n false p false u h =
        record { number = cc; place = inl (cc, record { some = eqb-false _ _ n; good = ltb-false _ _ p; untaken = u }) }

-- a refusal at the end is 4 where a line is due, else 16
pub record Ended (d : Due) (K : Book) (os : List ℕ) (m : ℕ) (r : Refusal) (k : ℕ) : Type 0 where
  pub either : ((may_end d ≡ false) × (r ≡ Unended) × (k ≡ m)) ⊎ ((may_end d ≡ true) × Unidentified (content_of K) os r k)

pub end_refused : (d : Due) (K : Book) (os : List ℕ) (m : ℕ) (r : Refusal) (k : ℕ) → at_end d K os m ≡ Refused r k → Ended d K os m r k
end_refused d K os m r k e = record { either = go (may_end d) (sym (end_ruled d K os m) ∙ e) }
  where
    go : (t : Bool) → cond t (identified (content_of K) os) (Refused Unended m) ≡ Refused r k
        → ((t ≡ false) × (r ≡ Unended) × (k ≡ m)) ⊎ ((t ≡ true) × Unidentified (content_of K) os r k)
    go true h = inr (refl, unidentified (content_of K) os r k h)
    go false h = inl (refl, cc, cc)
