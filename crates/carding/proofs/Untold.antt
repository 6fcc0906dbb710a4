-- "card reading gives 26, after 27, for form 1 or for an unknown margin": exactly then. Assumes nothing.
use mathlib.Core.Path.{◌≡◌, refl, sym, ap, ◌∙◌}
use mathlib.Core.Logic.{◌⊎◌, inl, inr, ◌↔◌, ⊎_elim}
use mathlib.Core.Bool.{Bool, true, false, ◌&&◌, not, cond, true≢false}
use mathlib.Core.List.{List}
use Prim.Native.Nat.{ℕ}
use native.Mathlib.Omega.{arith}
use borrow.Author.Tests.{eqb-true, eq-eqb, not-false}
use lib.Dec.{eqb, leb}
use lib.ListN.{length}
use Rattle.std.specs.Prelude.{Err}
use Rattle.lay.proofs.Below.{all_below, all_fails}
use Rattle.lay.proofs.Tests.{and_0, and_1, refuse, not_holds}
use Rattle.model.specs.Margin.{Unknown, is_known}
use Rattle.model.specs.Content.{Content, subframe, subframes, parameters}
use Rattle.model.specs.Forms.{form_in, limits_in}
use Rattle.model.specs.Frame.{frame_words}
use Rattle.model.specs.Accepts.{accepts}
use Rattle.model.specs.View.{view}
use Rattle.model.proofs.Margins.{not_known, unknown_not}
use Rattle.model.proofs.Rows.{blank_said}
use Rattle.model.proofs.Statements.{accepted_known}
use Rattle.table.specs.Reasons.{reason_number}
use Rattle.table.specs.declared.reason.Reason.TheVariants.{UnknownMargin, NoParameters, LongStream, NoFrame, FewWords}
use Rattle.carding.specs.Search.{position_from, found_from}
use Rattle.carding.specs.Answer.{longest_stream, margins_known, SomeUnknown, margins_told, searched, carded_in, carded_of, carded_number, found_at}
use Rattle.carding.proofs.CardCases.{refused_26}

-- ---- all margins

module _ (c : Content) where
  abbrev both : ℕ → Bool
  both i = is_known (subframe c i).leading && is_known (subframe c i).trailing

  pub some_unknown : SomeUnknown c → margins_known c ≡ true → ⊥
  unfolding margins_known
  some_unknown s h =
      let k = all_below (subframes c) both h s.at s.here in
      ⊎_elim (λ e. unknown_not _ e (and_0 _ _ k)) (λ e. unknown_not _ e (and_1 (is_known (subframe c s.at).leading) _ k)) s.unknown

  either : (i : ℕ) (a : Bool) → is_known (subframe c i).leading ≡ a → both i ≡ false → ((subframe c i).leading ≡ Unknown) ⊎ ((subframe c i).trailing ≡ Unknown)
  either i false a h = inl (not_known _ a)
  either i true a h = inr (not_known _ (sym (ap (λ (t : Bool). t && is_known (subframe c i).trailing) a) ∙ h))

  pub unknown_some : margins_known c ≡ false → SomeUnknown c
  unfolding margins_known
  unknown_some h =
      let s = all_fails (subframes c) both h in
      record { at = s.at; here = s.below; unknown = either s.at (is_known (subframe c s.at).leading) refl (not_holds (both s.at) s.holds) }

-- ---- a table

module _ (b : List ℕ) (h : accepts b ≡ true) where
  said : (limits_in b).blank ≡ not (eqb (form_in b) 1)
  unfolding limits_in
  said = blank_said (form_in b) (accepted_known b h)

  first_form : (limits_in b).blank ≡ false → form_in b ≡ 1
  first_form e = eqb-true (form_in b) 1 (not-false (eqb (form_in b) 1) (sym said ∙ e))

  pub not_told : (form_in b ≡ 1) ⊎ SomeUnknown (view b) → margins_told b ≡ true → ⊥
  unfolding margins_told
  not_told (inl e) t = true≢false (sym (and_0 _ _ t) ∙ said ∙ ap not (eq-eqb (form_in b) 1 e))
  not_told (inr s) t = some_unknown (view b) s (and_1 (limits_in b).blank _ t)

  pub untold : margins_told b ≡ false → (form_in b ≡ 1) ⊎ SomeUnknown (view b)
  unfolding margins_told
  untold u = go (limits_in b).blank refl
    where
      go : (t : Bool) → (limits_in b).blank ≡ t → (form_in b ≡ 1) ⊎ SomeUnknown (view b)
      go false e = inl (first_form e)
      go true e = inr (unknown_some (view b) (sym (ap (λ (t : Bool). t && margins_known (view b)) e) ∙ u))

  -- ---- and the card's answer

  module _ (some : parameters (view b) ≡ 0 → ⊥) (y : List ℕ) (from : ℕ) (words : List ℕ) where
    pub refused_so : (form_in b ≡ 1) ⊎ SomeUnknown (view b) → carded_of b y from words ≡ Err UnknownMargin
    refused_so u = sym (refused_26 b y from words h some (sym (refuse (margins_told b) (not_told u)))).0

    other : (e l f w : Bool) (p n : ℕ) → carded_number (cond e (Err NoParameters) (cond l (cond f (cond w (found_at p n) (Err FewWords)) (Err NoFrame)) (Err LongStream))) ≡ 26 → ⊥
    unfolding carded_number reason_number
    other true l f w p n q = omega (arith, q)
    other false false f w p n q = omega (arith, q)
    other false true false w p n q = omega (arith, q)
    other false true true false p n q = omega (arith, q)
    other false true true true p n q = omega (arith, q)

    pub refused_exactly : (carded_number (carded_of b y from words) ≡ 26) ↔ ((form_in b ≡ 1) ⊎ SomeUnknown (view b))
    unfolding carded_of carded_in searched
    refused_exactly = (λ e. go (margins_told b) refl e, λ u. ap carded_number (refused_so u) ∙ number)
      where
        number : carded_number (Err UnknownMargin) ≡ 26
        number = unfold carded_number reason_number in refl

        go : (t : Bool) → margins_told b ≡ t → carded_number (carded_of b y from words) ≡ 26 → (form_in b ≡ 1) ⊎ SomeUnknown (view b)
        go false u e = untold u
        go true u e =
            absurd (other (eqb (parameters (view b)) 0) (leb (length y) longest_stream) (found_from (view b) y from) (leb (frame_words (view b)) (length words)) (position_from (view b) y from) (frame_words (view b)) (rw (h, u) at e))
