-- A table of form 1 is one exactly where it was one, and says what it said. Assumes nothing.
use mathlib.Core.Path.{◌≡◌, refl, sym, ap, ◌∙◌, subst}
use mathlib.Core.Bool.{Bool, true, false, true≢false}
use mathlib.Core.List.{List}
use Prim.Native.Nat.{ℕ, ◌≤◌, ◌<◌}
use native.Mathlib.Omega.{arith}
use Rattle.lay.specs.Below.{every}
use Rattle.lay.specs.Bytes.{num_at}
use Rattle.lay.specs.Slots.{item_at}
use Rattle.lay.specs.Layout.{item_in}
use Rattle.lay.proofs.Below.{length_tab, get_or_tab, tab_same}
use Rattle.lay.proofs.Tests.{rule, same_tests}
use Rattle.model.specs.Margin.{Known, margin_as}
use Rattle.model.specs.Content.{Content, no_subframe}
use Rattle.model.specs.Forms.{rows, row, limits1, layout_of, limits_of, form_in, layout_in, limits_in}
use Rattle.model.specs.Items.{component_part, zero_byte}
use Rattle.model.specs.Limits.{Limits}
use Rattle.model.specs.Lawful.{lawful}
use Rattle.model.specs.Meaning.{MarginLaw, SubframeLaw}
use Rattle.model.specs.Stored.{subframes_in, leading_in, trailing_in}
use Rattle.model.specs.View.{subframe_at, view}
use Rattle.model.specs.Accepts.{zero_bytes_ok, accepts}
use Rattle.model.specs.FormOne.{base_subframe_at, base_view, base_accepts}
use Rattle.model.proofs.Laying.{zeros_made}
use Rattle.model.proofs.Margins.{margin_known, margin_unknown}
use Rattle.model.proofs.Meanings.{lawful_law}

-- within form 1's limits a number is a margin of so many bits, and no other
said_known : (n : ℕ) → MarginLaw limits1 (margin_as n) → margin_as n ≡ Known n
said_known n h = margin_known n (λ e. true≢false (sym (subst (MarginLaw limits1) (margin_unknown n e) h)))

number_known : (n : ℕ) → n ≤ limits1.margin → margin_as n ≡ Known n
number_known n h = margin_known n (λ e. let w : ⊥ = omega (arith, h, e) in w)

num_at_none : (b : List ℕ) (o : ℕ) → num_at 0 b o ≡ 0
unfolding num_at
num_at_none b o = refl

module _ (b : List ℕ) where
  same_subframe : (i : ℕ) → margin_as (leading_in b i) ≡ Known (leading_in b i) → margin_as (trailing_in b i) ≡ Known (trailing_in b i) → subframe_at b i ≡ base_subframe_at b i
  unfolding subframe_at base_subframe_at
  same_subframe i l t = rw (l, t) refl

  same_view : ((i : ℕ) → i < subframes_in b → subframe_at b i ≡ base_subframe_at b i) → view b ≡ base_view b
  unfolding view base_view
  same_view h = rw (tab_same (subframes_in b) (subframe_at b) (base_subframe_at b) h) refl

  -- lawful by either, the two are one
  law_view : lawful limits1 (view b) ≡ true → view b ≡ base_view b
  unfolding view subframe_at
  law_view h =
      let v = lawful_law limits1 (view b) h in
      same_view
      (λ i l.
      let s : SubframeLaw limits1 (subframe_at b i) =
      subst (SubframeLaw limits1) (get_or_tab (subframes_in b) (subframe_at b) no_subframe i l) (v.each_subframe i (omega (arith, length_tab (subframes_in b) (subframe_at b)))) in
      same_subframe i (said_known (leading_in b i) s.leading) (said_known (trailing_in b i) s.trailing))

  base_law_view : lawful limits1 (base_view b) ≡ true → view b ≡ base_view b
  unfolding base_view base_subframe_at
  base_law_view h =
      let v = lawful_law limits1 (base_view b) h in
      same_view
      (λ i l.
      let s : SubframeLaw limits1 (base_subframe_at b i) =
      subst (SubframeLaw limits1) (get_or_tab (subframes_in b) (base_subframe_at b) no_subframe i l) (v.each_subframe i (omega (arith, length_tab (subframes_in b) (base_subframe_at b)))) in
      same_subframe i (number_known (leading_in b i) s.leading) (number_known (trailing_in b i) s.trailing))

  module _ (one : form_in b ≡ 1) where
    limits_one : limits_in b ≡ limits1
    unfolding limits_in row rows
    limits_one = ap limits_of one

    zeros_one : zero_bytes_ok b ≡ true
    unfolding item_in item_at layout_in row rows
    zeros_one = zeros_made b (λ k l. ap (λ (f : ℕ). item_in (layout_of f) b component_part k zero_byte) one ∙ num_at_none b _)

    lawful_same : lawful (limits_in b) (view b) ≡ lawful limits1 (base_view b)
    lawful_same =
        rw limits_one
        (same_tests _ _ (λ h. sym (ap (lawful limits1) (law_view h)) ∙ h) (λ h. ap (lawful limits1) (base_law_view h) ∙ h))

    pub base_accepts_lem : accepts b ≡ base_accepts b
    unfolding accepts base_accepts every
    base_accepts_lem = rw (lawful_same, zeros_one) refl

    pub base_view_lem : accepts b ≡ true → view b ≡ base_view b
    unfolding accepts
    base_view_lem h = law_view (subst (λ (m : Limits). lawful m (view b) ≡ true) limits_one (rule _ h 4))

    -- so whatever a call answers by the check and by what the table says, asking nothing of what is no table, it answered before
    pub base_kept : {A : Type 0} (F : Bool → Content → A) → ((c d : Content) → F false c ≡ F false d) → F (accepts b) (view b) ≡ F (base_accepts b) (base_view b)
    base_kept F none = go (accepts b) refl ∙ ap (λ (t : Bool). F t (base_view b)) base_accepts_lem
      where
        go : (t : Bool) → accepts b ≡ t → F t (view b) ≡ F t (base_view b)
        go true h = ap (F true) (base_view_lem h)
        go false h = none (view b) (base_view b)
