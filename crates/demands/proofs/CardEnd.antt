-- From the sheet and the card to the value: of any bench that meets the demands. Assumes nothing.
use mathlib.Core.Path.{◌≡◌, sym, ap, ap₂, subst, ◌∙◌}
use mathlib.Core.Bool.{Bool, cond}
use mathlib.Core.List.{List}
use mathlib.Core.Logic.{◌⊎◌, inr, ◌↔◌, ⊎_elim}
use Prim.Native.Nat.{ℕ, ◌-◌, ◌<◌}
use native.Mathlib.Omega.{arith}
use borrow.Author.Tests.{eq-eqb}
use lib.Dec.{eqb}
use lib.ListN.{length, take}
use Rattle.lay.proofs.Tests.{differ, not_holds}
use Rattle.sample.specs.Component.{Place, Named}
use Rattle.sample.specs.Joining.{join}
use Rattle.sample.specs.Source.{bit_in}
use Rattle.model.specs.Accepts.{accepts}
use Rattle.model.specs.Content.{Content, parameter, parameters}
use Rattle.model.specs.Forms.{newest, form_in}
use Rattle.model.specs.Frame.{frame_words}
use Rattle.model.specs.Stored.{parameters_in}
use Rattle.model.specs.Samples.{holds}
use Rattle.model.specs.View.{view}
use Rattle.model.proofs.Rows.{not_first}
use Rattle.model.proofs.Views.{parameters_view}
use Rattle.grammar.specs.Says.{Says}
use Rattle.table.specs.Answers.{check_number}
use Rattle.table.proofs.Accepting.{accepted_ruled}
use Rattle.framing.specs.Reading.{Read, raw_of}
use Rattle.carding.specs.Layout.{frame_at, source_at, raw_at, held_from, Carries}
use Rattle.carding.specs.Search.{FirstFrame}
use Rattle.carding.specs.Answer.{SomeUnknown, carded_number, found_at}
use Rattle.carding.proofs.Back.{carried}
use Rattle.carding.proofs.CardCases.{found_same}
use Rattle.carding.proofs.Untold.{not_told, refused_exactly}
use Rattle.carding.proofs.Straight.{straight, straight_bit, straight_held}
use Rattle.demands.specs.Calls.{Calls}
use Rattle.demands.specs.Refusing.{sample_of, components_of, wholes_of, first_broken, check_rules, card_rules}
use Rattle.demands.specs.Demands.{HasSample, answer_for, differs_for, agree_in, SameAnswers, SameBits, NoOverlap, Demands}
use Rattle.demands.proofs.Cards.{card_number, Findable, findable}
use Rattle.demands.proofs.Unbroken.{holds_first}
use Rattle.std.specs.Prelude.{Ok}

-- what a read of sample j of parameter q must answer, by the sheet and the card: its bits joined where they stand in the stream, and
-- held against what stands there
abbrev pub read_from : Content → List ℕ → ℕ → ℕ → ℕ → Read
read_from c y p q j =
    Ok (cond (held_from c y p (sample_of c q j) (raw_at c y p (q - 1) (j - 1)))
    (answer_for c q j (raw_at c y p (q - 1) (j - 1)))
    (differs_for c q j (raw_at c y p (q - 1) (j - 1))))

-- a card found at p, by a table t that says c
pub record CardAsSaid (B : Calls) (t y : List ℕ) (from : ℕ) (w : List ℕ) (p n : ℕ) (c : Content) : Type 0 where
  pub first : FirstFrame c y from p
  pub carries : Carries c y p (take n (B.handed_from t y from w))
  pub reads : (q j : ℕ) → HasSample c q j → B.read t (take n (B.handed_from t y from w)) q j ≡ read_from c y p q j

-- two cards' streams agree at every bit that some component names, each counted from its own frame's position
pub record SameStreams (c : Content) (y : List ℕ) (p : ℕ) (z : List ℕ) (q : ℕ) : Type 0 where
  pub each : (k j : ℕ) → HasSample c k j → (x : Place) → Named (wholes_of c k j) x → source_at c y p x ≡ source_at c z q x

module _ (B : Calls) (D : Demands B) where
  -- 26, exactly "for form 1 or for an unknown margin"
  pub margins_refused : (t y : List ℕ) (from : ℕ) (w : List ℕ) → first_broken (check_rules t) ≡ 0 → (parameters (view t) ≡ 0 → ⊥)
      → (carded_number (B.card_from t y from w) ≡ 26) ↔ ((form_in t ≡ 1) ⊎ SomeUnknown (view t))
  unfolding first_broken
  margins_refused t y from w h some =
      let n = D.one.cards t y from w ∙ sym (card_number t y from w) in
      let r = refused_exactly t (holds_first (accepts t) 0 18 (omega arith) h).0 some y from w in
      (λ e. r.0 (sym n ∙ e), λ u. n ∙ r.1 u)

  module _ (t y : List ℕ) (from : ℕ) (w : List ℕ) (p n : ℕ) (e : B.card_from t y from w ≡ found_at p n) where
    unbroken : first_broken (card_rules t y from w) ≡ 0
    unfolding carded_number
    unbroken = sym (D.one.cards t y from w) ∙ ap carded_number e

    fits : Findable t y from w
    fits = findable t y from w unbroken

    -- no frame is handed out by a table that does not tell its margins
    pub margins_known_lem : (form_in t ≡ 1) ⊎ SomeUnknown (view t) → ⊥
    margins_known_lem u = not_told t fits.accepted u fits.told

    abbrev handed : List ℕ
    handed = take n (B.handed_from t y from w)

    -- the frame handed out is the one at p
    found_first : FirstFrame (view t) y from p
    found_first =
        let f = D.two.found t y from w unbroken in
        subst (FirstFrame (view t) y from) (found_same (sym f.is ∙ e)).0 f.first

    found_carries : Carries (view t) y p handed
    found_carries =
        let f = D.two.found t y from w unbroken in
        let q = found_same (sym f.is ∙ e) in
        subst (λ (k : ℕ). Carries (view t) y p (take k (B.handed_from t y from w))) q.1
        (subst (λ (k : ℕ). Carries (view t) y k (take (frame_words (view t)) (B.handed_from t y from w))) q.0 f.words)

    handed_is : handed ≡ frame_at (view t) y p
    handed_is = sym (carried (view t) handed found_carries)

    module _ (q j : ℕ) (l : HasSample (view t) q j) where
      listed : q - 1 < parameters_in t
      listed = omega (arith, parameters_view t, l.parameter_least, l.parameter_most)

      sampled : j - 1 < length (parameter (view t) (q - 1)).samples
      sampled = omega (arith, l.sample_least, l.sample_most)

      raw_straight : join handed (components_of (view t) q j) ≡ raw_at (view t) y p (q - 1) (j - 1)
      unfolding components_of raw_of
      raw_straight =
          ap (λ (f : List ℕ). join f (components_of (view t) q j)) handed_is
          ∙ sym (straight t y p (q - 1) (j - 1) (accepted_ruled t fits.accepted) listed sampled)

      bit_straight : (x : Place) → Named (wholes_of (view t) q j) x → bit_in handed x ≡ source_at (view t) y p x
      unfolding wholes_of
      bit_straight x h =
          ap (λ (f : List ℕ). bit_in f x) handed_is
          ∙ sym (straight_bit t y p (q - 1) (j - 1) (accepted_ruled t fits.accepted) listed sampled x h)

      agree_straight : agree_in (view t) handed q j ≡ held_from (view t) y p (sample_of (view t) q j) (raw_at (view t) y p (q - 1) (j - 1))
      agree_straight =
          ap₂ (λ (f : List ℕ) (v : ℕ). holds (view t).subframes f (sample_of (view t) q j) v) handed_is raw_straight
          ∙ sym (straight_held t y p (q - 1) (j - 1) (accepted_ruled t fits.accepted) listed sampled (raw_at (view t) y p (q - 1) (j - 1)))

      read_straight : B.read t handed q j ≡ read_from (view t) y p q j
      read_straight =
          D.two.joined t handed q j (D.three.handed_fits t y from w p n e).fitting l
          ∙ ap₂ (λ (a : Bool) (r : ℕ). Ok (cond a (answer_for (view t) q j r) (differs_for (view t) q j r))) agree_straight raw_straight

    pub card_as_said : CardAsSaid B t y from w p n (view t)
    card_as_said = record { first = found_first; carries = found_carries; reads = read_straight }

  -- the whole way: a sheet, its table, a card, the value
  pub card_to_value : (s l : List ℕ) (n : ℕ) (c : Content) → Says s c → B.make s l ≡ Ok n
      → (y : List ℕ) (from : ℕ) (w : List ℕ) (p k : ℕ) → B.card_from (take n (B.made s l)) y from w ≡ found_at p k
      → CardAsSaid B (take n (B.made s l)) y from w p k c
  card_to_value s l n c h m y from w p k e =
      subst (CardAsSaid B (take n (B.made s l)) y from w p k) (D.two.sheet.says s l n c m h)
      (card_as_said (take n (B.made s l)) y from w p k e)

  -- and where there is none: by a sheet's table a card is refused 26 exactly where the sheet leaves a margin blank
  pub blank_refused : (s l : List ℕ) (n : ℕ) (c : Content) → Says s c → B.make s l ≡ Ok n → (parameters c ≡ 0 → ⊥)
      → (y : List ℕ) (from : ℕ) (w : List ℕ) → (carded_number (B.card_from (take n (B.made s l)) y from w) ≡ 26) ↔ SomeUnknown c
  unfolding check_number
  blank_refused s l n c h m some y from w =
      let t = take n (B.made s l) in
      let v : view t ≡ c = D.two.sheet.says s l n c m h in
      let passes : first_broken (check_rules t) ≡ 0 = sym (D.one.tables t) ∙ ap check_number (D.three.passes s l n m) in
      let newer : form_in t ≡ 1 → ⊥ = λ e. differ (not_holds (eqb newest 1) not_first) (eq-eqb newest 1 (sym (D.two.sheet.form s l n m) ∙ e)) in
      let r = margins_refused t y from w passes (subst (λ (d : Content). parameters d ≡ 0 → ⊥) (sym v) some) in
      (λ e. subst SomeUnknown v (⊎_elim (λ o. absurd (newer o)) (λ u. u) (r.0 e)), λ u. r.1 (inr (subst SomeUnknown (sym v) u)))

  -- demand 3 over cards: two of them whose streams agree at every named bit give equal answers for all samples; by a table without
  -- overlap exactly then
  module _ (t y : List ℕ) (from : ℕ) (w : List ℕ) (p n : ℕ) (e : B.card_from t y from w ≡ found_at p n)
      (z : List ℕ) (since : ℕ) (v : List ℕ) (q m : ℕ) (d : B.card_from t z since v ≡ found_at q m) where
    abbrev f : List ℕ
    f = take n (B.handed_from t y from w)

    abbrev g : List ℕ
    g = take m (B.handed_from t z since v)

    same_bits : SameStreams (view t) y p z q → SameBits t f g
    same_bits s = record { each = λ k j l x h. bit_straight t y from w p n e k j l x h ∙ s.each k j l x h ∙ sym (bit_straight t z since v q m d k j l x h) }

    pub cards_alike : SameStreams (view t) y p z q → SameAnswers B t f g
    cards_alike s = D.three.alike t f g (D.three.handed_fits t y from w p n e).fitting (D.three.handed_fits t z since v q m d).fitting (same_bits s)

    pub cards_exactly : NoOverlap (view t) → SameAnswers B t f g ↔ SameStreams (view t) y p z q
    cards_exactly plain =
        let frames = D.three.exactly t f g (D.three.handed_fits t y from w p n e).fitting (D.three.handed_fits t z since v q m d).fitting plain in (
          λ a. record { each = λ k j l x h. sym (bit_straight t y from w p n e k j l x h) ∙ (frames.0 a).each k j l x h ∙ bit_straight t z since v q m d k j l x h },
          cards_alike,
        )
