-- Cards: our definitions have the first broken rule's number and hand out the first frame, and no other answer would do. Assumes
-- nothing.
use Prim.Native.Nat.{ℕ, ◌+◌, ◌*◌, ◌≤◌, ◌<◌}
use native.Mathlib.Omega.{arith}
use mathlib.Core.Bool.{Bool, true, false, cond, not, ◌&&◌}
use mathlib.Core.Path.{◌≡◌, refl, sym, ap, ap₂, subst, ◌∙◌}
use mathlib.Core.List.{List, ◌++◌}
use borrow.Author.Tests.{le-leb, leb-true, lt-ltb, ltb-true, eqb-true, eq-eqb, ne_eqb}
use lib.Dec.{eqb, leb, ltb}
use lib.ListN.{length, take, drop, take-append-drop}
use lib.Seq.{take_at, drop_at}
use Rattle.lay.specs.Below.{find}
use Rattle.lay.proofs.Puts.{put_front}
use Rattle.lay.proofs.Tests.{same_tests, differ, rule, not_holds, holds_not}
use Rattle.model.specs.Accepts.{accepts}
use Rattle.model.specs.Forms.{form_in, limits_in}
use Rattle.model.proofs.Rows.{blank_said}
use Rattle.model.proofs.Statements.{accepted_known}
use Rattle.model.specs.Content.{Content, parameters}
use Rattle.model.specs.Frame.{frame_words, words_ok, meets}
use Rattle.model.specs.View.{view}
use Rattle.framing.specs.Fitting.{fit_of}
use Rattle.framing.specs.Comparing.{Compared, fitted_compared, compared_of, compared_number}
use Rattle.framing.proofs.CompareCases.{compared_frame}
use Rattle.carding.specs.Layout.{frame_bits, frame_at, Carries}
use Rattle.carding.specs.Search.{sought_at, agrees_at, position_from, found_from}
use Rattle.carding.specs.Answer.{longest_stream, margins_known, margins_told, searched, carded_in, carded_of, handed_for, handed_of, carded_number, bits_of_frame, Carded, found_at}
use Rattle.table.specs.declared.reason.Reason.TheVariants.{NoTable, UnknownMargin, NoParameters, LongStream, NoFrame, FewWords}
use Rattle.table.specs.Reasons.{reason_number}
use Rattle.table.proofs.Reasoning.{reason_some, one_reason}
use Rattle.carding.proofs.Answers.{found_first, first_is}
use Rattle.carding.proofs.CardCases.{bits_none, bits_untold, bits_there}
use Rattle.carding.proofs.Back.{carried}
use Rattle.carding.proofs.Frames.{frame_long, frame_meets}
use Rattle.carding.proofs.Straight.{frame_carries}
use Rattle.demands.specs.Refusing.{first_broken, card_rules, bits_rules, has_parameters, tells_margins, not_long, some_frame, enough_words}
use Rattle.demands.specs.Demands.{FrameHanded}
use Rattle.demands.proofs.Numbers.{found_any}
use Rattle.demands.proofs.Unbroken.{holds_first}
use Rattle.std.specs.Prelude.{Ok, Err, Some, None}

-- ---- the tests of the rules are those of our definitions

some_none : (n : ℕ) → not (eqb n 0) ≡ leb 1 n
some_none n =
    same_tests _ _
    (λ h. le-leb 1 n (least n (λ e. differ (not_holds _ h) (eq-eqb n 0 e))))
    (λ h. holds_not _ (ne_eqb n 0 (λ e. let l = leb-true 1 n h in omega arith)))
  where
    least : (n : ℕ) → (n ≡ 0 → ⊥) → 1 ≤ n
    least n h = omega (arith, h)

found_some : (c : Content) (y : List ℕ) (from : ℕ) → found_from c y from ≡ some_frame c y from
unfolding found_from position_from
found_some c y from =
    same_tests (leb at (8 * length y)) (ltb at (8 * length y + 1))
    (λ h. lt-ltb at (8 * length y + 1) (let l = leb-true at (8 * length y) h in omega arith))
    (λ h. le-leb at (8 * length y) (let l = ltb-true at (8 * length y + 1) h in omega arith))
    ∙ found_any (8 * length y + 1) (sought_at c y from)
  where
    at : ℕ
    at = find (8 * length y + 1) (sought_at c y from)

-- form 1 is the one that can not say that a margin is unknown
pub told_same : (t : List ℕ) → accepts t ≡ true → margins_told t ≡ tells_margins t
unfolding margins_told limits_in
told_same t h = ap (λ (a : Bool). a && margins_known (view t)) (blank_said (form_in t) (accepted_known t h))

-- ---- 18, 27, 26, 38, 25, 28

pub card_number : (t y : List ℕ) (from : ℕ) (w : List ℕ) → carded_number (carded_of t y from w) ≡ first_broken (card_rules t y from w)
unfolding carded_of carded_in searched carded_number reason_number first_broken
card_number t y from w =
    go (accepts t) (eqb (parameters (view t)) 0) (margins_told t) (not_long y) (found_from (view t) y from) (enough_words (view t) w)
    ∙ ap₂ (λ (a b : Bool). cond (accepts t) (cond a (cond (margins_told t) (cond (not_long y) (cond b (cond (enough_words (view t) w) 0 28) 25) 38) 26) 27) 18)
    (some_none (parameters (view t))) (found_some (view t) y from)
    ∙ tells (accepts t) refl
  where
    go : (a n m l f e : Bool) → carded_number (cond a (cond n (Err NoParameters) (cond m (cond l (cond f (cond e (found_at (position_from (view t) y from) (frame_words (view t))) (Err FewWords)) (Err NoFrame)) (Err LongStream)) (Err UnknownMargin))) (Err NoTable)) ≡ cond a (cond (not n) (cond m (cond l (cond f (cond e 0 28) 25) 38) 26) 27) 18
    go false n m l f e = refl
    go true true m l f e = refl
    go true false false l f e = refl
    go true false true false f e = refl
    go true false true true false e = refl
    go true false true true true false = refl
    go true false true true true true = refl

    rest : Bool → ℕ
    rest m = cond (has_parameters (view t)) (cond m (cond (not_long y) (cond (some_frame (view t) y from) (cond (enough_words (view t) w) 0 28) 25) 38) 26) 27

    tells : (a : Bool) → accepts t ≡ a → cond a (rest (margins_told t)) 18 ≡ cond a (rest (tells_margins t)) 18
    tells true h = ap rest (told_same t h)
    tells false h = refl

-- ---- how many bits a frame has

pub bits_known : (t : List ℕ) → first_broken (bits_rules t) ≡ 0 → bits_of_frame t ≡ frame_bits (view t)
unfolding first_broken
bits_known t e =
    let a = holds_first (accepts t) _ 18 (omega arith) e in
    let b = holds_first (tells_margins t) _ 26 (omega arith) a.1 in
    sym (bits_there t a.0 (told_same t a.0 ∙ b.0))

pub bits_unknown : (t : List ℕ) → (first_broken (bits_rules t) ≡ 0 → ⊥) → bits_of_frame t ≡ 0
unfolding first_broken
bits_unknown t n = go (accepts t) (margins_told t) refl refl
  where
    go : (a m : Bool) → accepts t ≡ a → margins_told t ≡ m → bits_of_frame t ≡ 0
    go false m a u = sym (bits_none t a)
    go true false a u = sym (bits_untold t a u)
    go true true a u = absurd (n (rw (a, sym (told_same t a) ∙ u) refl))

-- a card that is refused leaves the words as they were
pub card_unchanged : (t y : List ℕ) (from : ℕ) (w : List ℕ) → (carded_number (carded_of t y from w) ≡ 0 → ⊥) → handed_of t y from w ≡ w
unfolding handed_of handed_for carded_number
card_unchanged t y from w n = go (carded_of t y from w) n
  where
    go : (r : Carded) → (carded_number r ≡ 0 → ⊥) → handed_for (view t) y w r ≡ w
    go (Ok f) m = absurd (m refl)
    go (Err r) m = refl

-- ---- where none is broken

pub record Findable (t y : List ℕ) (from : ℕ) (w : List ℕ) : Type 0 where
  pub accepted : accepts t ≡ true
  pub some : eqb (parameters (view t)) 0 ≡ false
  pub told : margins_told t ≡ true
  pub short : leb (length y) longest_stream ≡ true
  pub found : found_from (view t) y from ≡ true
  pub room : leb (frame_words (view t)) (length w) ≡ true

pub findable : (t y : List ℕ) (from : ℕ) (w : List ℕ) → first_broken (card_rules t y from w) ≡ 0 → Findable t y from w
unfolding first_broken
findable t y from w e =
    let a = holds_first (accepts t) _ 18 (omega arith) e in
    let b = holds_first (has_parameters (view t)) _ 27 (omega arith) a.1 in
    let m = holds_first (tells_margins t) _ 26 (omega arith) b.1 in
    let d = holds_first (not_long y) _ 38 (omega arith) m.1 in
    let g = holds_first (some_frame (view t) y from) _ 25 (omega arith) d.1 in
    let h = holds_first (enough_words (view t) w) _ 28 (omega arith) g.1 in
    record {
      accepted = a.0;
      some = not_holds _ (some_none (parameters (view t)) ∙ b.0);
      told = told_same t a.0 ∙ m.0;
      short = d.0;
      found = found_some (view t) y from ∙ g.0;
      room = h.0;
    }

meets_long : (c : Content) (f : List ℕ) → meets c f ≡ true → eqb (length f) (frame_words c) ≡ true
unfolding meets
meets_long c f m = rule _ m 0

meets_words : (c : Content) (f : List ℕ) → meets c f ≡ true → words_ok c f ≡ true
unfolding meets
meets_words c f m = rule _ m 1

number_passes : (x : Compared) → compared_number x ≡ 0 → x ≡ Ok None
unfolding compared_number
number_passes (Ok None) e = refl
number_passes (Err r) e = absurd (reason_some r e)
number_passes (Ok (Some s)) e = absurd (omega arith)

module _ (t y : List ℕ) (from : ℕ) (w : List ℕ) (h : Findable t y from w) where
  abbrev c : Content
  c = view t

  abbrev at : ℕ
  at = position_from c y from

  found_is : carded_of t y from w ≡ found_at at (frame_words c)
  unfolding carded_of carded_in searched
  found_is = rw (h.accepted, h.some, h.told, h.short, h.found, h.room)

  handed_is : handed_of t y from w ≡ frame_at c y at ++ drop (frame_words c) w
  unfolding handed_of handed_for
  handed_is =
      ap (handed_for c y w) found_is
      ∙ put_front w (frame_at c y at)
      ∙ ap (λ (n : ℕ). frame_at c y at ++ drop n w) (frame_long c y at)

  front : take (frame_words c) (handed_of t y from w) ≡ frame_at c y at
  front = ap (take (frame_words c)) handed_is ∙ take_at (frame_at c y at) (drop (frame_words c) w) (frame_words c) (frame_long c y at)

  pub frame_handed : FrameHanded c y from w (carded_of t y from w) (handed_of t y from w)
  frame_handed =
      record {
        position = at;
        is = found_is;
        first = found_first c y from h.found;
        words = subst (Carries c y at) (sym front) (frame_carries c y at);
        beyond = ap (drop (frame_words c)) handed_is ∙ drop_at (frame_at c y at) (drop (frame_words c) w) (frame_words c) (frame_long c y at);
      }

  -- the frame handed out meets the table, and comparing it passes
  pub front_meets : meets c (take (frame_words c) (handed_of t y from w)) ≡ true
  front_meets = ap (meets c) front ∙ frame_meets c y at

  pub front_passes : compared_of t (take (frame_words c) (handed_of t y from w)) ≡ Ok None
  unfolding fit_of fitted_compared agrees_at
  front_passes =
      let m = frame_meets c y at in
      let fit : fit_of c (frame_at c y at) ≡ Ok tt = rw (meets_long c (frame_at c y at) m, meets_words c (frame_at c y at) m) in
      ap (compared_of t) front
      ∙ compared_frame t (frame_at c y at) (Ok tt) h.accepted fit
      ∙ number_passes _ (eqb-true _ _ (found_first c y from h.found).agrees)

  -- whoever hands out a first frame's words hands out these
  pub handed_alike : {r : Carded} {o : List ℕ} → FrameHanded c y from w r o → (r ≡ carded_of t y from w) × (o ≡ handed_of t y from w)
  handed_alike {r} {o} f =
      let p : f.position ≡ at = first_is c y from f.position f.first in
      let words : take (frame_words c) o ≡ frame_at c y at = sym (carried c _ f.words) ∙ ap (frame_at c y) p in (
        f.is ∙ ap (λ (k : ℕ). found_at k (frame_words c)) p ∙ sym found_is,
        sym (take-append-drop (frame_words c) o) ∙ ap₂ ◌++◌ words f.beyond ∙ sym handed_is,
      )

-- what is found is findable
pub found_findable : (t y : List ℕ) (from : ℕ) (w : List ℕ) (p n : ℕ) → carded_of t y from w ≡ found_at p n → Findable t y from w
unfolding carded_number
found_findable t y from w p n e = findable t y from w (sym (card_number t y from w) ∙ ap carded_number e)

-- ---- a number says which refusal it is

pub same_carded : (x y : Carded) → carded_number x ≡ carded_number y → 0 < carded_number y → x ≡ y
unfolding carded_number
same_carded (Ok f) y e h = absurd (omega arith)
same_carded (Err q) (Ok f) e h = absurd (omega arith)
same_carded (Err q) (Err r) e h = ap Err (one_reason q r e)
