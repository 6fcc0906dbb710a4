-- Whoever keeps the promises of the bench meets the demands. Assumes nothing.
use Prim.Native.Nat.{ℕ, ◌-◌, ◌^◌, ◌≤◌, ◌<◌}
use native.Mathlib.Omega.{arith}
use mathlib.Core.Bool.{Bool, true, false, cond, ◌&&◌}
use mathlib.Core.Path.{◌≡◌, refl, sym, ap, subst, ◌∙◌}
use mathlib.Core.List.{List}
use mathlib.Core.Logic.{◌⊎◌, inl, inr}
use borrow.Author.Tests.{le-leb, lt-leb}
use lib.Dec.{ltb}
use lib.ListN.{length, get_or, take, drop}
use Rattle.text.specs.declared.refusal.Refusal.{Refusal}
use Rattle.text.specs.declared.refusal.Refusal.TheVariants.{TableTooSmall}
use Rattle.lay.specs.Bytes.{AreBytes}
use Rattle.sample.specs.Component.{Place, Named}
use Rattle.sample.specs.Joining.{join, width}
use Rattle.sample.specs.Source.{bit_in}
use Rattle.model.specs.Accepts.{accepts}
use Rattle.model.specs.Content.{Content}
use Rattle.model.specs.Forms.{newest, sheet_limits, form_in}
use Rattle.model.specs.Frame.{meets}
use Rattle.model.specs.Samples.{width_of, overlapped}
use Rattle.model.specs.View.{view}
use Rattle.model.specs.Write.{write}
use Rattle.model.proofs.Views.{parameters_view, samples_are}
use Rattle.model.proofs.Statements.{form_new}
use Rattle.model.proofs.WrittenBytes.{write_bytes}
use Rattle.gather.specs.Ruling.{Ruling, Accepted, Refused, judge_of}
use Rattle.gather.proofs.AcceptedLawful.{accepted_lawful}
use Rattle.grammar.proofs.Accepted.{accepted_says}
use Rattle.grammar.proofs.Accepts.{says_accepted}
use Rattle.maker.specs.Made.{made_of, left_of, unmade}
use Rattle.maker.proofs.MadeTables.{TooSmall as SmallTable, made_table, left_alone}
use Rattle.table.specs.Answers.{Checked, check_of, check_number, asked_number, asked_mnemonic}
use Rattle.framing.specs.Wanted.{wanted_of}
use Rattle.framing.specs.Reading.{raw_of, width_is, value_of, copies_agree, sample_read, read_of, read_number}
use Rattle.framing.specs.Placing.{laps_in, place_for, place_of, placed_for, placed_of, place_number}
use Rattle.framing.specs.Comparing.{compared_number}
use Rattle.framing.specs.Outcomes.{outcome_of}
use Rattle.framing.specs.declared.page.Request.{Request}
use Rattle.framing.specs.declared.page.Outcome.{Outcome}
use Rattle.framing.specs.declared.page.Paged.{Paged}
use Rattle.table.specs.declared.reason.Reason.TheVariants.{Overlapped, NoTable}
use Rattle.framing.proofs.Agree.{Lists, answers_bits, bits_answers}
use Rattle.framing.proofs.Answered.{answered, raw_below}
use Rattle.framing.proofs.Pages.{page_all, each_result, later_result, as_many_results}
use Rattle.framing.proofs.PlaceRead.{placing as placing-done, placed_other as other-kept, placed_read}
use Rattle.carding.specs.Answer.{carded_number, found_at}
use Rattle.carding.proofs.Next.{found_stands}
use Rattle.demands.specs.Calls.{Calls, Kept}
use Rattle.demands.specs.Refusing.{sample_of, components_of, wholes_of, first_broken, card_rules, page_rules}
use Rattle.demands.specs.Demands.{HasSample, meaning, answer_for, agree_in, answer_in, Fitting, SheetRefused, One, SheetTaken, NameAnswered, Two, SameAnswers, SameBits, NoOverlap, PageRead, FrameHanded, FrameFits, Three, Demands}
use Rattle.demands.proofs.Numbers.{check_number_lem, read_number_lem, place_number_lem, compare_number, name_number_lem, mnemonic_number}
use Rattle.demands.proofs.Cards.{card_number, bits_known, bits_unknown, card_unchanged, findable, frame_handed, front_meets, front_passes, found_findable}
use Rattle.demands.proofs.Pages.{page_number, page_passing, uncounted, unwritten}
use Rattle.demands.proofs.Parts.{unnamed_part, name_asked, mnemonic_asked, named_part, first_differing}
use Rattle.std.specs.Prelude.{Ok, Err}
use Rattle.framing.specs.Wanted.{Wanted}

-- ---- what a check that passes says

pub accepts_of : (t : List ℕ) → check_of t ≡ Ok tt → accepts t ≡ true
unfolding check_of
accepts_of t e = go (accepts t) e
  where
    go : (b : Bool) → ◌≡◌ {A = Checked} (cond b (Ok tt) (Err NoTable)) (Ok tt) → b ≡ true
    go true q = refl
    go false q = let z : ◌≡◌ {A = ℕ} 0 1 = cc in absurd (omega arith)

pub check_of_lem : (t : List ℕ) → accepts t ≡ true → check_of t ≡ Ok tt
unfolding check_of
check_of_lem t e = rw e

pub lists_of : (t : List ℕ) (p s : ℕ) → HasSample (view t) p s → Lists t p s
lists_of t p s l =
    let m = parameters_view t in
    let h = samples_are t (p - 1) (omega (arith, m, l.parameter_least, l.parameter_most)) in
    record {
      parameter_least = l.parameter_least;
      parameter_most = omega (arith, m, l.parameter_most);
      sample_least = l.sample_least;
      sample_most = omega (arith, h, l.sample_most);
    }

listed_of : (t : List ℕ) (p s : ℕ) → Lists t p s → HasSample (view t) p s
listed_of t p s l =
    let m = parameters_view t in
    let h = samples_are t (p - 1) (omega (arith, l.parameter_least, l.parameter_most)) in
    record {
      parameter_least = l.parameter_least;
      parameter_most = omega (arith, m, l.parameter_most);
      sample_least = l.sample_least;
      sample_most = omega (arith, h, l.sample_most);
    }

-- a placing that is refused leaves the words as they were
placing_unchanged : (t f : List ℕ) (p s v : ℕ) → (place_number (place_of t f p s v) ≡ 0 → ⊥) → placed_of t f p s v ≡ f
unfolding place_for place_of placed_for placed_of place_number
placing_unchanged t f p s v n = laps (accepts t && laps_in (view t) p s) (go (wanted_of t f p s)) n
  where
    laps : (b : Bool) → ((place_number (place_for (view t) (wanted_of t f p s) v) ≡ 0 → ⊥) → placed_for (view t) f (wanted_of t f p s) v ≡ f) → (place_number (cond b (Err Overlapped) (place_for (view t) (wanted_of t f p s) v)) ≡ 0 → ⊥) → cond b f (placed_for (view t) f (wanted_of t f p s) v) ≡ f
    laps true rest m = refl
    laps false rest m = rest m

    fit : (i j : ℕ) (b : Bool) → ltb v (2 ^ width_is (view t) i j) ≡ b → (place_number (place_for (view t) (Ok (i, j)) v) ≡ 0 → ⊥) → placed_for (view t) f (Ok (i, j)) v ≡ f
    fit i j true e m = absurd (m (rw e))
    fit i j false e m = rw e

    go : (w : Wanted) → (place_number (place_for (view t) w v) ≡ 0 → ⊥) → placed_for (view t) f w v ≡ f
    go (Ok (i, j)) m = fit i j (ltb v (2 ^ width_is (view t) i j)) refl m
    go (Err r) m = refl

module _ (B : Calls) (K : Kept B) where
  -- ---- sheets

  abbrev said : Content → Ruling → Content
  said d (Accepted c) = c
  said d (Refused q k) = d

  making : (s l : List ℕ) (r : Ruling) → judge_of s ≡ r → B.make s l ≡ made_of r (length l)
  making s l r e = (K.makes s l).0 ∙ ap (λ (v : Ruling). made_of v (length l)) e

  taken_exactly : (s l : List ℕ) (c : Content) → judge_of s ≡ Accepted c → length (write newest c) ≤ length l → B.make s l ≡ Ok (length (write newest c))
  taken_exactly s l c e h = making s l (Accepted c) e ∙ rw (le-leb (length (write newest c)) (length l) h)

  small_exactly : (s l : List ℕ) (c : Content) → judge_of s ≡ Accepted c → length l < length (write newest c) → B.make s l ≡ unmade TableTooSmall 0
  small_exactly s l c e h = making s l (Accepted c) e ∙ rw (lt-leb (length (write newest c)) (length l) h)

  says_so : (s l : List ℕ) (n : ℕ) (c : Content) → B.make s l ≡ Ok n → judge_of s ≡ Accepted c → view (take n (B.made s l)) ≡ c
  says_so s l n c h e =
      let t = made_table s l n (sym (K.makes s l).0 ∙ h) in
      ap (λ (x : List ℕ). view (take n x)) (K.makes s l).1 ∙ (t.says ∙ ap (said c) (sym t.accepted ∙ e))

  module _ (s l : List ℕ) (q : Refusal) (k : ℕ) where
    why_refused : B.make s l ≡ unmade q k → SheetRefused s l q k
    why_refused e = go (left_alone s l q k (sym (K.makes s l).0 ∙ e)).why
      where
        go : (judge_of s ≡ Refused q k) ⊎ SmallTable s l q k → SheetRefused s l q k
        go (inl h) = inl h
        go (inr t) = inr (record { content = t.content; says = accepted_says s t.content t.accepted; short = t.small; refusal = t.refusal; unlined = t.unlined })

    refused_so : SheetRefused s l q k → B.make s l ≡ unmade q k
    refused_so (inl e) = making s l (Refused q k) e
    refused_so (inr t) = small_exactly s l t.content (says_accepted s t.content t.says) t.short ∙ rw (t.refusal, t.unlined)

  -- ---- 1

  pub one : One B
  one =
      record {
        sheets = λ s l q k. (why_refused s l q k, refused_so s l q k);
        sheet_unchanged = λ s l q k e. (K.makes s l).1 ∙ (left_alone s l q k (sym (K.makes s l).0 ∙ e)).same;
        tables = λ t. ap check_number (K.checks t) ∙ check_number_lem t;
        reads = λ t f p s. ap read_number (K.reads t f p s) ∙ read_number_lem t f p s;
        places = λ t f p s v. ap place_number (K.places t f p s v).0 ∙ place_number_lem t f p s v;
        place_unchanged = λ t f p s v n. (K.places t f p s v).1 ∙ placing_unchanged t f p s v (λ e. n (sym (place_number_lem t f p s v) ∙ e));
        compares = λ t f. ap compared_number (K.compares t f) ∙ compare_number t f;
        subframe_told = λ t f s e. first_differing t f s (sym (K.compares t f) ∙ e);
        pages = λ t f qs rs. ap (λ (p : Paged). p.number) (K.pages t f qs rs).0 ∙ page_number qs rs;
        page_unchanged = λ t f qs rs n. record { count = ap (λ (p : Paged). p.count) (K.pages t f qs rs).0 ∙ uncounted qs rs n; results = (K.pages t f qs rs).1 ∙ unwritten qs rs t f n };
        names = λ t p. K.names_numbered t p ∙ name_number_lem t p;
        unnamed = λ t p n. unnamed_part t (B.name t p) (asked_number t.now p) (K.names t p) (λ e. n (sym (name_number_lem t.now p) ∙ e));
        mnemonics = λ t m. K.names_by_numbered t m ∙ mnemonic_number t m;
        unknown = λ t m n. unnamed_part t (B.name_by t m) (asked_mnemonic t.now m) (K.names_by t m) (λ e. n (sym (mnemonic_number t.now m) ∙ e));
        cards = λ t y from w. ap carded_number (K.cards_from t y from w).0 ∙ card_number t y from w;
        card_unchanged = λ t y from w n. (K.cards_from t y from w).1 ∙ card_unchanged t y from w (λ e. n (sym (card_number t y from w) ∙ e));
        no_bits = λ t n. K.counts_bits t ∙ bits_unknown t n;
      }

  -- ---- samples

  module _ (t : List ℕ) (h : B.check t ≡ Ok tt) (p s : ℕ) (l : HasSample (view t) p s) where
    passed : accepts t ≡ true
    passed = accepts_of t (sym (K.checks t) ∙ h)

    read_joined : (f : List ℕ) → meets (view t) f ≡ true → B.read t f p s ≡ answer_in (view t) f p s
    unfolding sample_read copies_agree raw_of width_is value_of width_of components_of meaning
    read_joined f m =
        let k = lists_of t p s l in
        K.reads t f p s ∙ answered t f p s passed m k.parameter_least k.parameter_most k.sample_least k.sample_most

    below_width : (f : List ℕ) → join f (components_of (view t) p s) < 2 ^ width (components_of (view t) p s)
    unfolding raw_of width_is width_of components_of
    below_width f = raw_below (view t) f (p - 1) (s - 1)

    module _ (z : overlapped (sample_of (view t) p s) ≡ false) (f : List ℕ) (m : meets (view t) f ≡ true) (v : ℕ) (d : v < 2 ^ width (components_of (view t) p s)) where
      value_done : B.place t f p s v ≡ Ok tt
      unfolding width_is width_of components_of
      value_done =
          let k = lists_of t p s l in
          (K.places t f p s v).0 ∙ placing-done t p s passed k.parameter_least k.parameter_most k.sample_least k.sample_most z f m v d

      read_back : B.read t (B.placed t f p s v) p s ≡ Ok (answer_for (view t) p s v)
      unfolding width_is width_of components_of meaning
      read_back =
          let k = lists_of t p s l in
          K.reads t (B.placed t f p s v) p s
          ∙ (ap (λ (x : List ℕ). read_of t x p s) (K.places t f p s v).1
          ∙ placed_read t p s passed k.parameter_least k.parameter_most k.sample_least k.sample_most z f m v d)

      kept_outside : (q : Place) → (Named (components_of (view t) p s) q → ⊥) → bit_in (B.placed t f p s v) q ≡ bit_in f q
      unfolding width_is width_of components_of
      kept_outside q o =
          let k = lists_of t p s l in
          ap (λ (x : List ℕ). bit_in x q) (K.places t f p s v).1
          ∙ other-kept t p s passed k.parameter_least k.parameter_most k.sample_least k.sample_most z f m v d q o

  -- ---- 2

  left_bytes : (s l : List ℕ) (n : ℕ) → B.make s l ≡ Ok n → AreBytes (take n (B.made s l))
  left_bytes s l n h =
      let t = made_table s l n (sym (K.makes s l).0 ∙ h) in
      let e : take n (B.made s l) ≡ write newest t.content = ap (take n) (K.makes s l).1 ∙ t.table in
      subst (λ (x : List ℕ). AreBytes x) (sym e) (write_bytes sheet_limits newest t.content (accepted_lawful s t.content t.accepted))

  left_form : (s l : List ℕ) (n : ℕ) → B.make s l ≡ Ok n → form_in (take n (B.made s l)) ≡ newest
  left_form s l n h =
      let t = made_table s l n (sym (K.makes s l).0 ∙ h) in
      ap (λ (x : List ℕ). form_in (take n x)) (K.makes s l).1 ∙ ap form_in t.table ∙ form_new t.content (accepted_lawful s t.content t.accepted)

  sheet : SheetTaken B
  sheet =
      record {
        taken = λ s l c h. taken_exactly s l c (says_accepted s c h);
        only = λ s l n h. let t = made_table s l n (sym (K.makes s l).0 ∙ h) in (t.content, accepted_says s t.content t.accepted);
        says = λ s l n c h w. says_so s l n c h (says_accepted s c w);
        form = λ s l n h. left_form s l n h;
        bytes = λ s l n h. left_bytes s l n h;
        later = λ s l n h. ap (drop n) (K.makes s l).1 ∙ (made_table s l n (sym (K.makes s l).0 ∙ h)).later;
      }

  named : NameAnswered B
  named =
      record {
        name = λ t p e. named_part t (B.name t p) (asked_number t.now p) (p - 1) (K.names t p) (name_asked t.now p e);
        mnemonic = λ t m e i l q. named_part t (B.name_by t m) (asked_mnemonic t.now m) i (K.names_by t m) (mnemonic_asked t.now m e i l q);
      }

  frame_found : (t y : List ℕ) (from : ℕ) (w : List ℕ) → first_broken (card_rules t y from w) ≡ 0 → FrameHanded (view t) y from w (B.card_from t y from w) (B.handed_from t y from w)
  frame_found t y from w e = rw ((K.cards_from t y from w).0, (K.cards_from t y from w).1) (frame_handed t y from w (findable t y from w e))

  -- a page is read request by request
  page_read : (t f : List ℕ) (qs : List Request) (rs : List Outcome) → first_broken (page_rules qs rs) ≡ 0 → PageRead B t f qs rs
  page_read t f qs rs h =
      let p = page_passing qs rs h in
      let e = K.pages t f qs rs in
      record {
        count = ap (λ (x : Paged). x.count) (e.0 ∙ sym (page_all t f qs rs p.few p.room).answered);
        long = ap length e.1 ∙ as_many_results t f qs rs p.few p.room;
        each = λ i q r l. ap (λ (ys : List Outcome). get_or ys i r) e.1 ∙ each_result t f qs rs p.few p.room i q r l ∙ ap outcome_of (sym (K.reads t f (get_or qs i q).parameter (get_or qs i q).sample));
        beyond = λ i r l. ap (λ (ys : List Outcome). get_or ys i r) e.1 ∙ later_result t f qs rs p.few p.room i r l;
      }

  pub two : Two B
  two =
      record {
        sheet = sheet;
        named = named;
        joined = λ t f p s h l. read_joined t h.passes p s l f h.fits;
        placed = λ t f p s v h l z d. record { done = value_done t h.passes p s l z f h.fits v d; back = read_back t h.passes p s l z f h.fits v d; other = kept_outside t h.passes p s l z f h.fits v d };
        pages = page_read;
        found = frame_found;
        first_of_all = λ t y w. record { answer = (K.cards t y w).0 ∙ sym (K.cards_from t y 0 w).0; words = (K.cards t y w).1 ∙ sym (K.cards_from t y 0 w).1 };
        frame_bits_lem = λ t h. K.counts_bits t ∙ bits_known t h;
      }

  -- ---- 3

  module _ (t f g : List ℕ) (h : Fitting B t f) (n : Fitting B t g) where
    passing : accepts t ≡ true
    passing = accepts_of t (sym (K.checks t) ∙ h.passes)

    same_bits : NoOverlap (view t) → SameAnswers B t f g → SameBits t f g
    unfolding wholes_of
    same_bits z a =
        record {
          each = λ p s l. (answers_bits t f g passing h.fits n.fits (record { each = λ p' s' k. z.each p' s' (listed_of t p' s' k) }) (record { each = λ p' s' k. sym (K.reads t f p' s') ∙ (a.each p' s' (listed_of t p' s' k) ∙ K.reads t g p' s') })).each p s (lists_of t p s l);
        }

    same_answers : SameBits t f g → SameAnswers B t f g
    unfolding wholes_of
    same_answers a =
        record {
          each = λ p s l. K.reads t f p s ∙ ((bits_answers t f g passing h.fits n.fits (record { each = λ p' s' k. a.each p' s' (listed_of t p' s' k) })).each p s (lists_of t p s l) ∙ sym (K.reads t g p s));
        }

  handed_fits : (t y : List ℕ) (from : ℕ) (w : List ℕ) (p n : ℕ) → B.card_from t y from w ≡ found_at p n → FrameFits B t (take n (B.handed_from t y from w))
  handed_fits t y from w p n e =
      let q = sym (K.cards_from t y from w).0 ∙ e in
      let h = found_findable t y from w p n q in
      rw ((K.cards_from t y from w).1, (found_stands t y from w p n q).counted)
      (record {
        fitting = record { passes = K.checks t ∙ check_of_lem t h.accepted; fits = front_meets t y from w h };
        compared = K.compares t _ ∙ front_passes t y from w h;
      })

  pub three : Three B
  three =
      record {
        passes = λ s l n h. K.checks (take n (B.made s l)) ∙ (ap (λ (x : List ℕ). check_of (take n x)) (K.makes s l).1 ∙ check_of_lem (take n (left_of (judge_of s) l)) (made_table s l n (sym (K.makes s l).0 ∙ h)).passes);
        answers = λ t f p s h l. record { raw = join f (components_of (view t) p s); wide = width (components_of (view t) p s); value = meaning (view t) p s (join f (components_of (view t) p s)); agree = agree_in (view t) f p s; is = read_joined t h.passes p s l f h.fits; below = below_width t h.passes p s l f };
        exactly = λ t f g h n z. (same_bits t f g h n z, same_answers t f g h n);
        alike = λ t f g h n. same_answers t f g h n;
        handed_fits = handed_fits;
      }

  pub demands_met : Demands B
  demands_met = record { one = one; two = two; three = three }
