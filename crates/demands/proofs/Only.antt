-- The demands leave no choice: whoever meets them keeps every promise of the bench. So no other bench, good or bad, meets them.
-- Assumes nothing.
use Prim.Native.Nat.{ℕ, ◌-◌, ◌^◌, ◌≤◌, ◌<◌}
use native.Mathlib.Omega.{arith}
use native.Mathlib.Decide.{dec_le, dec_lt, ℕ_discrete}
use mathlib.Core.Bool.{true, false}
use mathlib.Core.Path.{◌≡◌, refl, sym, ap, ap₂, subst, ◌∙◌}
use mathlib.Core.List.{List}
use mathlib.Core.Logic.{inl, inr}
use denote.Ref.{Bor}
use borrow.Author.Tests.{le-leb, lt-leb, ltb-true}
use lib.ListN.{length, get_or, take, take-append-drop}
use lib.IntN.{pos}
use lib.Seq.{ext_get_or}
use Rattle.sample.specs.Component.{Place, Named}
use Rattle.sample.specs.declared.component.Component.{Component}
use Rattle.sample.specs.Joining.{join, width}
use Rattle.sample.specs.Source.{bit_in}
use Rattle.sample.proofs.Sources.{join_agree}
use Rattle.sample.proofs.Frames.{frame_ext}
use Rattle.model.specs.Accepts.{accepts}
use Rattle.model.specs.Content.{Content}
use Rattle.model.specs.Forms.{newest}
use Rattle.model.specs.Frame.{meets}
use Rattle.model.specs.Samples.{overlapped}
use Rattle.model.specs.View.{view}
use Rattle.model.specs.Write.{write}
use Rattle.model.proofs.Statements.{accepted_writing}
use Rattle.gather.specs.Ruling.{Ruling, Accepted, Refused, judge_of}
use Rattle.grammar.specs.Says.{Says}
use Rattle.grammar.proofs.Accepted.{accepted_says}
use Rattle.maker.specs.Made.{made_of, left_of}
use Rattle.bench.specs.Promises.{Makes, Pages, Names, NamesBy, Cards, FrameBits}
use Rattle.table.specs.Answers.{NameOf, check_of, asked_number, asked_mnemonic, asked_refusal, name_answered, place_answered}
use Rattle.framing.specs.Reading.{read_of, read_number}
use Rattle.framing.specs.Outcomes.{outcome_of}
use Rattle.framing.specs.Paging.{paged_of, results_of}
use Rattle.framing.specs.declared.page.Request.{Request}
use Rattle.framing.specs.declared.page.Outcome.{Outcome}
use Rattle.framing.specs.Placing.{place_of, placed_of}
use Rattle.framing.specs.Comparing.{compared_of}
use Rattle.demands.specs.Calls.{Calls, Kept}
use Rattle.demands.specs.Refusing.{sample_of, components_of, first_broken, read_rules, place_rules, name_rules, mnemonic_rules, card_rules, bits_rules, page_rules}
use Rattle.demands.specs.Demands.{answer_for, Fitting, EmptyPart, NamePart, ValuePlaced, PageRead, Demands}
use Rattle.demands.proofs.Numbers.{read_number_lem, place_number_lem, compare_number, name_number_lem, mnemonic_number}
use Rattle.demands.proofs.Pages.{same_paged, page_number, uncounted, unwritten}
use Rattle.demands.proofs.Parts.{name_asked, mnemonic_found, first_differing}
use Rattle.demands.proofs.Told.{raw_in, answer_raw, same_reading, same_placing, same_checked, same_compared}
use Rattle.demands.proofs.Cards.{card_number, findable, handed_alike, same_carded}
use Rattle.demands.proofs.Unbroken.{Readable, readable, long, placeable}
use Rattle.demands.proofs.Meeting.{accepts_of, check_of_lem}
use Rattle.demands.proofs.Ours.{ours, ours_meets}
use Rattle.std.specs.Prelude.{Ok, Err}
use Rattle.table.specs.Answers.{Asked}

-- frames of one length that join alike, and agree at every bit that no component names, are one
one_frame : (g h : List ℕ) (cs : List Component) → length g ≡ length h → join g cs ≡ join h cs
    → ((q : Place) → (Named cs q → ⊥) → bit_in g q ≡ bit_in h q) → g ≡ h
one_frame g h cs l j o = frame_ext g h l (λ q. go q (ℕ_discrete (bit_in g q) (bit_in h q)))
  where
    go : (q : Place) → Dec (bit_in g q ≡ bit_in h q) → bit_in g q ≡ bit_in h q
    go q (yes e) = e
    go q (no n) = o q (λ m. n (join_agree g h cs j q m))

-- what stands past the end of a list
abbrev nobody : Request
nobody = record { parameter = 0; sample = 0 }

abbrev nothing : Outcome
nothing = record { number = 0; kind = 0; width = 0; raw = 0; value = pos 0 }

some : (n : ℕ) → (0 < n → ⊥) → n ≡ 0
some n h = omega arith

-- the name that is asked for, or the empty part, as the promise has it
part_named : (t r : Bor (List ℕ)) (i : ℕ) → NamePart t r i → NameOf t r (Ok i)
unfolding name_answered place_answered
part_named t r i h = record { bytes = h.bytes_are; own = h.own }

part_empty : (t r : Bor (List ℕ)) (a : Asked) → 0 < asked_refusal a → EmptyPart t r → NameOf t r a
unfolding name_answered place_answered asked_refusal
part_empty t r (Ok i) n h = absurd (omega arith)
part_empty t r (Err q) n h = record { bytes = h.bytes_are; own = h.own }

module _ (B : Calls) (D : Demands B) where
  checks : (t : List ℕ) → B.check t ≡ check_of t
  unfolding check_of first_broken
  checks t = same_checked (B.check t) (accepts t) (D.one.tables t)

  -- where nothing is broken, the frame fits by either bench
  fitting : (t f : List ℕ) → accepts t ≡ true → meets (view t) f ≡ true → Fitting B t f
  fitting t f a m = record { passes = checks t ∙ check_of_lem t a; fits = m }

  fitting_ours : (t f : List ℕ) → accepts t ≡ true → meets (view t) f ≡ true → Fitting ours t f
  fitting_ours t f a m = record { passes = check_of_lem t a; fits = m }

  -- ---- reading

  reads : (t f : List ℕ) (p s : ℕ) → B.read t f p s ≡ read_of t f p s
  reads t f p s = go (dec_lt 0 (first_broken (read_rules t f p s)))
    where
      go : Dec (0 < first_broken (read_rules t f p s)) → B.read t f p s ≡ read_of t f p s
      go (yes h) = same_reading _ _ (D.one.reads t f p s ∙ sym (read_number_lem t f p s)) (subst (λ (n : ℕ). 0 < n) (sym (read_number_lem t f p s)) h)
      go (no h) =
          let x = readable t f p s (some _ h) in
          D.two.joined t f p s (fitting t f x.accepted x.fits) x.there ∙ sym (ours_meets.two.joined t f p s (fitting_ours t f x.accepted x.fits) x.there)

  -- ---- placing

  module _ (t f : List ℕ) (p s v : ℕ) where
    placed_none : 0 < first_broken (place_rules t f p s v) → (B.place t f p s v ≡ place_of t f p s v) × (B.placed t f p s v ≡ placed_of t f p s v)
    placed_none h = (
      same_placing _ _ (D.one.places t f p s v ∙ sym (place_number_lem t f p s v)) (subst (λ (n : ℕ). 0 < n) (sym (place_number_lem t f p s v)) h),
      D.one.place_unchanged t f p s v (λ e. omega arith) ∙ sym (ours_meets.one.place_unchanged t f p s v (λ e. omega arith)),
    )

    module _ (x : Readable t f p s) (z : overlapped (sample_of (view t) p s) ≡ false) (d : v < 2 ^ width (components_of (view t) p s)) where
      theirs : ValuePlaced B t f p s v
      theirs = D.two.placed t f p s v (fitting t f x.accepted x.fits) x.there z d

      own : ValuePlaced ours t f p s v
      own = ours_meets.two.placed t f p s v (fitting_ours t f x.accepted x.fits) x.there z d

      -- a frame that is read back is readable, and joins to the value
      joins : (g : List ℕ) → read_of t g p s ≡ Ok (answer_for (view t) p s v) → (length g ≡ length f) × (join g (components_of (view t) p s) ≡ v)
      joins g e =
          let r = readable t g p s (sym (read_number_lem t g p s) ∙ (ap read_number e ∙ (unfold read_number in refl))) in
          (long t g r.fits ∙ sym (long t f x.fits), sym (answer_raw (view t) g p s) ∙ ap raw_in (sym (ours_meets.two.joined t g p s (fitting_ours t g r.accepted r.fits) r.there) ∙ e))

      placed_some : (B.place t f p s v ≡ place_of t f p s v) × (B.placed t f p s v ≡ placed_of t f p s v)
      placed_some =
          let a = joins (B.placed t f p s v) (sym (reads t (B.placed t f p s v) p s) ∙ theirs.back) in
          let b = joins (placed_of t f p s v) own.back in (
            theirs.done ∙ sym own.done,
            one_frame _ _ (components_of (view t) p s) (a.0 ∙ sym b.0) (a.1 ∙ sym b.1) (λ q o. theirs.other q o ∙ sym (own.other q o)),
          )

  places : (t f : List ℕ) (p s v : ℕ) → (B.place t f p s v ≡ place_of t f p s v) × (B.placed t f p s v ≡ placed_of t f p s v)
  places t f p s v = go (dec_lt 0 (first_broken (place_rules t f p s v)))
    where
      go : Dec (0 < first_broken (place_rules t f p s v)) → (B.place t f p s v ≡ place_of t f p s v) × (B.placed t f p s v ≡ placed_of t f p s v)
      go (yes h) = placed_none t f p s v h
      go (no h) =
          let e = placeable t f p s v (some _ h) in
          placed_some t f p s v e.readable e.plain (ltb-true _ _ e.fitting)

  -- ---- comparing

  compares : (t f : List ℕ) → B.compare t f ≡ compared_of t f
  compares t f =
      same_compared (view t) f (B.compare t f) (compared_of t f) (D.one.compares t f ∙ sym (compare_number t f))
      (λ s e. D.one.subframe_told t f s e) (λ s e. first_differing t f s e)

  -- ---- pages: answer by answer, and result by result

  pages : (t f : List ℕ) (qs : List Request) (rs : List Outcome) → Pages t f qs rs (B.page t f qs rs) (B.paged t f qs rs)
  pages t f qs rs = go (dec_lt 0 (first_broken (page_rules qs rs)))
    where
      numbered : (B.page t f qs rs).number ≡ (paged_of (length qs) (length rs)).number
      numbered = D.one.pages t f qs rs ∙ sym (page_number qs rs)

      one_result : PageRead B t f qs rs → PageRead ours t f qs rs → (i : ℕ) → Dec (i < length qs) → get_or (B.paged t f qs rs) i nothing ≡ get_or (results_of t f qs rs) i nothing
      one_result a b i (yes l) = a.each i nobody nothing l ∙ ap outcome_of (reads t f (get_or qs i nobody).parameter (get_or qs i nobody).sample) ∙ sym (b.each i nobody nothing l)
      one_result a b i (no l) = a.beyond i nothing (omega arith) ∙ sym (b.beyond i nothing (omega arith))

      go : Dec (0 < first_broken (page_rules qs rs)) → Pages t f qs rs (B.page t f qs rs) (B.paged t f qs rs)
      go (yes h) =
          let a = D.one.page_unchanged t f qs rs (λ e. omega arith) in
          (same_paged _ _ numbered (a.count ∙ sym (uncounted qs rs (λ e. omega arith))), a.results ∙ sym (unwritten qs rs t f (λ e. omega arith)))
      go (no h) =
          let a = D.two.pages t f qs rs (some _ h) in
          let b = ours_meets.two.pages t f qs rs (some _ h) in (
            same_paged _ _ numbered (a.count ∙ sym b.count),
            ext_get_or nothing (B.paged t f qs rs) (results_of t f qs rs) (a.long ∙ sym b.long) (λ i l. one_result a b i (dec_lt i (length qs))),
          )

  -- ---- naming

  names : (t : Bor (List ℕ)) (p : ℕ) → Names t p (B.name t p)
  names t p = go (dec_lt 0 (first_broken (name_rules t.now p)))
    where
      go : Dec (0 < first_broken (name_rules t.now p)) → Names t p (B.name t p)
      go (yes h) = part_empty t (B.name t p) (asked_number t.now p) (subst (λ (n : ℕ). 0 < n) (sym (name_number_lem t.now p)) h) (D.one.unnamed t p (λ e. omega arith))
      go (no h) = subst (NameOf t (B.name t p)) (sym (name_asked t.now p (some _ h))) (part_named t (B.name t p) (p - 1) (D.two.named.name t p (some _ h)))

  names_by : (t : Bor (List ℕ)) (m : List ℕ) → NamesBy t m (B.name_by t m)
  names_by t m = go (dec_lt 0 (first_broken (mnemonic_rules t.now m)))
    where
      go : Dec (0 < first_broken (mnemonic_rules t.now m)) → NamesBy t m (B.name_by t m)
      go (yes h) = part_empty t (B.name_by t m) (asked_mnemonic t.now m) (subst (λ (n : ℕ). 0 < n) (sym (mnemonic_number t.now m)) h) (D.one.unknown t m (λ e. omega arith))
      go (no h) =
          let x = mnemonic_found t.now m (some _ h) in
          subst (NameOf t (B.name_by t m)) (sym x.asked) (part_named t (B.name_by t m) x.at (D.two.named.mnemonic t m (some _ h) x.at x.here x.has))

  -- ---- cards

  cards_from : (t y : List ℕ) (from : ℕ) (w : List ℕ) → Cards t y from w (B.card_from t y from w) (B.handed_from t y from w)
  cards_from t y from w = go (dec_lt 0 (first_broken (card_rules t y from w)))
    where
      go : Dec (0 < first_broken (card_rules t y from w)) → Cards t y from w (B.card_from t y from w) (B.handed_from t y from w)
      go (yes h) = (
        same_carded _ _ (D.one.cards t y from w ∙ sym (card_number t y from w)) (subst (λ (n : ℕ). 0 < n) (sym (card_number t y from w)) h),
        D.one.card_unchanged t y from w (λ e. omega arith) ∙ sym (ours_meets.one.card_unchanged t y from w (λ e. omega arith)),
      )
      go (no h) = handed_alike t y from w (findable t y from w (some _ h)) (D.two.found t y from w (some _ h))

  cards : (t y w : List ℕ) → Cards t y 0 w (B.card t y w) (B.handed t y w)
  cards t y w =
      let a = D.two.first_of_all t y w in
      let b = cards_from t y 0 w in
      (a.answer ∙ b.0, a.words ∙ b.1)

  -- ---- how many bits a frame has

  counts_bits : (t : List ℕ) → FrameBits t (B.frame_bits t)
  counts_bits t = go (dec_lt 0 (first_broken (bits_rules t)))
    where
      go : Dec (0 < first_broken (bits_rules t)) → FrameBits t (B.frame_bits t)
      go (yes h) = D.one.no_bits t (λ e. omega arith) ∙ sym (ours_meets.one.no_bits t (λ e. omega arith))
      go (no h) = D.two.frame_bits_lem t (some _ h) ∙ sym (ours_meets.two.frame_bits_lem t (some _ h))

  -- ---- making

  module _ (s l : List ℕ) where
    abbrev AsPromised : Ruling → Type 0
    AsPromised r = (B.make s l ≡ made_of r (length l)) × (B.made s l ≡ left_of r l)

    module _ (c : Content) (w : Says s c) where
      enough : length (write newest c) ≤ length l → AsPromised (Accepted c)
      enough h =
          let n = length (write newest c) in
          let e = D.two.sheet.taken s l c w h in
          let a = (accepted_writing (take n (B.made s l)) (D.two.sheet.bytes s l n e) (passing e)).1 in
          let t : take n (B.made s l) ≡ write newest c = sym a ∙ ap₂ write (D.two.sheet.form s l n e) (D.two.sheet.says s l n c e w) in (
            e ∙ rw (le-leb n (length l) h),
            sym (take-append-drop n (B.made s l)) ∙ (rw (t, D.two.sheet.later s l n e, le-leb n (length l) h)),
          )
        where
          passing : B.make s l ≡ Ok (length (write newest c)) → accepts (take (length (write newest c)) (B.made s l)) ≡ true
          passing e = accepts_of _ (sym (checks _) ∙ D.three.passes s l (length (write newest c)) e)

      short : length l < length (write newest c) → AsPromised (Accepted c)
      short h =
          let e = (D.one.sheets s l _ _).1 (inr (record { content = c; says = w; short = h; refusal = refl; unlined = refl })) in
          (e ∙ rw (lt-leb (length (write newest c)) (length l) h), D.one.sheet_unchanged s l _ _ e ∙ rw (lt-leb (length (write newest c)) (length l) h))

    makes : Makes s l (B.make s l) (B.made s l)
    makes = go (judge_of s) refl
      where
        go : (r : Ruling) → judge_of s ≡ r → AsPromised r
        go (Refused q k) e = let h = (D.one.sheets s l q k).1 (inl e) in (h, D.one.sheet_unchanged s l q k h)
        go (Accepted c) e = room (dec_le (length (write newest c)) (length l))
          where
            room : Dec (length (write newest c) ≤ length l) → AsPromised (Accepted c)
            room (yes h) = enough c (accepted_says s c e) h
            room (no h) = short c (accepted_says s c e) (omega arith)

  pub only_ours : Kept B
  only_ours =
      record {
        makes = makes;
        checks = checks;
        reads = reads;
        places = places;
        compares = compares;
        pages = pages;
        names = names;
        names_numbered = λ t p. D.one.names t p ∙ sym (name_number_lem t p);
        names_by = names_by;
        names_by_numbered = λ t m. D.one.mnemonics t m ∙ sym (mnemonic_number t m);
        cards_from = cards_from;
        cards = cards;
        counts_bits = counts_bits;
      }
