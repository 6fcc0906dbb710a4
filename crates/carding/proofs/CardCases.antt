-- A card's answer, refusal by refusal. Assumes nothing.
use mathlib.Core.Path.{◌≡◌, refl, ap, ◌∙◌}
use mathlib.Core.Bool.{true, false}
use mathlib.Core.List.{List}
use Prim.Native.Nat.{ℕ, ◌*◌, ◌≤◌, ◌<◌}
use native.Mathlib.Omega.{arith}
use borrow.Author.Tests.{le-leb, lt-leb, eq-eqb, ne_eqb}
use lib.Dec.{leb}
use lib.ListN.{length}
use Rattle.std.specs.Prelude.{Err}
use Rattle.lay.specs.Bytes.{put}
use Rattle.model.specs.Content.{Content, parameters}
use Rattle.model.specs.Frame.{frame_words}
use Rattle.model.specs.View.{view}
use Rattle.model.specs.Accepts.{accepts}
use Rattle.carding.specs.declared.carded.Found.{Found}
use Rattle.table.specs.declared.reason.Reason.{Reason}
use Rattle.table.specs.declared.reason.Reason.TheVariants.{NoTable, UnknownMargin, NoParameters, LongStream, NoFrame, FewWords}
use Rattle.carding.specs.Layout.{frame_bits, frame_at}
use Rattle.carding.specs.Search.{position_from, found_from}
use Rattle.carding.specs.Answer.{searched, margins_told, carded_in, carded_of, handed_for, handed_of, longest_stream, bits_of_frame, found_at, Carded}

-- ---- the search, by the position it ends at

module _ (c : Content) (y : List ℕ) (from : ℕ) (words : List ℕ) {p : ℕ} (e : p ≡ position_from c y from) where
  -- an answer with the words it leaves
  abbrev pub Searched : Carded → List ℕ → Type 0
  Searched r o = (r ≡ searched c y from words) × (o ≡ handed_for c y words r)

  pub refused_25 : 8 * length y < p → Searched (Err NoFrame) words
  unfolding searched found_from handed_for
  refused_25 l =
      let f : leb (position_from c y from) (8 * length y) ≡ false = lt-leb (position_from c y from) (8 * length y) (omega arith) in
      (rw f, refl)

  module _ (l : p ≤ 8 * length y) {n : ℕ} (w : n ≡ frame_words c) where
    there : leb (position_from c y from) (8 * length y) ≡ true
    there = le-leb (position_from c y from) (8 * length y) (omega arith)

    pub refused_28 : length words < n → Searched (Err FewWords) words
    unfolding searched found_from handed_for
    refused_28 k = (rw (there, lt-leb (frame_words c) (length words) (omega arith)), refl)

    pub handed_out : n ≤ length words → {o : List ℕ} → o ≡ put words 0 (frame_at c y p) → Searched (found_at p n) o
    unfolding searched found_from handed_for
    handed_out k q = (rw (there, le-leb (frame_words c) (length words) (omega arith), e, w), q)

-- ---- the whole answer

module _ (b y : List ℕ) (from : ℕ) (words : List ℕ) where
  abbrev pub Answers : Carded → List ℕ → Type 0
  Answers r o = (r ≡ carded_of b y from words) × (o ≡ handed_of b y from words)

  answers : (r : Carded) {o : List ℕ} → r ≡ carded_of b y from words → o ≡ handed_for (view b) y words r → Answers r o
  unfolding handed_of
  answers r e h = (e, h ∙ ap (handed_for (view b) y words) e)

  pub refused_18 : accepts b ≡ false → Answers (Err NoTable) words
  unfolding carded_of handed_for
  refused_18 h = answers (Err NoTable) (rw h) refl

  module _ (h : accepts b ≡ true) where
    pub refused_27 : parameters (view b) ≡ 0 → Answers (Err NoParameters) words
    unfolding carded_of carded_in handed_for
    refused_27 e = answers (Err NoParameters) (rw (h, eq-eqb (parameters (view b)) 0 e)) refl

    module _ (some : parameters (view b) ≡ 0 → ⊥) where
      pub refused_26 : margins_told b ≡ false → Answers (Err UnknownMargin) words
      unfolding carded_of carded_in handed_for
      refused_26 u = answers (Err UnknownMargin) (rw (h, ne_eqb (parameters (view b)) 0 some, u)) refl

      module _ (told : margins_told b ≡ true) where
        pub refused_38 : longest_stream < length y → Answers (Err LongStream) words
        unfolding carded_of carded_in handed_for
        refused_38 l = answers (Err LongStream) (rw (h, ne_eqb (parameters (view b)) 0 some, told, lt-leb (length y) longest_stream l)) refl

        pub answered : length y ≤ longest_stream → {r : Carded} {o : List ℕ} → r ≡ searched (view b) y from words → o ≡ handed_for (view b) y words r → Answers r o
        unfolding carded_of carded_in
        answered l {r} e q = answers r (rw (h, ne_eqb (parameters (view b)) 0 some, told, le-leb (length y) longest_stream l) e) q

-- two frames that are found alike
pub found_same : {p q n m : ℕ} → found_at p n ≡ found_at q m → (p ≡ q) × (n ≡ m)
found_same {p} {q} {n} {m} e =
    let f : ◌≡◌ {A = Found} (record { position = p; count = n }) (record { position = q; count = m }) = cc in
    (ap (λ (f : Found). f.position) f, ap (λ (f : Found). f.count) f)

-- and none that is refused
pub found_not : {r : Reason} {p n : ℕ} → Err r ≡ found_at p n → ⊥
found_not e = absurd (cc)

-- ---- how many bits a frame has

pub bits_none : (b : List ℕ) → accepts b ≡ false → 0 ≡ bits_of_frame b
unfolding bits_of_frame
bits_none b h = rw h

pub bits_untold : (b : List ℕ) → accepts b ≡ true → margins_told b ≡ false → 0 ≡ bits_of_frame b
unfolding bits_of_frame
bits_untold b h u = rw (h, u)

pub bits_there : (b : List ℕ) → accepts b ≡ true → margins_told b ≡ true → frame_bits (view b) ≡ bits_of_frame b
unfolding bits_of_frame
bits_there b h t = rw (h, t)
