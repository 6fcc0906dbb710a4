-- A frame that was found lies whole in the stream, at or behind the bit where the search began, and has some bits: whoever goes
-- on behind it comes to an end. Assumes nothing.
use mathlib.Core.Path.{◌≡◌, refl, sym}
use mathlib.Core.Bool.{Bool, true, false, cond}
use mathlib.Core.List.{List}
use Prim.Native.Nat.{ℕ, ◌+◌, ◌*◌, ◌≤◌}
use native.Mathlib.Nat.{mul-le-mul}
use native.Mathlib.Omega.{arith}
use borrow.Author.Tests.{leb-true}
use lib.Dec.{eqb, leb}
use lib.ListN.{length}
use Rattle.std.specs.Prelude.{Err}
use Rattle.lay.proofs.Below.{sum_up}
use Rattle.model.specs.Content.{Content, Subframe, subframe, subframes, parameters}
use Rattle.model.specs.Frame.{frame_words}
use Rattle.model.specs.Limits.{Limits}
use Rattle.model.specs.Meaning.{SubframeLaw}
use Rattle.model.specs.View.{view}
use Rattle.model.specs.Accepts.{accepts}
use Rattle.model.proofs.Views.{subframes_view, subframe_view}
use Rattle.rules.specs.Ruled.{Ruled}
use Rattle.table.proofs.Accepting.{accepted_ruled}
use Rattle.table.specs.declared.reason.Reason.TheVariants.{NoTable, UnknownMargin, NoParameters, LongStream, NoFrame, FewWords}
use Rattle.carding.specs.Layout.{subframe_bits, bits_before, frame_bits}
use Rattle.carding.specs.Search.{position_from, found_from}
use Rattle.carding.specs.Answer.{searched, margins_told, carded_in, carded_of, longest_stream, bits_of_frame, found_at}
use Rattle.carding.proofs.Answers.{whole_inside, found_first}
use Rattle.carding.proofs.CardCases.{bits_there, found_same, found_not}

-- ---- a frame has some bits

subframe_some : {m : Limits} (s : Subframe) → SubframeLaw m s → 1 ≤ subframe_bits s
unfolding subframe_bits
subframe_some s h = let k : 1 * 1 ≤ s.words * s.bits = mul-le-mul h.some_words h.some_bits in omega (arith, k)

module _ (b : List ℕ) (r : Ruled b) where
  first_some : 1 ≤ subframe_bits (subframe (view b) 0)
  first_some = rw (subframe_view b 0 r.laid.head.header.some) (subframe_some _ (r.subframes.each 0 r.laid.head.header.some))

  pub bits_some : 1 ≤ frame_bits (view b)
  unfolding bits_before
  bits_some =
      let k = sum_up (subframes (view b)) (λ k. subframe_bits (subframe (view b) k)) 0 (omega (arith, subframes_view b, r.laid.head.header.some)) in
      omega (arith, k, first_some)

-- ---- what an answered frame says

pub record Stands (b y : List ℕ) (from : ℕ) (words : List ℕ) (p n : ℕ) : Type 0 where
  pub accepted : accepts b ≡ true
  pub told : margins_told b ≡ true
  pub short : length y ≤ longest_stream
  pub after : from ≤ p
  pub whole : p + bits_of_frame b ≤ 8 * length y
  pub some : 1 ≤ bits_of_frame b
  pub counted : n ≡ frame_words (view b)
  pub room : n ≤ length words

module _ (b y : List ℕ) (from : ℕ) (words : List ℕ) (p n : ℕ) where
  abbrev c : Content
  c = view b

  stands : accepts b ≡ true → margins_told b ≡ true → length y ≤ longest_stream → found_from c y from ≡ true → frame_words c ≤ length words → found_at (position_from c y from) (frame_words c) ≡ found_at p n → Stands b y from words p n
  stands a t s f w e =
      let q = found_first c y from f in
      let same = found_same e in
      let bits = bits_there b a t in
      record {
        accepted = a;
        told = t;
        short = s;
        after = omega (arith, q.after, same.0);
        whole = omega (arith, whole_inside c y (position_from c y from) q.whole, same.0, bits);
        some = omega (arith, bits_some b (accepted_ruled b a), bits);
        counted = sym same.1;
        room = omega (arith, w, same.1);
      }

  pub found_stands : carded_of b y from words ≡ found_at p n → Stands b y from words p n
  unfolding carded_of carded_in searched
  found_stands e = go (accepts b) (eqb (parameters c) 0) (margins_told b) (leb (length y) longest_stream) (found_from c y from) (leb (frame_words c) (length words)) refl refl refl refl refl e
    where
      go : (a z t l f w : Bool) → accepts b ≡ a → margins_told b ≡ t → leb (length y) longest_stream ≡ l → found_from c y from ≡ f → leb (frame_words c) (length words) ≡ w
          → cond a (cond z (Err NoParameters) (cond t (cond l (cond f (cond w (found_at (position_from c y from) (frame_words c)) (Err FewWords)) (Err NoFrame)) (Err LongStream)) (Err UnknownMargin))) (Err NoTable) ≡ found_at p n → Stands b y from words p n
      go true false true true true true a t l f w e = stands a t (leb-true _ _ l) f (leb-true _ _ w) e
      go true false true true true false a t l f w e = absurd (found_not e)
      go true false true true false w₀ a t l f w e = absurd (found_not e)
      go true false true false f₀ w₀ a t l f w e = absurd (found_not e)
      go true false false l₀ f₀ w₀ a t l f w e = absurd (found_not e)
      go true true t₀ l₀ f₀ w₀ a t l f w e = absurd (found_not e)
      go false z₀ t₀ l₀ f₀ w₀ a t l f w e = absurd (found_not e)
