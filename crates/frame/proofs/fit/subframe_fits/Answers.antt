use mathlib.Core.Path.{◌≡◌, refl, sym, ap, ◌∙◌}
use mathlib.Core.Bool.{true, false}
use mathlib.Core.List.{List}
use Prim.Native.Nat.{ℕ, ◌+◌, ◌^◌, ◌≤◌, ◌<◌}
use native.Mathlib.Omega.{arith}
use borrow.Author.Tests.{lt-ltb, le-ltb}
use lib.ListN.{length, get_or}
use Rattle.lay.proofs.Tests.{refuse, differ}
use Rattle.lay.proofs.Below.{all_more, all_below}
use Rattle.model.specs.Stored.{bits_in, words_in}
use Rattle.model.specs.View.{subframe_at, view}
use Rattle.model.proofs.Frames.{word_at}
use Rattle.framing.proofs.Fitness.{word_fits, word_inside, fits_view}
use Rattle.frame.proofs.fit.subframe_fits.Invariants.{Passed}
use Rattle.frame.proofs.fit.subframe_fits.Goals as goal

module _ {b f : List ℕ} {i count limit first w : ℕ} (v : Passed b f i count limit first w) (l : w < count) where
  -- the next word lies in the frame
  inside : first + w < length f
  inside = omega (arith, v.place w, word_inside b i w v.here (omega arith))

  -- it is read where the frame has it
  read : get_or f (first + w) 0 ≡ get_or f (word_at (view b) i w) 0
  read = ap (λ (k : ℕ). get_or f k 0) (v.place w)

  high : limit ≤ get_or f (first + w) 0 → word_fits b f i w ≡ false
  high h = le-ltb (get_or f (word_at (view b) i w) 0) (2 ^ bits_in b i) (omega (arith, read))

  fits : get_or f (first + w) 0 < limit → word_fits b f i w ≡ true
  fits h = lt-ltb (get_or f (word_at (view b) i w) 0) (2 ^ bits_in b i) (omega (arith, read))

pub overflow_cast-e : goal.overflow_cast-e
unfolding subframe_at
overflow_cast-e c =
    let f = (c.args.f.now.based.now.ruled.ruled.subframes.each c.args.i c.requires.i_bound).few_bits in
    let w = c.args.f.now.based.now.ruled.ruled.subframes.within.bits in
    omega (arith, f, w, c.subframe_at-e.ensures)

pub power_of_two-limit-requires : goal.power_of_two-limit-requires
unfolding subframe_at
power_of_two-limit-requires c =
    let f = (c.args.f.now.based.now.ruled.ruled.subframes.each c.args.i c.requires.i_bound).few_bits in
    let w = c.args.f.now.based.now.ruled.ruled.subframes.within.bits in
    omega (arith, f, w, c.subframe_at-e.ensures)

pub loop-w-init : goal.loop-w-init
unfolding subframe_at
loop-w-init c =
    let i = c.args.i in
    let l = c.requires.i_bound in
    let f = (c.args.f.now.based.now.ruled.ruled.subframes.each i l).few_words in
    let w = c.args.f.now.based.now.ruled.ruled.subframes.within.words in
    let e = c.subframe_at-e.ensures in
    record {
      here = l;
      long = c.args.f.now.words_len;
      counted = e.words_is;
      few = omega (arith, f, w, e);
      limits = c.power_of_two-limit.ensures ∙ ap (λ (n : ℕ). 2 ^ n) e.bits_is;
      low = c.args.f.now.based.now.bases_of.small i l;
      place = λ k. ap (λ (n : ℕ). n + k) (c.args.f.now.based.now.bases_of.each i l);
      within = omega arith;
      done = refl;
    }

pub overflow_add-first : goal.overflow_add-first
overflow_add-first c = omega (arith, c.loop-w.invariant, c.loop-w-test.true)

pub offset_bounds-f-first : goal.offset_bounds-f-first
offset_bounds-f-first c = omega (arith, c.loop-w.invariant, c.loop-w-test.true)

pub bounds-f-first : goal.bounds-f-first
bounds-f-first c = inside c.loop-w.invariant c.loop-w-test.true

pub returns-then-limit-f : goal.returns-then-limit-f
returns-then-limit-f c =
    let b = c.args.f.now.based.now.ruled.declared.table.bytes.now in
    let f = c.args.f.now.words.now in
    let v = c.loop-w.invariant in
    let l = c.loop-w-test.true in
    refuse _
    (λ h.
    differ (high v l c.if-limit-f.true)
    (all_below (words_in b c.args.i) (word_fits b f c.args.i) (sym (fits_view b f c.args.i v.here) ∙ h) c.loop-w.w (omega (arith, v, l))))

pub loop-w-preserved : goal.loop-w-preserved
loop-w-preserved c =
    let b = c.args.f.now.based.now.ruled.declared.table.bytes.now in
    let f = c.args.f.now.words.now in
    let v = c.loop-w.invariant in
    let l = c.loop-w-test.true in
    record {
      here = v.here;
      long = v.long;
      counted = v.counted;
      few = v.few;
      limits = v.limits;
      low = v.low;
      place = v.place;
      within = omega (arith, v, l);
      done = all_more c.loop-w.w (word_fits b f c.args.i) v.done (fits v l c.if-limit-f.false);
    }

pub returns : goal.returns
returns c =
    let b = c.args.f.now.based.now.ruled.declared.table.bytes.now in
    let v = c.loop-w.invariant in
    let full : c.loop-w.w ≡ words_in b c.args.i = omega (arith, v, c.loop-w-test.false) in
    sym (fits_view b c.args.f.now.words.now c.args.i v.here ∙ (rw full at v.done))
