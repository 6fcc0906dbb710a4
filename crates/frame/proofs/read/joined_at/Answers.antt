use mathlib.Core.Path.{◌≡◌, refl, sym, ap, ◌∙◌, subst}
use mathlib.Core.Bool.{not}
use mathlib.Core.List.{List, [], ◌∷◌}
use Prim.Native.Nat.{ℕ, ◌+◌, ◌*◌, ◌^◌, ◌≤◌, ◌<◌}
use native.Mathlib.Nat.{lt_of_lt_of_le}
use native.Mathlib.Omega.{arith}
use lib.Dec.{lit≤, eqb}
use lib.ListN.{length}
use Rattle.sample.specs.declared.component.Component.{Component as Piece}
use Rattle.sample.specs.Component.{bits_of, Fits}
use Rattle.sample.specs.Joining.{part_of, join, width}
use Rattle.lay.proofs.Below.{sum_more}
use Rattle.sample.proofs.Sources.{join_lt}
use Rattle.sample.proofs.Walks.{Joining, joining_starts, joining_raw, joining_width, joining_fits, joining_narrow, joining_step, joining_lt}
use Rattle.model.specs.Content.{component}
use Rattle.model.specs.Samples.{piece, width_of, overlapped}
use Rattle.model.specs.Forms.{sheet_limits}
use Rattle.model.specs.Stored.{component_count_in}
use Rattle.model.specs.View.{component_at, sample_at}
use Rattle.model.specs.Meaning.{ComponentLaw}
use Rattle.rules.specs.Ruled.{subframes_of}
use Rattle.rules.proofs.Overlaps.{overlap_read}
use Rattle.rules.proofs.Samplings.{stored, stands, left, left_next, left_none}
use Rattle.framing.proofs.Listed.{within}
use Rattle.frame.proofs.Laps.{over_bits, over_laps}
use Rattle.frame.proofs.read.joined_at.Invariants.{all_pieces, Passed}
use Rattle.frame.proofs.read.joined_at.Goals as goal

module _ {b f : List ℕ} {j first count raw wide over k : ℕ} (v : Passed b f j first count raw wide over k) where
  -- the walk ends with nothing left
  ended : count ≤ k → Joining f (all_pieces b j) [] raw wide
  ended l = subst (λ (r : List Piece). Joining f (all_pieces b j) r raw wide) (left_none b j k (omega (arith, v))) v.done

  -- and what was overlapped is all that is
  lapped : count ≤ k → not (eqb over 0) ≡ overlapped (sample_at b j)
  lapped l = let all : k ≡ component_count_in b j = omega (arith, v) in over_laps b j (v.overs ∙ ap (over_bits (sample_at b j)) all)

  module _ (l : k < count) where
    -- what is left begins with the component that is read
    next : Joining f (all_pieces b j) (stands b j k ∷ left b j (k + 1)) raw wide
    next = subst (λ (r : List Piece). Joining f (all_pieces b j) r raw wide) (left_next b j k (omega (arith, v))) v.done

    room : wide + bits_of (stands b j k) ≤ sheet_limits.width
    room = omega (arith, v, joining_narrow _ _ _ _ next)

    module _ {c : Piece} (e : c ≡ piece (subframes_of b) (component_at b (first + k))) where
      is : c ≡ stands b j k
      is = e ∙ ap (λ (n : ℕ). piece (subframes_of b) (component_at b (n + k))) v.firsts

      fits : Fits (length f) c
      fits = subst (λ (p : Piece). Fits (length f) p) (sym is) (joining_fits _ _ _ _ next)

      bits : {n : ℕ} → n ≡ bits_of c → n ≡ bits_of (stands b j k)
      bits q = q ∙ ap (λ (p : Piece). bits_of p) is

      module _ {p r : ℕ} (ep : p ≡ part_of f c) (er : r ≡ p * 2 ^ wide) where
        -- the sum so far with the part just read
        summed : raw + r < 2 ^ 32
        summed = joining_lt _ _ _ _ next (ep ∙ ap (part_of f) is) er 32 v.narrow

        step : {n : ℕ} → n ≡ bits_of c → Joining f (all_pieces b j) (left b j (k + 1)) (raw + r) (wide + n)
        step q = joining_step _ _ _ _ next (ep ∙ ap (part_of f) is) er (bits q)

pub sample_at-s-requires : goal.sample_at-s-requires
sample_at-s-requires c =
    record { j_bound = c.requires.sample_here.here }

pub loop-k-init : goal.loop-k-init
unfolding width_of
loop-k-init c =
    let b = c.args.f.now.based.now.ruled.declared.table.bytes.now in
    let e = c.sample_at-s.ensures in
    record {
      firsts = e.first_is;
      counted = e.count_is;
      inside = omega arith;
      narrow = omega (arith, c.requires.sample_law.narrow, c.args.f.now.based.now.ruled.ruled.subframes.within.width);
      done = joining_starts _ _ (within b c.args.f.now.words.now c.args.j c.args.f.now.based.now.ruled.ruled c.requires.sample_law c.args.f.now.words_len);
      overs = refl;
      few = e.count_below;
      small = omega arith;
    }

pub piece_at-c-requires : goal.piece_at-c-requires
piece_at-c-requires c =
    let b = c.args.f.now.based.now.ruled.declared.table.bytes.now in
    let v = c.loop-k.invariant in
    let l = c.loop-k-test.true in
    let k = c.loop-k.k in
    let r = stored b c.args.j c.args.f.now.based.now.ruled.ruled.subframes.within c.requires.sample_law in
    let law = subst (λ (n : ℕ). ComponentLaw (subframes_of b) (component_at b (n + k))) (sym v.firsts) (r.each k (omega (arith, v, l))) in
    record { k_bound = omega (arith, v, l, c.requires.sample_here); bases_of = c.args.f.now.based.now.bases_of; component_law = law }

pub part-requires : goal.part-requires
part-requires c = fits c.loop-k.invariant c.loop-k-test.true c.piece_at-c.ensures

pub raised-raw-requires : goal.raised-raw-requires
raised-raw-requires c =
    let v = c.loop-k.invariant in
    let l = c.loop-k-test.true in
    (omega (arith, room v l), omega (arith, summed v l c.piece_at-c.ensures c.part.ensures refl))

pub overflow_add-raw : goal.overflow_add-raw
overflow_add-raw c =
    let h = summed c.loop-k.invariant c.loop-k-test.true c.piece_at-c.ensures c.part.ensures c.raised-raw.ensures in
    record { fits = lt_of_lt_of_le h (lit≤ tt) }

pub bits_of-width-requires : goal.bits_of-width-requires
bits_of-width-requires c = (fits c.loop-k.invariant c.loop-k-test.true c.piece_at-c.ensures).shaped

pub overflow_add-width : goal.overflow_add-width
overflow_add-width c =
    let v = c.loop-k.invariant in
    let l = c.loop-k-test.true in
    omega (arith, room v l, bits v l c.piece_at-c.ensures c.bits_of-width.ensures.0)

pub component_at-e-requires : goal.component_at-e-requires
component_at-e-requires c =
    let v = c.loop-k.invariant in
    record { k_bound = omega (arith, v, c.loop-k-test.true, c.requires.sample_here) }

pub overflow_add-over : goal.overflow_add-over
overflow_add-over c = omega (arith, c.loop-k.invariant, c.loop-k-test.true, c.component_at-e.ensures.overlap_below)

pub loop-k-preserved : goal.loop-k-preserved
loop-k-preserved c =
    let v = c.loop-k.invariant in
    let l = c.loop-k-test.true in
    let e = c.component_at-e.ensures in
    let x = overlap_read c.args.f.now.based.now.ruled.declared.table.bytes.now c.args.j c.loop-k.k _ v.firsts (omega (arith, v, l)) e in
    record {
      firsts = v.firsts;
      counted = v.counted;
      inside = omega (arith, v, l);
      narrow = v.narrow;
      done = step v l c.piece_at-c.ensures c.part.ensures c.raised-raw.ensures c.bits_of-width.ensures.0;
      overs = omega (arith, v.overs, x, sum_more c.loop-k.k (λ i. (component (sample_at c.args.f.now.based.now.ruled.declared.table.bytes.now c.args.j) i).overlap));
      few = v.few;
      small = omega (arith, v, e.overlap_below);
    }

pub returns : goal.returns
returns c =
    let f = c.args.f.now.words.now in
    let cs = all_pieces c.args.f.now.based.now.ruled.declared.table.bytes.now c.args.j in
    let e = ended c.loop-k.invariant c.loop-k-test.false in
    let raw_is : c.loop-k.raw ≡ join f cs = joining_raw _ _ e in
    let width_is : c.loop-k.width ≡ width cs = joining_width _ _ e in record {
      joins = record {
        raw_is = raw_is;
        width_is = width_is;
        below = rw (raw_is, width_is) (join_lt f cs);
      };
      laps_value = lapped c.loop-k.invariant c.loop-k-test.false;
    }
