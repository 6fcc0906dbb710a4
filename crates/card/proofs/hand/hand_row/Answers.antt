use mathlib.Core.Path.{refl, sym, ap, ◌∙◌}
use Prim.Native.Nat.{ℕ, ◌+◌, ◌*◌}
use native.Mathlib.Nat.{zero-mul, add-mul}
use native.Mathlib.Omega.{arith}
use lib.ListN.{length-set}
use lib.Seq.{take_all}
use Rattle.lay.specs.Bytes.{put}
use Rattle.lay.proofs.Below.{length_tab, get_or_tab}
use Rattle.lay.proofs.Puts.{put_none, put_more}
use Rattle.stream.specs.Stream.{bits_from}
use Rattle.card.proofs.hand.hand_row.Invariants.{row}
use Rattle.card.proofs.hand.hand_row.Goals as goal

pub loop-w-init : goal.loop-w-init
loop-w-init c =
    record {
      room = c.requires.count_in_bounds;
      bound = omega arith;
      long = refl;
      stands = omega (arith, zero-mul c.args.bits);
      done = sym (put_none _ _);
    }

pub loop-w-preserved : goal.loop-w-preserved
loop-w-preserved c =
    let v = c.loop-w.invariant in
    let l = c.loop-w-test.true in
    let a = c.args in
    let y = a.stream.now in
    let w = c.loop-w.w in
    let all = row y a.k a.bits a.count in
    let long = length_tab a.count (λ w. bits_from y (a.k + w * a.bits) a.bits) in
    let is = c.bits_at.ensures.0 ∙ ap (λ (m : ℕ). bits_from y m a.bits) v.stands ∙ sym (get_or_tab a.count (λ w. bits_from y (a.k + w * a.bits) a.bits) 0 w l) in
    record {
      room = v.room;
      bound = omega arith;
      long = simp length-set v.long;
      stands = omega (arith, v.stands, add-mul w 1 a.bits);
      done = rw (v.done, is) (put_more a.words.now all a.at w (omega (arith, long)) (omega (arith, long, v.room)));
    }

pub returns : goal.returns
returns c =
    let v = c.loop-w.invariant in
    let a = c.args in
    let y = a.stream.now in
    let all = row y a.k a.bits a.count in
    let long = length_tab a.count (λ w. bits_from y (a.k + w * a.bits) a.bits) in
    v.done ∙ ap (put a.words.now a.at) (take_all c.loop-w.w all (omega (arith, long, c.loop-w-test.false)))
