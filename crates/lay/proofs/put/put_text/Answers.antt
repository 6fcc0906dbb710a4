use borrow.Author.Rules.{rules}
use native.Mathlib.Omega.{arith}
use mathlib.Core.Path.{sym, refl, ap, ◌∙◌}
use lib.ListN.{length-set}
use lib.Seq.{take_all}
use Rattle.lay.specs.Bytes.{put}
use Rattle.lay.proofs.Puts.{put_none, put_more}
use Rattle.lay.proofs.put.put_text.Goals as goal

pub loop-i-init : goal.loop-i-init
loop-i-init c = record { room = search rules; bound = search rules; long = refl; done = sym (put_none _ _) }

pub loop-i-preserved : goal.loop-i-preserved
loop-i-preserved c =
    let l = c.loop-i in
    let a = c.args in
    record {
      room = l.invariant.room;
      bound = omega arith;
      long = simp length-set l.invariant.long;
      done = rw l.invariant.done (put_more a.out.now a.t.now a.o l.i (omega arith) l.invariant.room);
    }

pub returns : goal.returns
returns c =
    let l = c.loop-i in
    let a = c.args in
    l.invariant.done ∙ ap (put a.out.now a.o) (take_all l.i a.t.now (omega arith))
