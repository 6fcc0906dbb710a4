use mathlib.Core.Path.{refl}
use Prim.Native.Nat.{◌/◌, ◌<◌}
use lib.ListN.{length}
use native.Mathlib.Omega.{arith}
use Rattle.listed.proofs.WordLaws.{words_start, words_next, words_end, pair_word}
use Rattle.listed.proofs.listing.put_words.Goals as goal

pub loop-i-init : goal.loop-i-init
loop-i-init c = words_start _ _

pub loop-i-preserved : goal.loop-i-preserved
loop-i-preserved c =
    let m : c.loop-i.i < length c.args.bytes.now / 2 = omega (arith, c.loop-i-test.true, c.as_chunks.ensures.front_len) in
    words_next _ _ _ _ c.loop-i.invariant c.requires _ _ m (pair_word _ _ _ _ _ c.as_chunks.ensures.front m c.from_le_bytes.ensures) refl

pub returns : goal.returns
returns c = words_end _ _ _ _ c.loop-i.invariant c.requires (omega (arith, c.loop-i-test.false, c.as_chunks.ensures.front_len))
