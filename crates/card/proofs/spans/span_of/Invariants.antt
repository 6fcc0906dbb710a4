-- Before subframe i stand the bits of the subframes passed.
use mathlib.Core.Path.{◌≡◌}
use mathlib.Core.List.{List}
use Prim.Native.Nat.{ℕ, ◌*◌, ◌≤◌, ◌<◌}
use lib.ListN.{length, get_or}
use Rattle.model.specs.Forms.{sheet_limits}
use Rattle.model.specs.Stored.{subframes_in}
use Rattle.model.specs.View.{view}
use Rattle.carding.specs.Layout.{bits_before, words_begin}
use Rattle.card.specs.Promise.{most_subframe_bits, most_frame_bits}
use Rattle.card.proofs.spans.span_of.Given as goal

pub record Passed (b : List ℕ) (count : ℕ) (list : List ℕ) (sum i : ℕ) : Type 0 where
  pub counted : count ≡ subframes_in b
  pub within : i ≤ subframes_in b
  pub long : length list ≡ sheet_limits.subframes
  pub sums : sum ≡ bits_before (view b) i
  pub small : sum ≤ most_subframe_bits * i
  pub each : (k : ℕ) → k < i → get_or list k 0 ≡ words_begin (view b) k
  pub low : (k : ℕ) → k < i → get_or list k 0 ≤ most_frame_bits

abbrev pub invariant-loop-i : goal.invariant-loop-i
invariant-loop-i l = Passed l.d.table.bytes.now l.d.table.opened.counts.subframes l.begins l.sum l.i
