-- The words before w are below two to the bits.
use mathlib.Core.Path.{◌≡◌}
use mathlib.Core.Bool.{true}
use mathlib.Core.List.{List}
use Prim.Native.Nat.{ℕ, ◌*◌, ◌+◌, ◌^◌, ◌≤◌, ◌<◌}
use lib.ListN.{length}
use Rattle.lay.specs.Below.{all}
use Rattle.model.specs.Frame.{frame_words}
use Rattle.model.specs.Forms.{sheet_limits}
use Rattle.model.specs.Stored.{subframes_in, bits_in, words_in}
use Rattle.model.specs.View.{view}
use Rattle.model.proofs.Frames.{word_at}
use Rattle.framing.proofs.Fitness.{word_fits}
use Rattle.frame.proofs.fit.subframe_fits.Given as goal

pub record Passed (b f : List ℕ) (i count limit first w : ℕ) : Type 0 where
  pub here : i < subframes_in b
  pub long : length f ≡ frame_words (view b)
  pub counted : count ≡ words_in b i
  pub few : count ≤ sheet_limits.words
  pub limits : limit ≡ 2 ^ bits_in b i
  pub low : first ≤ sheet_limits.words * sheet_limits.subframes
  pub place : (k : ℕ) → first + k ≡ word_at (view b) i k
  pub within : w ≤ words_in b i
  pub done : all w (word_fits b f i) ≡ true

abbrev pub invariant-loop-w : goal.invariant-loop-w
invariant-loop-w l = Passed l.f.based.now.ruled.declared.table.bytes.now l.f.words.now l.i l.count l.limit l.first l.w
