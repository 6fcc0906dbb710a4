-- The invariant: the first i bytes of the text stand at o, and nothing else is changed.
use mathlib.Core.Path.{◌≡◌}
use Prim.Native.Nat.{ℕ, ◌+◌, ◌≤◌}
use lib.ListN.{length, take}
use mathlib.Core.List.{List}
use Rattle.lay.specs.Bytes.{put}
use Rattle.lay.proofs.put.put_text.Given as goal

pub record Inv (out₀ : List ℕ) (o : ℕ) (t out : List ℕ) (i : ℕ) : Type 0 where
  pub room : o + length t ≤ length out₀
  pub bound : i ≤ length t
  pub long : length out ≡ length out₀
  pub done : out ≡ put out₀ o (take i t)

abbrev pub invariant-loop-i : goal.invariant-loop-i
invariant-loop-i l = Inv l.initial.out l.o l.t l.out l.i
