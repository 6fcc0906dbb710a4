-- The first w words stand from `at` on, and nothing else is changed.
use mathlib.Core.Path.{◌≡◌}
use mathlib.Core.List.{List}
use Prim.Native.Nat.{ℕ, ◌+◌, ◌*◌, ◌≤◌}
use lib.ListN.{length, take}
use Rattle.lay.specs.Below.{tab}
use Rattle.lay.specs.Bytes.{put}
use Rattle.stream.specs.Stream.{bits_from}
use Rattle.card.proofs.hand.hand_row.Given as goal

-- the words of the row
abbrev pub row : List ℕ → ℕ → ℕ → ℕ → List ℕ
row y k bits count = tab count (λ w. bits_from y (k + w * bits) bits)

pub record Inv (y : List ℕ) (k bits count : ℕ) (out₀ : List ℕ) (at : ℕ) (out : List ℕ) (place w : ℕ) : Type 0 where
  pub room : at + count ≤ length out₀
  pub bound : w ≤ count
  pub long : length out ≡ length out₀
  pub stands : place ≡ k + w * bits
  pub done : out ≡ put out₀ at (take w (row y k bits count))

abbrev pub invariant-loop-w : goal.invariant-loop-w
invariant-loop-w l = Inv l.stream l.k l.bits l.count l.initial.words l.at l.words l.place l.w
