-- "Find the first bit position at which a whole frame fits and every record identifier agrees".
use Rattle.std.specs.Prelude.{◌≡◌, Bool, true, ◌&&◌, ◌||◌, not, List, ℕ, ◌+◌, ◌*◌, ◌≤◌, ◌<◌, eqb, leb, length}
use Rattle.lay.specs.Below.{find}
use Rattle.model.specs.Content.{Content, parameter, sample}
use Rattle.model.specs.Samples.{holds}
use Rattle.framing.specs.Comparing.{compared_in, compared_number}
use Rattle.carding.specs.Layout.{frame_bits, frame_at}

-- "a whole frame fits", the last trailing bit too
unfoldable pub whole_at : Content → List ℕ → ℕ → Bool
whole_at c y p = leb (p + frame_bits c) (8 * length y)

-- "every record identifier agrees": comparing the frame there passes
unfoldable pub agrees_at : Content → List ℕ → ℕ → Bool
agrees_at c y p = eqb (compared_number (compared_in c (frame_at c y p))) 0

-- parameter i, if it is an identifier, is its value in the frame: comparing passes exactly where all are (proofs/Agreeing.antt)
unfoldable pub reads_at : Content → List ℕ → ℕ → Bool
reads_at c f i = not (parameter c i).identifier || holds c.subframes f (sample (parameter c i) 0) (parameter c i).value

-- such a position, at or after `from`
abbrev pub sought_at : Content → List ℕ → ℕ → ℕ → Bool
sought_at c y from p = leb from p && (whole_at c y p && agrees_at c y p)

-- p is "the first bit position" of them
pub record FirstFrame (c : Content) (y : List ℕ) (from p : ℕ) : Type 0 where
  pub after : from ≤ p
  pub whole : whole_at c y p ≡ true
  pub agrees : agrees_at c y p ≡ true
  pub none_earlier : (k : ℕ) → from ≤ k → k < p → whole_at c y k ≡ true → agrees_at c y k ≡ true → ⊥

-- the first one, or one more than the stream has bits
unfoldable pub position_from : Content → List ℕ → ℕ → ℕ
position_from c y from = find (8 * length y + 1) (sought_at c y from)

-- there is one
unfoldable pub found_from : Content → List ℕ → ℕ → Bool
found_from c y from = leb (position_from c y from) (8 * length y)
