-- What the functions promise of a stream's bits.
use Rattle.std.specs.Prelude.{◌≡◌, Bool, true, List, ℕ, ◌+◌, ◌*◌, ◌≤◌, ◌<◌, length, Option, Some, None}
use Rattle.bits.specs.Word.{field}
use Rattle.stream.specs.Stream.{bits_from}

-- r holds the bits of the m bytes from byte a on
pub record Window (m : ℕ) (y : List ℕ) (a r : ℕ) : Type 0 where
  pub reads : (s n : ℕ) → s + n ≤ 8 * m → field r s n ≡ bits_from y (8 * a + s) n

-- r lies at or behind k, and the n bits from no position between are `want`
pub record Skips (y : List ℕ) (k n want r : ℕ) : Type 0 where
  pub after : k ≤ r
  pub unlike : (j : ℕ) → k ≤ j → j < r → bits_from y j n ≡ want → ⊥
  pub near : r ≤ k + 8 * length y

-- r says that from none of the eight lowest bits of v on the n bits are `want`
pub record EightUnlike (v n want : ℕ) (r : Bool) : Type 0 where
  pub unlike : r ≡ true → (j : ℕ) → j < 8 → field v j n ≡ want → ⊥

-- from none of its bits from s to before m on are they
abbrev pub UnlikeTo : ℕ → ℕ → ℕ → ℕ → ℕ → Type 0
UnlikeTo v s n want m = (j : ℕ) → s ≤ j → j < m → field v j n ≡ want → ⊥

-- r is the first of its bits from s on from which on they may be; none is below 8 where there is no r
abbrev pub FirstLike : ℕ → ℕ → ℕ → ℕ → Option ℕ → Type 0
FirstLike v s n want None = UnlikeTo v s n want 8
FirstLike v s n want (Some r) = (s ≤ r) × (r < 8) × UnlikeTo v s n want r

-- position k stands at bit r of byte a, or before it and r is 0
pub record BitIn (a k r : ℕ) : Type 0 where
  pub behind : k ≤ 8 * a + r
  pub few : r < 8
  pub there : 0 < r → 8 * a + r ≡ k
