-- The sieve: rows of bits that every frame with agreeing identifiers has.
use Rattle.std.specs.Prelude.{◌≡◌, Bool, true, false, List, ℕ, ◌+◌, ◌*◌, ◌≤◌, ◌<◌, eqb, length, take}
use Rattle.std.specs.List.{list_all}
use Rattle.stream.specs.Stream.{bits_from}
use Rattle.model.specs.View.{view}
use Rattle.card.specs.declared.rows.Row.{Row}
use Rattle.card.specs.declared.rows.Sieve.{Sieve}
use Rattle.carding.specs.Search.{agrees_at}

-- the rows that count
abbrev pub rows_of : Sieve → List Row
rows_of s = take s.count s.list

-- a row holds in the frame at p
unfoldable pub row_holds : List ℕ → ℕ → Row → Bool
row_holds y p r = eqb (bits_from y (p + r.at) r.width) r.want

-- and all do
abbrev pub sifts_at : List ℕ → ℕ → List Row → Bool
sifts_at y p rows = list_all (row_holds y p) rows

-- r keeps back no more than s and the row do
pub record With (s : List Row) (row : Row) (r : List Row) : Type 0 where
  pub sifts : (y : List ℕ) (p : ℕ) → sifts_at y p s ≡ true → row_holds y p row ≡ true → sifts_at y p r ≡ true

-- r lies at or behind p, and the sieve keeps back every position between
pub record NextSifted (y : List ℕ) (p : ℕ) (s : List Row) (r : ℕ) : Type 0 where
  pub after : p ≤ r
  pub kept_back : (k : ℕ) → p ≤ k → k < r → sifts_at y k s ≡ false
  pub near : r ≤ p + 8 * length y

-- no frame of the table b whose identifiers agree is kept back
pub record SieveOf (b : List ℕ) (s : List Row) : Type 0 where
  pub needed : (y : List ℕ) (p : ℕ) → agrees_at (view b) y p ≡ true → sifts_at y p s ≡ true
