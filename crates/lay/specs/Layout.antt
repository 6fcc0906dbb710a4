-- The layout of a table as a value: the header's slots and each part's. Parts stand one after the other behind the header,
-- entries of a part one after the other.
use Rattle.std.specs.Prelude.{ℕ, ◌+◌, ◌*◌, cond, List, [], ◌++◌, length, get_or}
use Rattle.lay.specs.Below.{sum, flat}
use Rattle.lay.specs.Slots.{Slot, span, has, entry_bytes, item_at}

pub record Layout : Type 0 where
  pub header : List Slot
  pub parts : List (List Slot)

-- two of the header's items for each part: how many entries it has, and where it begins. Items 0 to 4 are left free
abbrev pub count : ℕ → ℕ
count p = 5 + 2 * p

abbrev pub offset : ℕ → ℕ
offset p = 6 + 2 * p

abbrev pub slots_of : Layout → ℕ → List Slot
slots_of L p = get_or L.parts p []

abbrev pub many_parts : Layout → ℕ
many_parts L = length L.parts

-- where part p begins, with n q entries in part q
unfoldable pub start_by : Layout → (ℕ → ℕ) → ℕ → ℕ
start_by L n p = span L.header + sum p (λ q. span (slots_of L q) * n q)

-- where the header says that it begins; a form that lacks the part says nothing, which is read as 0
unfoldable pub offset_by : Layout → (ℕ → ℕ) → ℕ → ℕ
offset_by L n p = cond (has L.header (offset p)) (start_by L n p) 0

-- where the parts end: what is not in entries stands from there on
abbrev pub end_by : Layout → (ℕ → ℕ) → ℕ
end_by L n = start_by L n (many_parts L)

-- where entry i of part p stands
unfoldable pub entry_by : Layout → (ℕ → ℕ) → ℕ → ℕ → ℕ
entry_by L n p i = start_by L n p + span (slots_of L p) * i

-- a table in numbers: the header's items, and item k of entry i of part p
pub record Numbers : Type 0 where
  pub head : ℕ → ℕ
  pub item : ℕ → ℕ → ℕ → ℕ

abbrev pub counts : Numbers → ℕ → ℕ
counts N p = N.head (count p)

unfoldable pub row_bytes : Layout → Numbers → ℕ → List ℕ
row_bytes L N p = flat (counts N p) (λ i. entry_bytes (slots_of L p) (N.item p i))

-- numbers in bytes
unfoldable pub laid : Layout → Numbers → List ℕ
laid L N = entry_bytes L.header N.head ++ flat (many_parts L) (row_bytes L N)

-- and the numbers that bytes say
unfoldable pub head_in : Layout → List ℕ → ℕ → ℕ
head_in L b k = item_at L.header b 0 k

unfoldable pub item_in : Layout → List ℕ → ℕ → ℕ → ℕ → ℕ
item_in L b p i k = item_at (slots_of L p) b (entry_by L (λ q. head_in L b (count q)) p i) k

abbrev pub numbers_in : Layout → List ℕ → Numbers
numbers_in L b = record { head = head_in L b; item = item_in L b }
