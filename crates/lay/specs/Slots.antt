-- The layout of an entry as a list of slots: which item stands next, and in how many bytes. An item that has no slot takes
-- no byte, is read as 0, and fits where it is 0: so an older form's entry is the newest's with slots left out.
use Rattle.std.specs.Prelude.{ℕ, ◌+◌, ◌<◌, Bool, true, false, ◌&&◌, ◌||◌, not, cond, List, [], ◌∷◌, eqb, ltb, length, get_or}
use Rattle.lay.specs.Below.{all}
use Rattle.lay.specs.Bytes.{num_at, room}
use Rattle.lay.specs.Fields.{Field, fld, field_bytes}

pub record Slot : Type 0 where
  pub item : ℕ
  pub wide : ℕ

abbrev pub slot : ℕ → ℕ → Slot
slot k w = record { item = k; wide = w }

-- how many bytes the slots take
abbrev pub span : List Slot → ℕ
span [] = 0
span (s ∷ ss) = s.wide + span ss

-- whether item k has a slot, how wide it is, and how many bytes stand before it
abbrev pub has : List Slot → ℕ → Bool
has [] k = false
has (s ∷ ss) k = cond (eqb s.item k) true (has ss k)

abbrev pub wide_of : List Slot → ℕ → ℕ
wide_of [] k = 0
wide_of (s ∷ ss) k = cond (eqb s.item k) s.wide (wide_of ss k)

abbrev pub offset_of : List Slot → ℕ → ℕ
offset_of [] k = 0
offset_of (s ∷ ss) k = cond (eqb s.item k) 0 (s.wide + offset_of ss k)

-- no item has two slots
abbrev pub once : List Slot → Bool
once [] = true
once (s ∷ ss) = not (has ss s.item) && once ss

-- and every item is below n
abbrev pub tidy : ℕ → List Slot → Bool
tidy n [] = true
tidy n (s ∷ ss) = ltb s.item n && (not (has ss s.item) && tidy n ss)

-- the widths that the code reads as a number of 32 bits, and as one of 64
unfoldable pub plain : ℕ → Bool
plain w = eqb w 0 || (eqb w 1 || (eqb w 2 || eqb w 4))

unfoldable pub long : ℕ → Bool
long w = eqb w 8 || plain w

abbrev pub all_plain : List Slot → Bool
all_plain [] = true
all_plain (s ∷ ss) = plain s.wide && all_plain ss

-- the fields of an entry whose item k is v k
abbrev pub fields_by : List Slot → (ℕ → ℕ) → List Field
fields_by [] v = []
fields_by (s ∷ ss) v = fld s.wide (v s.item) ∷ fields_by ss v

unfoldable pub entry_bytes : List Slot → (ℕ → ℕ) → List ℕ
entry_bytes ss v = field_bytes (fields_by ss v)

-- item k of the entry at o
unfoldable pub item_at : List Slot → List ℕ → ℕ → ℕ → ℕ
item_at ss b o k = num_at (wide_of ss k) b (o + offset_of ss k)

-- every item fits its slot
abbrev pub Fits : List Slot → (ℕ → ℕ) → Type 0
Fits ss v = (k : ℕ) → v k < room (wide_of ss k)

-- every number of a list, the first as item 0, fits its slot
abbrev pub RoomFor : List Slot → List ℕ → Type 0
RoomFor ss xs = Fits ss (λ k. get_or xs k 0)

abbrev pub room_for : List Slot → List ℕ → Bool
room_for ss xs = all (length xs) (λ k. ltb (get_or xs k 0) (room (wide_of ss k)))
