-- The parts of a table and the items of their entries, by name. Where an item stands, and in how many bytes, is its form's
-- matter (Forms): no other file of specs says it.
use Rattle.std.specs.Prelude.{ℕ, ◌+◌, ◌*◌, [], ◌∷◌, get_or}

-- ---- the parts, in the order in which they stand: "Parts follow at once in that order"

abbrev pub subframe_part : ℕ
subframe_part = 0

abbrev pub parameter_part : ℕ
parameter_part = 1

abbrev pub sample_part : ℕ
sample_part = 2

abbrev pub component_part : ℕ
component_part = 3

-- how many parts there are; the text is none of them: it has no entries, and stands behind the last
abbrev pub parts : ℕ
parts = 4

-- the parts that every form has are the first ones
abbrev pub parts_of_all : ℕ
parts_of_all = 4

-- ---- the header's items, beside how many entries each part has and where it begins (lay's `count` and `offset`)

abbrev pub total : ℕ
total = 0

abbrev pub form : ℕ
form = 1

abbrev pub flags : ℕ
flags = 2

-- bytes that must be 0; form 1 has none
abbrev pub zeros : ℕ
zeros = 3

-- where the text begins
abbrev pub text : ℕ
text = 4

abbrev pub head_items : ℕ
head_items = 5 + 2 * parts

-- ---- a subframe's

abbrev pub bits : ℕ
bits = 0

abbrev pub words : ℕ
words = 1

abbrev pub leading : ℕ
leading = 2

abbrev pub trailing : ℕ
trailing = 3

abbrev pub numerator : ℕ
numerator = 4

abbrev pub denominator : ℕ
denominator = 5

-- ---- a parameter's: the lengths of its texts, flags, where its text starts within the text part, its first sample counted
-- from 0 and how many it has, and its value as an identifier

abbrev pub name_length : ℕ
name_length = 0

abbrev pub mnemonic_length : ℕ
mnemonic_length = 1

abbrev pub identification_length : ℕ
identification_length = 2

abbrev pub parameter_flags : ℕ
parameter_flags = 3

abbrev pub text_start : ℕ
text_start = 4

abbrev pub first_sample : ℕ
first_sample = 5

abbrev pub sample_count : ℕ
sample_count = 6

abbrev pub value : ℕ
value = 7

-- ---- a sample's: its time, its first component counted from 0 and how many it has

abbrev pub time : ℕ
time = 0

abbrev pub first_component : ℕ
first_component = 1

abbrev pub component_count : ℕ
component_count = 2

-- ---- a component's: the subframe that it names, its word, its low and its high bit, its overlap, and a byte that must be 0

abbrev pub home : ℕ
home = 0

abbrev pub word : ℕ
word = 1

abbrev pub low : ℕ
low = 2

abbrev pub high : ℕ
high = 3

abbrev pub overlap : ℕ
overlap = 4

abbrev pub zero_byte : ℕ
zero_byte = 5

-- how many items an entry of part p has
abbrev pub entry_items : ℕ → ℕ
entry_items p = get_or (6 ∷ 8 ∷ 3 ∷ 6 ∷ []) p 0
