-- What is asked of every form's row, so that the laws hold of it. Not part of the meaning: it is computed of each row, and a
-- row that has an item twice, too few bytes for its limits, its form elsewhere, or more than the code holds, is refused.
use Rattle.std.specs.Prelude.{ℕ, ◌+◌, ◌*◌, ◌≤◌, ◌<◌, ◌≡◌, Bool, true, ◌||◌, not, cond, List, [], ◌∷◌, eqb, leb, ltb, length, get_or}
use Rattle.lay.specs.Below.{every, all}
use Rattle.lay.specs.Slots.{has, wide_of, offset_of, tidy, plain, long, all_plain, room_for, RoomFor}
use Rattle.lay.specs.Layout.{Layout, offset, slots_of, many_parts, end_by}
use Rattle.sample.specs.Promise.{most_listed}
use Rattle.model.specs.Margin.{blank_margin}
use Rattle.model.specs.Limits.{Limits}
use Rattle.model.specs.Items as item
use Rattle.model.specs.Items.{subframe_part, parameter_part, sample_part, component_part, parts, parts_of_all, head_items, entry_items}
use Rattle.model.specs.Forms.{Row, rows, newest_row, sheet_limits, form_at, form_wide}

-- ---- the most that a form's items hold

-- how many entries of part p there are
abbrev pub most : Limits → ℕ → ℕ
most m p = get_or (m.subframes ∷ m.parameters ∷ m.samples ∷ m.components ∷ []) p 0

-- the bytes of text: three texts a parameter
abbrev pub most_text : Limits → ℕ
most_text m = 3 * m.text * m.parameters

-- where part p begins, if the header tells of it
unfoldable pub offset_most : Layout → Limits → ℕ → ℕ
offset_most L m p = cond (has L.header (offset p)) (end_by L (most m)) 0

-- the header's items, in the order of their numbers
unfoldable pub head_most : ℕ → Layout → Limits → List ℕ
head_most f L m =
    (end_by L (most m) + most_text m)
    ∷ f
    ∷ 1
    ∷ 0
    ∷ end_by L (most m)
    ∷ m.subframes
    ∷ offset_most L m subframe_part
    ∷ m.parameters
    ∷ offset_most L m parameter_part
    ∷ m.samples
    ∷ offset_most L m sample_part
    ∷ m.components
    ∷ offset_most L m component_part
    ∷ []

-- a margin as a number
abbrev pub margin_most : Limits → ℕ
margin_most m = cond m.blank blank_margin m.margin

-- each part's
unfoldable pub entry_most : Limits → ℕ → List ℕ
entry_most m p =
    get_or
    ((m.bits ∷ m.words ∷ margin_most m ∷ margin_most m ∷ m.seconds * m.denominator ∷ m.denominator ∷ [])
    ∷ (m.text ∷ m.text ∷ m.text ∷ 3 ∷ most_text m ∷ m.samples ∷ m.samples_each ∷ m.value ∷ [])
    ∷ (m.time ∷ m.components ∷ m.components_each ∷ [])
    ∷ (m.subframes ∷ m.words ∷ m.bits ∷ m.bits ∷ m.overlap ∷ 0 ∷ [])
    ∷ [])
    p
    []

-- ---- the tests

-- no item has two slots, and the parts are those of Items
unfoldable pub tidy_row : Layout → Bool
tidy_row L =
    every
    (eqb (many_parts L) parts
    ∷ tidy head_items L.header
    ∷ all parts (λ p. tidy (entry_items p) (slots_of L p))
    ∷ [])

-- the form stands where it is looked for, and the header tells of the parts that every form has
unfoldable pub form_row : Layout → Bool
form_row L =
    every
    (eqb (wide_of L.header item.form) form_wide
    ∷ eqb (offset_of L.header item.form) form_at
    ∷ all parts_of_all (λ p. has L.header (offset p))
    ∷ [])

-- every item has room for the most that it holds
unfoldable pub roomy_row : ℕ → Layout → Limits → Bool
roomy_row f L m = every (room_for L.header (head_most f L m) ∷ all parts (λ p. room_for (slots_of L p) (entry_most m p)) ∷ [])

-- the code reads and writes every width
unfoldable pub readable_row : Layout → Limits → Bool
readable_row L m =
    every
    (ltb (end_by L (most m) + most_text m) 4294967296
    ∷ all_plain L.header
    ∷ all (entry_items subframe_part) (λ k. eqb k item.numerator || plain (wide_of (slots_of L subframe_part) k))
    ∷ long (wide_of (slots_of L subframe_part) item.numerator)
    ∷ all_plain (slots_of L parameter_part)
    ∷ all_plain (slots_of L sample_part)
    ∷ all_plain (slots_of L component_part)
    ∷ [])

-- no known margin is stored as an unknown one
unfoldable pub margin_row : Limits → Bool
margin_row m = ltb m.margin blank_margin

-- the code holds a sample in 32 bits and a word in 16, and keeps a sample's components in a list
unfoldable pub coded_row : Limits → Bool
coded_row m = every (leb m.width 32 ∷ leb m.bits 16 ∷ leb m.components_each most_listed ∷ [])

-- no limit is above the newest form's
unfoldable pub within_row : Limits → Limits → Bool
within_row m n =
    every
    (leb m.subframes n.subframes
    ∷ leb m.bits n.bits
    ∷ leb m.words n.words
    ∷ leb m.margin n.margin
    ∷ (not m.blank || n.blank)
    ∷ leb m.parameters n.parameters
    ∷ leb m.samples_each n.samples_each
    ∷ leb m.samples n.samples
    ∷ leb m.components_each n.components_each
    ∷ leb m.components n.components
    ∷ leb m.overlap n.overlap
    ∷ leb m.width n.width
    ∷ leb m.text n.text
    ∷ leb m.time n.time
    ∷ leb m.denominator n.denominator
    ∷ leb m.seconds n.seconds
    ∷ leb m.value n.value
    ∷ [])

unfoldable pub sound : ℕ → Row → Bool
sound f R =
    every
    (tidy_row R.layout
    ∷ form_row R.layout
    ∷ roomy_row f R.layout R.limits
    ∷ readable_row R.layout R.limits
    ∷ within_row R.limits sheet_limits
    ∷ coded_row R.limits
    ∷ margin_row R.limits
    ∷ [])

unfoldable pub all_sound : Bool
all_sound = all (length rows) (λ k. sound (k + 1) (get_or rows k newest_row))

-- ---- and what they say

pub record Within (m n : Limits) : Type 0 where
  pub subframes : m.subframes ≤ n.subframes
  pub bits : m.bits ≤ n.bits
  pub words : m.words ≤ n.words
  pub margin : m.margin ≤ n.margin
  pub blank : m.blank ≡ true → n.blank ≡ true
  pub parameters : m.parameters ≤ n.parameters
  pub samples_each : m.samples_each ≤ n.samples_each
  pub samples : m.samples ≤ n.samples
  pub components_each : m.components_each ≤ n.components_each
  pub components : m.components ≤ n.components
  pub overlap : m.overlap ≤ n.overlap
  pub width : m.width ≤ n.width
  pub text : m.text ≤ n.text
  pub time : m.time ≤ n.time
  pub denominator : m.denominator ≤ n.denominator
  pub seconds : m.seconds ≤ n.seconds
  pub value : m.value ≤ n.value

pub record Sound (f : ℕ) (L : Layout) (m : Limits) : Type 0 where
  pub many : many_parts L ≡ parts
  pub tidy_head : tidy head_items L.header ≡ true
  pub tidy_part : (p : ℕ) → p < parts → tidy (entry_items p) (slots_of L p) ≡ true
  pub form_is_wide : wide_of L.header item.form ≡ form_wide
  pub form_stands : offset_of L.header item.form ≡ form_at
  pub told : (p : ℕ) → p < parts_of_all → has L.header (offset p) ≡ true
  pub head_room : RoomFor L.header (head_most f L m)
  pub entry_room : (p : ℕ) → p < parts → RoomFor (slots_of L p) (entry_most m p)
  pub small : end_by L (most m) + most_text m < 4294967296
  pub plain_head : all_plain L.header ≡ true
  pub plain_subframe : (k : ℕ) → k < entry_items subframe_part → (eqb k item.numerator || plain (wide_of (slots_of L subframe_part) k)) ≡ true
  pub long_numerator : long (wide_of (slots_of L subframe_part) item.numerator) ≡ true
  pub plain_parameter : all_plain (slots_of L parameter_part) ≡ true
  pub plain_sample : all_plain (slots_of L sample_part) ≡ true
  pub plain_component : all_plain (slots_of L component_part) ≡ true
  pub within : Within m sheet_limits
  pub apart : m.margin < blank_margin
