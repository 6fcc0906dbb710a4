-- THE FILE THAT KNOWS THE FORMS of a table: in which order and in how many bytes each form stores its items, and how much it
-- holds at most. A form is one row. A new form is one row more; that it is sound (Sound) is computed (proofs/Rows), and no law, rule or
-- call knows which forms there are.
use Rattle.std.specs.Prelude.{ℕ, ◌-◌, Bool, true, false, List, [], ◌∷◌, leb, length, get_or}
use Rattle.lay.specs.Below.{every}
use Rattle.lay.specs.Bytes.{num_at}
use Rattle.lay.specs.Slots.{Slot, slot}
use Rattle.lay.specs.Layout.{Layout, count, offset}
use Rattle.model.specs.Limits.{Limits}
use Rattle.model.specs.Items as item
use Rattle.model.specs.Items.{subframe_part, parameter_part, sample_part, component_part}

pub record Row : Type 0 where
  pub layout : Layout
  pub limits : Limits

-- ---- form 1

-- "Header of 36 bytes: total length (4), S, parameters P, samples Q, components C, flags (1 sequential, else 0), form 1
-- (2 each), then five offsets (4 each): subframes, parameters, samples, components, text."
abbrev pub header1 : List Slot
header1 =
    slot item.total 4
    ∷ slot (count subframe_part) 2
    ∷ slot (count parameter_part) 2
    ∷ slot (count sample_part) 2
    ∷ slot (count component_part) 2
    ∷ slot item.flags 2
    ∷ slot item.form 2
    ∷ slot (offset subframe_part) 4
    ∷ slot (offset parameter_part) 4
    ∷ slot (offset sample_part) 4
    ∷ slot (offset component_part) 4
    ∷ slot item.text 4
    ∷ []

-- "Subframe, 20: bits, words, leading, trailing (2 each), numerator (8), denominator (4)."
abbrev pub subframe1 : List Slot
subframe1 =
    slot item.bits 2
    ∷ slot item.words 2
    ∷ slot item.leading 2
    ∷ slot item.trailing 2
    ∷ slot item.numerator 8
    ∷ slot item.denominator 4
    ∷ []

-- "Parameter, 16: lengths of name, mnemonic and identification, flags (1 signed, 2 identifier) (1 each), text start
-- within the text part (4), first sample counted from 0, count (2 each), identifier value, else 0 (4)."
abbrev pub parameter1 : List Slot
parameter1 =
    slot item.name_length 1
    ∷ slot item.mnemonic_length 1
    ∷ slot item.identification_length 1
    ∷ slot item.parameter_flags 1
    ∷ slot item.text_start 4
    ∷ slot item.first_sample 2
    ∷ slot item.sample_count 2
    ∷ slot item.value 4
    ∷ []

-- "Sample, 8: time (4), first component counted from 0, count (2 each)."
abbrev pub sample1 : List Slot
sample1 = slot item.time 4 ∷ slot item.first_component 2 ∷ slot item.component_count 2 ∷ []

-- "Component, 6: subframe, word (2 each), low bit, high bit (1 each)."
abbrev pub component1 : List Slot
component1 = slot item.home 2 ∷ slot item.word 2 ∷ slot item.low 1 ∷ slot item.high 1 ∷ []

-- "S 1 to 32; bits per word 1 to 16; words 1 to 1,024; leading and trailing 0 to 4,095; 512 parameters; 64 samples each,
-- 4,096 in all; 8 components a sample, 4,096 in all; width 32; .. identifier value 4,294,967,295"; text "64 for name,
-- mnemonic and identification"; "time at most 999,999,999"; "from 1 to 1,000,000 below, and less than 1,000,000". With or
-- without unknown margins, and with so many overlap bits
abbrev pub limits_with : Bool → ℕ → Limits
limits_with blank overlap =
    record {
      subframes = 32;
      bits = 16;
      words = 1024;
      margin = 4095;
      blank = blank;
      parameters = 512;
      samples_each = 64;
      samples = 4096;
      components_each = 8;
      components = 4096;
      overlap = overlap;
      width = 32;
      text = 64;
      time = 999999999;
      denominator = 1000000;
      seconds = 1000000;
      value = 4294967295;
    }

-- no margin is unknown, and no bits overlap
abbrev pub limits1 : Limits
limits1 = limits_with false 0

abbrev pub form1 : Row
form1 =
    record {
      layout = record { header = header1; parts = subframe1 ∷ parameter1 ∷ sample1 ∷ component1 ∷ [] };
      limits = limits1;
    }

-- ---- form 2: form 1 but for the margins

-- 02, request 2: "Blank is now stored as 65,535, in tables of form 2, and may stand in either margin."
abbrev pub limits2 : Limits
limits2 = limits_with true 0

abbrev pub form2 : Row
form2 = record { layout = form1.layout; limits = limits2 }

-- ---- form 3: form 2 but for the overlap

-- 02, request 3: "The component entry gains an overlap byte and a zero byte (form 3)."
abbrev pub component3 : List Slot
component3 =
    slot item.home 2
    ∷ slot item.word 2
    ∷ slot item.low 1
    ∷ slot item.high 1
    ∷ slot item.overlap 1
    ∷ slot item.zero_byte 1
    ∷ []

-- fewer bits than a word has
abbrev pub limits3 : Limits
limits3 = limits_with true 15

abbrev pub form3 : Row
form3 =
    record {
      layout = record { header = header1; parts = subframe1 ∷ parameter1 ∷ sample1 ∷ component3 ∷ [] };
      limits = limits3;
    }

-- ---- all forms, from form 1 on

unfoldable pub rows : List Row
rows = form1 ∷ form2 ∷ form3 ∷ []

-- the last row: new tables are written in its form
abbrev pub newest_row : Row
newest_row = form3

unfoldable pub newest : ℕ
newest = length rows

-- the limits of a sheet, of which a new table is made. No older form holds more of anything
abbrev pub sheet_limits : Limits
sheet_limits = newest_row.limits

unfoldable pub known : ℕ → Bool
known f = every (leb 1 f ∷ leb f (length rows) ∷ [])

unfoldable pub row : ℕ → Row
row f = get_or rows (f - 1) newest_row

abbrev pub layout_of : ℕ → Layout
layout_of f = (row f).layout

abbrev pub limits_of : ℕ → Limits
limits_of f = (row f).limits

-- ---- which form bytes are of: it stands in the same two bytes in every form

abbrev pub form_at : ℕ
form_at = 14

abbrev pub form_wide : ℕ
form_wide = 2

unfoldable pub form_in : List ℕ → ℕ
form_in b = num_at form_wide b form_at

unfoldable pub layout_in : List ℕ → Layout
layout_in b = layout_of (form_in b)

unfoldable pub limits_in : List ℕ → Limits
limits_in b = limits_of (form_in b)
