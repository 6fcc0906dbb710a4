-- Lines that are written: 01, "A line ends with byte 10. Fields are parted by commas; spaces and tabs round a field, or round
-- a whole line, are dropped. A line with nothing left is blank and has no fields."
use Rattle.std.specs.Prelude.{ℕ, ◌≤◌, ◌<◌, ◌≡◌, ◌⊎◌, List, [], ◌∷◌, ◌++◌, length, get_or}
use Rattle.text.specs.Blanks.{space, tab}
use Rattle.text.specs.Fields.{comma}
use Rattle.lines.specs.Line.{end_byte}
use Rattle.grammar.specs.Items.{Item, Spelled}

abbrev pub Blank : ℕ → Type 0
Blank b = (b ≡ space) ⊎ (b ≡ tab)

-- any run of them
abbrev pub Blanks : List ℕ → Type 0
Blanks l = (i : ℕ) → i < length l → Blank (get_or l i 0)

-- an item, spelled between two such runs
pub record Field (x : List ℕ) (i : Item) : Type 0 where
  pub before : List ℕ
  pub field : List ℕ
  pub after : List ℕ
  pub written : x ≡ before ++ (field ++ after)
  pub blanks_before : Blanks before
  pub spelled : Spelled i field
  pub blanks_after : Blanks after

-- the items of a line, parted by commas; a line without items is blank
abbrev pub Fields : List ℕ → List Item → Type 0
Fields l [] = Blanks l
Fields l (i ∷ []) = Field l i
Fields l (i ∷ j ∷ is) = (x : List ℕ) × (y : List ℕ) × (l ≡ x ++ (comma ∷ y)) × Field x i × Fields y (j ∷ is)

-- "line 1,024 before its end byte"
pub record Line (l : List ℕ) (is : List Item) : Type 0 where
  pub short : length l ≤ 1024
  pub fields : Fields l is

-- lines, each with its end byte
abbrev pub Written : List ℕ → List (List Item) → Type 0
Written x [] = x ≡ []
Written x (is ∷ lines) = (l : List ℕ) × (y : List ℕ) × (x ≡ l ++ (end_byte ∷ y)) × Line l is × Written y lines
