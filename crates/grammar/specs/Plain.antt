-- One sheet for each Content: every item in its plain spelling, no blank round a field, a pair of record lines for each
-- subframe, one source a parameter.
use Rattle.std.specs.Prelude.{ℕ, zero, suc, ◌+◌, ◌/◌, ◌%◌, true, false, cond, List, [], ◌∷◌, ◌++◌, eqb, ltb}
use Rattle.lay.specs.Quoted.{quoted}
use Rattle.text.specs.Blanks.{space}
use Rattle.text.specs.Fields.{comma}
use Rattle.lines.specs.Line.{end_byte}
use Rattle.spell.specs.Decimals.{point, million}
use Rattle.spell.specs.BitRanges.{hyphen}
use Rattle.spell.specs.Durations.{slash}
use Rattle.model.specs.Content.{Content, Parameter}
use Rattle.model.specs.Margin.{Known, Unknown}
use Rattle.grammar.specs.Items.{Item, exactly, text, some_text, truth, truth_or_none, integer, margin, time, delay, bits, bits_or_none, label, seconds}
use Rattle.grammar.specs.Says.{Told, plain, sheet_lines}

-- ---- digits

-- in at most so many, no zero in front
abbrev pub fewest : ℕ → ℕ → List ℕ
fewest zero n = []
fewest (suc k) n = cond (ltb n 10) ((48 + n) ∷ []) (fewest k (n / 10) ++ ((48 + n % 10) ∷ []))

-- ten digits hold every number of a Content
unfoldable pub decimal : ℕ → List ℕ
decimal n = fewest 10 n

-- in so many, zeros in front
abbrev pub padded : ℕ → ℕ → List ℕ
padded zero n = []
padded (suc k) n = padded k (n / 10) ++ ((48 + n % 10) ∷ [])

-- millionths: a point and six digits where they are not whole
unfoldable pub pointed : ℕ → List ℕ
pointed v = cond (eqb (v % million) 0) (decimal (v / million)) (decimal (v / million) ++ (point ∷ padded 6 (v % million)))

-- ---- items

-- `W`, `W.FFFFFF`, or `W N/D`
unfoldable pub plain_seconds : ℕ → ℕ → List ℕ
plain_seconds n d =
    cond (eqb d 1) (decimal n)
    (cond (eqb d million) (pointed n) (decimal (n / d) ++ (space ∷ (decimal (n % d) ++ (slash ∷ decimal d)))))

abbrev pub plain_item : Item → List ℕ
plain_item (exactly t) = t
plain_item text = []
plain_item some_text = hyphen ∷ []
plain_item (truth true) = quoted "True"
plain_item (truth false) = quoted "False"
plain_item truth_or_none = []
plain_item (integer n v) = decimal v
plain_item (margin Unknown) = []
plain_item (margin (Known v)) = decimal v
plain_item (time v) = pointed v
plain_item delay = []
plain_item (bits a b) = decimal a ++ (hyphen ∷ decimal b)
plain_item bits_or_none = []
plain_item label = quoted "0"
plain_item (seconds n d) = plain_seconds n d

-- ---- lines

abbrev pub plain_line : List Item → List ℕ
plain_line [] = []
plain_line (i ∷ []) = plain_item i
plain_line (i ∷ j ∷ is) = plain_item i ++ (comma ∷ plain_line (j ∷ is))

abbrev pub plain_lines : List (List Item) → List ℕ
plain_lines [] = []
plain_lines (is ∷ lines) = plain_line is ++ (end_byte ∷ plain_lines lines)

-- ---- the sheet

abbrev pub telling_of : Parameter → Told
telling_of p = record { parameter = p; source = plain; more = [] }

abbrev pub tellings : List Parameter → List Told
tellings [] = []
tellings (p ∷ ps) = telling_of p ∷ tellings ps

unfoldable pub plain_sheet : Content → List ℕ
plain_sheet c = plain_lines (sheet_lines c c.subframes (tellings c.parameters))
