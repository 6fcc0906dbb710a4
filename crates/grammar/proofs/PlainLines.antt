-- Lines put together from plain items are those items' lines. Assumes nothing.
use mathlib.Core.Path.{◌≡◌, refl, sym, ap}
use mathlib.Core.List.{List, [], ◌∷◌, ◌++◌}
use Prim.Native.Nat.{ℕ, ◌+◌, ◌*◌, ◌≤◌}
use native.Mathlib.Omega.{arith}
use lib.ListN.{length, length-append}
use Rattle.text.specs.Fields.{comma}
use Rattle.model.specs.Forms.{sheet_limits}
use Rattle.grammar.specs.Items.{Item}
use Rattle.grammar.specs.Written.{Blanks, Field, Fields, Line, Written}
use Rattle.grammar.specs.Plain.{plain_item, plain_line, plain_lines}
use Rattle.grammar.proofs.PlainItems.{Sayable, item_spelled, item_short}

-- ---- a line

abbrev AllSayable : List Item → Type 0
AllSayable [] = Unit {0}
AllSayable (i ∷ is) = Sayable i × AllSayable is

no_blanks : Blanks []
no_blanks i h = absurd (omega arith)

append_none : (l : List ℕ) → l ++ [] ≡ l
append_none [] = refl
append_none (x ∷ l) = ap (λ (r : List ℕ). x ∷ r) (append_none l)

plain_field : (i : Item) → Sayable i → Field (plain_item i) i
plain_field i h =
    record {
      before = [];
      field = plain_item i;
      after = [];
      written = sym (append_none (plain_item i));
      blanks_before = no_blanks;
      spelled = item_spelled i h;
      blanks_after = no_blanks;
    }

plain_fields : (is : List Item) → AllSayable is → Fields (plain_line is) is
plain_fields [] h = no_blanks
plain_fields (i ∷ []) h = plain_field i h.0
plain_fields (i ∷ j ∷ is) h = (plain_item i, plain_line (j ∷ is), refl, plain_field i h.0, plain_fields (j ∷ is) h.1)

plain_short : (is : List Item) → AllSayable is → length (plain_line is) ≤ (sheet_limits.text + 1) * length is
plain_short [] h = omega arith
plain_short (i ∷ []) h = omega (arith, item_short i h.0)
plain_short (i ∷ j ∷ is) h =
    omega (arith, length-append (plain_item i) (comma ∷ plain_line (j ∷ is)), item_short i h.0, plain_short (j ∷ is) h.1)

-- a line of at most 14 items is short
pub record Fine (is : List Item) : Type 0 where
  pub sayable : AllSayable is
  pub few : length is ≤ 14

plain_line_lem : (is : List Item) → Fine is → Line (plain_line is) is
plain_line_lem is h = record { short = omega (arith, plain_short is h.sayable, h.few); fields = plain_fields is h.sayable }

-- ---- lines

abbrev pub AllFine : List (List Item) → Type 0
AllFine [] = Unit {0}
AllFine (is ∷ lines) = Fine is × AllFine lines

pub fine_append : (a b : List (List Item)) → AllFine a → AllFine b → AllFine (a ++ b)
fine_append [] b h k = k
fine_append (is ∷ a) b h k = (h.0, fine_append a b h.1 k)

pub plain_written : (lines : List (List Item)) → AllFine lines → Written (plain_lines lines) lines
plain_written [] h = refl
plain_written (is ∷ lines) h = (plain_line is, plain_lines lines, refl, plain_line_lem is h.0, plain_written lines h.1)
