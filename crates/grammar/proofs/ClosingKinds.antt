-- The lines that a parameter ends with, the signed line, the range line and the two of a source: `..-told`, a line that
-- passes is written by its items; `..-read`, a line so written passes and says it. Assumes nothing.
use mathlib.Core.Path.{◌≡◌}
use mathlib.Core.Bool.{Bool, true, cond}
use mathlib.Core.List.{List}
use Prim.Native.Nat.{ℕ, ◌≤◌}
use native.Mathlib.Omega.{arith}
use Rattle.std.specs.Prelude.{Ok}
use Rattle.text.specs.Fields.{field_of, field_count}
use Rattle.text.specs.Refusals.{first}
use Rattle.written.proofs.Passing.{all_first}
use Rattle.lines.specs.Line.{all_clean}
use Rattle.lines.proofs.Orders.{first_none}
use Rattle.lineforms.specs.LineFields.{signed_fields, range_fields, source_fields, label_fields}
use Rattle.lineforms.specs.Said.{signed_in, value_in}
use Rattle.model.specs.Forms.{sheet_limits}
use Rattle.grammar.specs.Written.{Fields}
use Rattle.grammar.specs.Says.{signed_line, range_line, source_line, label_line}
use Rattle.grammar.proofs.FoundFields.{field_tidy}
use Rattle.grammar.proofs.Partings.{fields_count, fields_at}
use Rattle.grammar.proofs.FieldLists.{◌&◌, all_fields}
use Rattle.grammar.proofs.Spellings.{text_spelled, text_taken, truth_spelled, truth_taken, truth_or_none_spelled, truth_or_none_taken, empty_spelled, empty_taken, label_spelled, label_taken}
use Rattle.grammar.proofs.MeasureSpellings.{delay_spelled, delay_taken, bits_or_none_spelled, bits_or_none_taken, range_spelled, range_taken}

-- ---- the 5-field line

pub signed_told : (l : List ℕ) → all_clean l ≡ true → field_count l ≡ 5 → first (signed_fields l) ≡ Ok tt → Fields l (signed_line (signed_in l))
signed_told l c n e =
    let q = first_none (signed_fields l) e in
    all_fields l (signed_line (signed_in l)) (omega arith) n
    (truth_spelled (field_of 0 l) (q 0)
    & empty_spelled (field_of 1 l) (q 1)
    & empty_spelled (field_of 2 l) (q 2)
    & text_spelled (field_of 3 l) (field_tidy 3 l c) (q 3)
    & empty_spelled (field_of 4 l) (q 4)
    & tt)

pub record SignedRead (l : List ℕ) (t : Bool) : Type 0 where
  pub count : field_count l ≡ 5
  pub pass : first (signed_fields l) ≡ Ok tt
  pub says : signed_in l ≡ t

pub signed_read : (l : List ℕ) (t : Bool) → Fields l (signed_line t) → SignedRead l t
signed_read l t w =
    let r = fields_at l (signed_line t) (omega arith) w in
    let s = truth_taken (field_of 0 l) t (r 0 (omega arith)) in
    record {
      count = fields_count l (signed_line t) (omega arith) w;
      pass =
          all_first (signed_fields l)
          (s.0
          & empty_taken (field_of 1 l) (r 1 (omega arith))
          & empty_taken (field_of 2 l) (r 2 (omega arith))
          & text_taken (field_of 3 l) (r 3 (omega arith))
          & empty_taken (field_of 4 l) (r 4 (omega arith))
          & tt);
      says = s.1;
    }

-- ---- the 4-field line

pub range_told : (i : Bool) (l : List ℕ) → all_clean l ≡ true → field_count l ≡ 4 → first (range_fields i l) ≡ Ok tt → Fields l (range_line i (cond i (value_in l) 0))
range_told i l c n e =
    let q = first_none (range_fields i l) e in
    all_fields l (range_line i (cond i (value_in l) 0)) (omega arith) n
    (range_spelled (field_of 0 l) i (field_tidy 0 l c) (q 0)
    & empty_spelled (field_of 1 l) (q 1)
    & text_spelled (field_of 2 l) (field_tidy 2 l c) (q 2)
    & delay_spelled (field_of 3 l) (q 3)
    & tt)

pub record RangeRead (i : Bool) (l : List ℕ) (v : ℕ) : Type 0 where
  pub count : field_count l ≡ 4
  pub pass : first (range_fields i l) ≡ Ok tt
  pub says : i ≡ true → value_in l ≡ v

pub range_read : (i : Bool) (l : List ℕ) (v : ℕ) → v ≤ sheet_limits.value → Fields l (range_line i v) → RangeRead i l v
range_read i l v b w =
    let r = fields_at l (range_line i v) (omega arith) w in
    let s = range_taken (field_of 0 l) i v b (r 0 (omega arith)) in
    record {
      count = fields_count l (range_line i v) (omega arith) w;
      pass =
          all_first (range_fields i l)
          (s.0
          & empty_taken (field_of 1 l) (r 1 (omega arith))
          & text_taken (field_of 2 l) (r 2 (omega arith))
          & delay_taken (field_of 3 l) (r 3 (omega arith))
          & tt);
      says = s.1;
    }

-- ---- a source

pub source_told : (l : List ℕ) → all_clean l ≡ true → field_count l ≡ 3 → first (source_fields l) ≡ Ok tt → Fields l source_line
source_told l c n e =
    let q = first_none (source_fields l) e in
    all_fields l source_line (omega arith) n
    (text_spelled (field_of 0 l) (field_tidy 0 l c) (q 0)
    & text_spelled (field_of 1 l) (field_tidy 1 l c) (q 1)
    & text_spelled (field_of 2 l) (field_tidy 2 l c) (q 2)
    & tt)

pub record SourceRead (l : List ℕ) : Type 0 where
  pub count : field_count l ≡ 3
  pub pass : first (source_fields l) ≡ Ok tt

pub source_read : (l : List ℕ) → Fields l source_line → SourceRead l
source_read l w =
    let r = fields_at l source_line (omega arith) w in
    record {
      count = fields_count l source_line (omega arith) w;
      pass =
          all_first (source_fields l)
          (text_taken (field_of 0 l) (r 0 (omega arith))
          & text_taken (field_of 1 l) (r 1 (omega arith))
          & text_taken (field_of 2 l) (r 2 (omega arith))
          & tt);
    }

-- and its label

pub label_told : (l : List ℕ) → all_clean l ≡ true → field_count l ≡ 4 → first (label_fields l) ≡ Ok tt → Fields l label_line
label_told l c n e =
    let q = first_none (label_fields l) e in
    all_fields l label_line (omega arith) n
    (truth_or_none_spelled (field_of 0 l) (q 0)
    & label_spelled (field_of 1 l) (q 1)
    & bits_or_none_spelled (field_of 2 l) (q 2)
    & text_spelled (field_of 3 l) (field_tidy 3 l c) (q 3)
    & tt)

pub record LabelRead (l : List ℕ) : Type 0 where
  pub count : field_count l ≡ 4
  pub pass : first (label_fields l) ≡ Ok tt

pub label_read : (l : List ℕ) → Fields l label_line → LabelRead l
label_read l w =
    let r = fields_at l label_line (omega arith) w in
    record {
      count = fields_count l label_line (omega arith) w;
      pass =
          all_first (label_fields l)
          (truth_or_none_taken (field_of 0 l) (r 0 (omega arith))
          & label_taken (field_of 1 l) (r 1 (omega arith))
          & bits_or_none_taken (field_of 2 l) (r 2 (omega arith))
          & text_taken (field_of 3 l) (r 3 (omega arith))
          & tt);
    }
