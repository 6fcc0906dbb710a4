-- The lines of a sheet's head, the header line and a record pair's: `..-told`, a line that passes is written by its items;
-- `..-read`, a line so written passes and says it. Assumes nothing.
use mathlib.Core.Path.{◌≡◌, refl}
use mathlib.Core.Bool.{Bool, true}
use mathlib.Core.List.{List}
use Prim.Native.Nat.{ℕ, ◌≤◌}
use native.Mathlib.Omega.{arith}
use Rattle.std.specs.Prelude.{Ok}
use Rattle.text.specs.Fields.{field_of, field_count}
use Rattle.text.specs.Refusals.{first}
use Rattle.written.proofs.Passing.{all_first}
use Rattle.lines.specs.Line.{all_clean}
use Rattle.lines.proofs.Orders.{first_none}
use Rattle.lineforms.specs.LineFields.{header_fields, record_fields}
use Rattle.lineforms.specs.Said.{subframes_in, sequential_in}
use Rattle.gather.specs.Book.{subframe_of}
use Rattle.model.specs.Margin.{Margin}
use Rattle.model.specs.Content.{Subframe}
use Rattle.model.specs.Forms.{sheet_limits}
use Rattle.model.specs.Meaning.{SubframeLaw}
use Rattle.grammar.specs.Written.{Fields}
use Rattle.grammar.specs.Says.{header_line, record_line}
use Rattle.grammar.proofs.Tidy.{Tidy}
use Rattle.grammar.proofs.FoundFields.{field_tidy}
use Rattle.grammar.proofs.Partings.{fields_count, fields_at}
use Rattle.grammar.proofs.FieldLists.{◌&◌, all_fields}
use Rattle.grammar.proofs.Spellings.{version_spelled, version_taken, text_spelled, text_taken, some_spelled, some_taken, truth_spelled, truth_taken, empty_spelled, empty_taken, integer_spelled, integer_taken, margin_spelled, margin_taken}
use Rattle.grammar.proofs.MeasureSpellings.{seconds_spelled, seconds_taken}

-- ---- the header line

pub header_told : (l : List ℕ) → all_clean l ≡ true → field_count l ≡ 14 → first (header_fields l) ≡ Ok tt → Fields l (header_line (sequential_in l) (subframes_in l))
header_told l c n e =
    let q = first_none (header_fields l) e in
    let t : (k : ℕ) → Tidy (field_of k l) = λ k. field_tidy k l c in
    all_fields l (header_line (sequential_in l) (subframes_in l)) (omega arith) n
    (version_spelled (field_of 0 l) (t 0) (q 0)
    & text_spelled (field_of 1 l) (t 1) (q 1)
    & some_spelled (field_of 2 l) (t 2) (q 2)
    & text_spelled (field_of 3 l) (t 3) (q 3)
    & text_spelled (field_of 4 l) (t 4) (q 4)
    & some_spelled (field_of 5 l) (t 5) (q 5)
    & text_spelled (field_of 6 l) (t 6) (q 6)
    & text_spelled (field_of 7 l) (t 7) (q 7)
    & truth_spelled (field_of 8 l) (q 8)
    & empty_spelled (field_of 9 l) (q 9)
    & empty_spelled (field_of 10 l) (q 10)
    & integer_spelled (field_of 11 l) 6 1 sheet_limits.subframes (q 11)
    & text_spelled (field_of 12 l) (t 12) (q 12)
    & text_spelled (field_of 13 l) (t 13) (q 13)
    & tt)

pub record HeaderRead (l : List ℕ) (q : Bool) (s : ℕ) : Type 0 where
  pub count : field_count l ≡ 14
  pub pass : first (header_fields l) ≡ Ok tt
  pub sequential : sequential_in l ≡ q
  pub subframes : subframes_in l ≡ s

pub header_read : (l : List ℕ) (q : Bool) (s : ℕ) → 1 ≤ s → s ≤ sheet_limits.subframes → Fields l (header_line q s) → HeaderRead l q s
header_read l q s a b w =
    let r = fields_at l (header_line q s) (omega arith) w in
    let t = truth_taken (field_of 8 l) q (r 8 (omega arith)) in
    let n = integer_taken (field_of 11 l) 6 1 sheet_limits.subframes s a b (r 11 (omega arith)) in
    record {
      count = fields_count l (header_line q s) (omega arith) w;
      pass =
          all_first (header_fields l)
          (version_taken (field_of 0 l) (r 0 (omega arith))
          & text_taken (field_of 1 l) (r 1 (omega arith))
          & some_taken (field_of 2 l) (r 2 (omega arith))
          & text_taken (field_of 3 l) (r 3 (omega arith))
          & text_taken (field_of 4 l) (r 4 (omega arith))
          & some_taken (field_of 5 l) (r 5 (omega arith))
          & text_taken (field_of 6 l) (r 6 (omega arith))
          & text_taken (field_of 7 l) (r 7 (omega arith))
          & t.0
          & empty_taken (field_of 9 l) (r 9 (omega arith))
          & empty_taken (field_of 10 l) (r 10 (omega arith))
          & n.0
          & text_taken (field_of 12 l) (r 12 (omega arith))
          & text_taken (field_of 13 l) (r 13 (omega arith))
          & tt);
      sequential = t.1;
      subframes = n.1;
    }

-- ---- the line of a record pair

pub record_told : (l : List ℕ) → all_clean l ≡ true → field_count l ≡ 5 → first (record_fields l) ≡ Ok tt → Fields l (record_line (subframe_of l))
record_told l c n e =
    let q = first_none (record_fields l) e in
    all_fields l (record_line (subframe_of l)) (omega arith) n
    (integer_spelled (field_of 0 l) 6 1 sheet_limits.bits (q 0)
    & integer_spelled (field_of 1 l) 6 1 sheet_limits.words (q 1)
    & margin_spelled (field_of 2 l) (q 2)
    & margin_spelled (field_of 3 l) (q 3)
    & seconds_spelled (field_of 4 l) (q 4)
    & tt)

pub record RecordRead (l : List ℕ) (p : Subframe) : Type 0 where
  pub count : field_count l ≡ 5
  pub pass : first (record_fields l) ≡ Ok tt
  pub says : subframe_of l ≡ p

-- a pair of the same numbers is the same
same_pair : (q : Subframe) (a b : ℕ) (c d : Margin) (e f : ℕ) → a ≡ q.bits → b ≡ q.words → c ≡ q.leading → d ≡ q.trailing → e ≡ q.numerator → f ≡ q.denominator
    → record { bits = a; words = b; leading = c; trailing = d; numerator = e; denominator = f } ≡ q
same_pair q a b c d e f i j k m n o = rw (i, j, k, m, n, o) refl

pub record_read : (l : List ℕ) (p : Subframe) → SubframeLaw sheet_limits p → Fields l (record_line p) → RecordRead l p
record_read l p h w =
    let r = fields_at l (record_line p) (omega arith) w in
    let b = integer_taken (field_of 0 l) 6 1 sheet_limits.bits p.bits h.some_bits h.few_bits (r 0 (omega arith)) in
    let d = integer_taken (field_of 1 l) 6 1 sheet_limits.words p.words h.some_words h.few_words (r 1 (omega arith)) in
    let m = margin_taken (field_of 2 l) p.leading h.leading (r 2 (omega arith)) in
    let n = margin_taken (field_of 3 l) p.trailing h.trailing (r 3 (omega arith)) in
    let s = seconds_taken (field_of 4 l) p.numerator p.denominator (r 4 (omega arith)) in
    record {
      count = fields_count l (record_line p) (omega arith) w;
      pass = all_first (record_fields l) (b.0 & d.0 & m.0 & n.0 & s.0 & tt);
      says = same_pair p _ _ _ _ _ _ b.1 d.1 m.1 n.1 s.1 s.2;
    }
