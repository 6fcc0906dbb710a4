-- The lines that a parameter begins with, its names, its components and its times: `..-told`, a line that passes is written
-- by its items; `..-read`, a line so written passes and says it. Assumes nothing.
use mathlib.Core.Path.{◌≡◌, refl}
use mathlib.Core.Bool.{true, false}
use mathlib.Core.Logic.{inl, inr}
use mathlib.Core.List.{List, [], ◌∷◌}
use Prim.Native.Nat.{ℕ, ◌≤◌}
use native.Mathlib.Omega.{arith}
use lib.ListN.{length, length-append}
use Rattle.std.specs.Prelude.{Ok}
use Rattle.text.specs.Fields.{field_of, field_count}
use Rattle.text.specs.Refusals.{first}
use Rattle.spell.specs.Integers.{most_of_six}
use Rattle.spell.specs.Decimals.{point}
use Rattle.written.specs.Words.{IsDecimal}
use Rattle.written.proofs.Passing.{all_first}
use Rattle.lines.specs.Line.{all_clean}
use Rattle.lines.proofs.Orders.{first_none}
use Rattle.lineforms.specs.LineFields.{declared_for, name_fields, component_fields, time_fields, subframe_in}
use Rattle.lineforms.specs.Said.{identifier_in, time_in}
use Rattle.gather.specs.Book.{component_of, named_of}
use Rattle.model.specs.Content.{Component, Parameter}
use Rattle.model.specs.Forms.{sheet_limits}
use Rattle.model.specs.Meaning.{TextLaw}
use Rattle.grammar.specs.Items.{time}
use Rattle.grammar.specs.Written.{Fields}
use Rattle.grammar.specs.Says.{name_line, component_line}
use Rattle.grammar.proofs.Tidy.{Tidy}
use Rattle.grammar.proofs.FoundFields.{field_tidy}
use Rattle.grammar.proofs.Partings.{fields_count, one_count, fields_at}
use Rattle.grammar.proofs.FieldLists.{◌&◌, all_fields}
use Rattle.grammar.proofs.Spellings.{name_spelled, name_taken, text_spelled, text_taken, truth_spelled, truth_taken, empty_spelled, empty_taken, declared_spelled, declared_taken, integer_spelled, six_taken}
use Rattle.grammar.proofs.MeasureSpellings.{time_spelled, time_taken, bits_spelled, bits_taken}

-- ---- the line of names

pub name_told : (l : List ℕ) → all_clean l ≡ true → field_count l ≡ 7 → first (name_fields l) ≡ Ok tt → Fields l (name_line (named_of l))
name_told l c n e =
    let q = first_none (name_fields l) e in
    let t : (k : ℕ) → Tidy (field_of k l) = λ k. field_tidy k l c in
    all_fields l (name_line (named_of l)) (omega arith) n
    (name_spelled (field_of 0 l) true (t 0) (q 0)
    & name_spelled (field_of 1 l) false (t 1) (q 1)
    & name_spelled (field_of 2 l) false (t 2) (q 2)
    & truth_spelled (field_of 3 l) (q 3)
    & empty_spelled (field_of 4 l) (q 4)
    & text_spelled (field_of 5 l) (t 5) (q 5)
    & text_spelled (field_of 6 l) (t 6) (q 6)
    & tt)

pub record NameRead (l : List ℕ) (p : Parameter) : Type 0 where
  pub count : field_count l ≡ 7
  pub pass : first (name_fields l) ≡ Ok tt
  pub name : field_of 0 l ≡ p.name
  pub mnemonic : field_of 1 l ≡ p.mnemonic
  pub identification : field_of 2 l ≡ p.identification
  pub identifier : identifier_in l ≡ p.identifier

pub name_read : (l : List ℕ) (p : Parameter) → 1 ≤ length p.name → TextLaw sheet_limits p.name → TextLaw sheet_limits p.mnemonic → TextLaw sheet_limits p.identification → Fields l (name_line p) → NameRead l p
name_read l p s a b d w =
    let r = fields_at l (name_line p) (omega arith) w in
    let i = truth_taken (field_of 3 l) p.identifier (r 3 (omega arith)) in
    record {
      count = fields_count l (name_line p) (omega arith) w;
      pass =
          all_first (name_fields l)
          (name_taken (field_of 0 l) true p.name a (λ e. s) (r 0 (omega arith))
          & name_taken (field_of 1 l) false p.mnemonic b (λ e. absurd (cc)) (r 1 (omega arith))
          & name_taken (field_of 2 l) false p.identification d (λ e. absurd (cc)) (r 2 (omega arith))
          & i.0
          & empty_taken (field_of 4 l) (r 4 (omega arith))
          & text_taken (field_of 5 l) (r 5 (omega arith))
          & text_taken (field_of 6 l) (r 6 (omega arith))
          & tt);
      name = (r 0 (omega arith)).0;
      mnemonic = (r 1 (omega arith)).0;
      identification = (r 2 (omega arith)).0;
      identifier = i.1;
    }

-- ---- a component line

pub component_told : (s : ℕ) (words bits : List ℕ) (l : List ℕ) → all_clean l ≡ true → field_count l ≡ 4 → first (component_fields s words bits l) ≡ Ok tt → Fields l (component_line (component_of l))
component_told s words bits l c n e =
    let q = first_none (component_fields s words bits l) e in
    all_fields l (component_line (component_of l)) (omega arith) n
    (declared_spelled (field_of 0 l) s (q 0)
    & declared_spelled (field_of 1 l) (declared_for words (subframe_in l)) (q 1)
    & integer_spelled (field_of 2 l) 6 0 most_of_six (q 2)
    & bits_spelled (field_of 3 l) (declared_for bits (subframe_in l)) (q 3)
    & tt)

-- inside what is declared
pub record Within (s : ℕ) (words bits : List ℕ) (c : Component) : Type 0 where
  pub some_home : 1 ≤ c.subframe
  pub home : c.subframe ≤ s
  pub some_word : 1 ≤ c.word
  pub word : c.word ≤ declared_for words c.subframe
  pub some_bit : 1 ≤ c.low
  pub rising : c.low ≤ c.high
  pub bit : c.high ≤ declared_for bits c.subframe

pub record ComponentRead (s : ℕ) (words bits : List ℕ) (l : List ℕ) (c : Component) : Type 0 where
  pub count : field_count l ≡ 4
  pub pass : first (component_fields s words bits l) ≡ Ok tt
  pub says : component_of l ≡ c

-- a component of the same numbers is the same
same_component : (c : Component) (p q a b o : ℕ) → p ≡ c.subframe → q ≡ c.word → a ≡ c.low → b ≡ c.high → o ≡ c.overlap
    → record { subframe = p; word = q; low = a; high = b; overlap = o } ≡ c
same_component c p q a b o i j k m n = rw (i, j, k, m, n) refl

pub component_read : (s : ℕ) (words bits : List ℕ) (l : List ℕ) (c : Component) → Within s words bits c → Fields l (component_line c) → ComponentRead s words bits l c
component_read s words bits l c h w =
    let r = fields_at l (component_line c) (omega arith) w in
    let a = declared_taken (field_of 0 l) s c.subframe h.some_home h.home (r 0 (omega arith)) in
    let i : subframe_in l ≡ c.subframe = a.1 in
    let b = declared_taken (field_of 1 l) (declared_for words (subframe_in l)) c.word h.some_word (rw i h.word) (r 1 (omega arith)) in
    let o = six_taken (field_of 2 l) c.overlap (r 2 (omega arith)) in
    let d = bits_taken (field_of 3 l) (declared_for bits (subframe_in l)) c.low c.high h.some_bit h.rising (rw i h.bit) (r 3 (omega arith)) in
    record {
      count = fields_count l (component_line c) (omega arith) w;
      pass = all_first (component_fields s words bits l) (a.0 & b.0 & o.0 & d.0 & tt);
      says = same_component c _ _ _ _ _ i b.1 d.1 d.2 o.1;
    }

-- ---- a time line

pub time_told : (l : List ℕ) → all_clean l ≡ true → field_count l ≡ 1 → first (time_fields l) ≡ Ok tt → Fields l (time (time_in l) ∷ [])
time_told l c n e =
    all_fields l (time (time_in l) ∷ []) (omega arith) n (time_spelled (field_of 0 l) (first_none (time_fields l) e 0) & tt)

pub record TimeRead (l : List ℕ) (v : ℕ) : Type 0 where
  pub count : field_count l ≡ 1
  pub pass : first (time_fields l) ≡ Ok tt
  pub says : time_in l ≡ v

-- no decimal is empty
decimal_some : (f : List ℕ) (v : ℕ) → IsDecimal 3 f v → 1 ≤ length f
decimal_some f v (inl w) = w.digits.some
decimal_some f v (inr p) = rw p.digits.written (omega (arith, length-append p.before (point ∷ p.after)))

pub time_read : (l : List ℕ) (v : ℕ) → Fields l (time v ∷ []) → TimeRead l v
time_read l v w =
    let t = time_taken (field_of 0 l) v (fields_at l (time v ∷ []) (omega arith) w 0 (omega arith)) in
    record {
      count = one_count l (time v) w (decimal_some w.field v w.spelled);
      pass = all_first (time_fields l) (t.0 & tt);
      says = t.1;
    }
