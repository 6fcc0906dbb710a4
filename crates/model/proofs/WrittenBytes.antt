-- The writing of lawful Content is made of bytes. Assumes nothing.
use mathlib.Core.Path.{◌≡◌}
use mathlib.Core.Bool.{true}
use mathlib.Core.List.{List, [], ◌∷◌, ◌++◌}
use Prim.Native.Nat.{ℕ, zero, suc, ◌/◌, ◌<◌}
use native.Mathlib.Decide.{dec_lt}
use native.Mathlib.Omega.{arith}
use lib.ListN.{length, get_or}
use Rattle.lay.specs.Below.{flat}
use Rattle.lay.specs.Bytes.{bytes_of, AreBytes}
use Rattle.lay.specs.Fields.{Field, field_bytes}
use Rattle.lay.specs.Slots.{Slot, fields_by, entry_bytes}
use Rattle.lay.specs.Layout.{Layout, Numbers, slots_of, many_parts, counts, row_bytes, laid}
use Rattle.model.specs.Content.{Content, parameters}
use Rattle.model.specs.Limits.{Limits}
use Rattle.model.specs.Forms.{layout_of}
use Rattle.model.specs.Lawful.{lawful}
use Rattle.model.specs.Meaning.{TextLaw}
use Rattle.model.specs.Write.{texts, numbers_of, write}
use Rattle.model.proofs.Meanings.{lawful_law}

record Bytes (x : List ℕ) : Type 0 where
  each : AreBytes x

none : AreBytes []
none zero = omega arith
none (suc i) = omega arith

joined : (x y : List ℕ) → AreBytes x → AreBytes y → AreBytes (x ++ y)
joined [] y h k i = k i
joined (b ∷ x) y h k zero = h 0
joined (b ∷ x) y h k (suc i) = joined x y (λ j. h (suc j)) k i

bytes_join : {x y : List ℕ} → Bytes x → Bytes y → Bytes (x ++ y)
bytes_join {x} {y} h k = record { each = joined x y h.each k.each }

digits : (w n : ℕ) → AreBytes (bytes_of w n)
digits zero n i = none i
digits (suc w) n zero = omega arith
digits (suc w) n (suc i) = digits w (n / 256) i

number_bytes : (w n : ℕ) → Bytes (bytes_of w n)
number_bytes w n = record { each = digits w n }

field_bytes_lem : (fs : List Field) → Bytes (field_bytes fs)
field_bytes_lem [] = record { each = none }
field_bytes_lem (f ∷ fs) = bytes_join (number_bytes f.wide f.value) (field_bytes_lem fs)

row_bytes_lem : (n : ℕ) (f : ℕ → List ℕ) → ((i : ℕ) → i < n → Bytes (f i)) → Bytes (flat n f)
row_bytes_lem zero f h = record { each = none }
row_bytes_lem (suc n) f h = bytes_join (row_bytes_lem n f (λ i l. h i (omega arith))) (h n (omega arith))

beyond : (l : List ℕ) (k : ℕ) → length l < suc k → get_or l k 0 < 256
beyond [] k g = none k
beyond (x ∷ l) zero g = absurd (omega arith)
beyond (x ∷ l) (suc k) g = beyond l k (omega arith)

-- bytes 32 to 126
text_bytes_lem : (lim : Limits) (t : List ℕ) → TextLaw lim t → Bytes t
text_bytes_lem lim t h = record { each = λ i. go i (dec_lt i (length t)) }
  where
    go : (i : ℕ) → Dec (i < length t) → get_or t i 0 < 256
    go i (yes l) = let m = (h.each i l).most in omega arith
    go i (no n) = beyond t i (omega arith)

entry_bytes_lem : (ss : List Slot) (v : ℕ → ℕ) → Bytes (entry_bytes ss v)
unfolding entry_bytes
entry_bytes_lem ss v = field_bytes_lem (fields_by ss v)

laid_bytes : (L : Layout) (N : Numbers) → Bytes (laid L N)
unfolding laid row_bytes
laid_bytes L N =
    bytes_join (entry_bytes_lem L.header N.head)
    (row_bytes_lem (many_parts L) _ (λ p l. row_bytes_lem (counts N p) _ (λ i m. entry_bytes_lem (slots_of L p) (N.item p i))))

pub write_bytes : (lim : Limits) (form : ℕ) (c : Content) → lawful lim c ≡ true → AreBytes (write form c)
unfolding write texts
write_bytes lim form c h =
    let r = lawful_law lim c h in
    (bytes_join (laid_bytes (layout_of form) (numbers_of (layout_of form) form c))
    (row_bytes_lem (parameters c) _
    (λ i l.
    let p = r.each_parameter i l in
    bytes_join (text_bytes_lem lim _ p.name) (bytes_join (text_bytes_lem lim _ p.mnemonic) (text_bytes_lem lim _ p.identification))))).each
