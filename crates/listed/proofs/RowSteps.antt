-- The five parts of a row, one after the other. Assumes nothing.
use mathlib.Core.Path.{◌≡◌, subst}
use mathlib.Core.List.{List, [], ◌∷◌, ◌++◌}
use Prim.Native.Nat.{ℕ, ◌+◌, ◌≤◌}
use native.Mathlib.Omega.{arith}
use lib.IntN.{ℤ}
use lib.ListN.{length}
use Rattle.listed.specs.Decimals.{decimal_text, value_text}
use Rattle.listed.specs.Lines.{comma, end_byte, row_text}
use Rattle.listed.proofs.LineLaws.{Step, Room, part_step, room_start, room_step, text_short, field_short, last_short}

module _ (out name : List ℕ) (o : ℕ) (h : o + length name + 86 ≤ length out) (m1 : List ℕ) (a : ℕ) (s1 : Step out o (name ++ (comma ∷ [])) a m1) where
  room_1 : Room out a m1 (o + (length name + 1))
  room_1 = room_step out out m1 (name ++ (comma ∷ [])) o a o (length name + 1) (room_start out o) (text_short name comma) (omega (arith, h)) s1

  pub fits_1 : a + 21 ≤ length m1
  fits_1 = omega (arith, h, room_1.long, room_1.here)

  module _ (sample : ℕ) (m2 : List ℕ) (b : ℕ) (s2 : Step m1 a (decimal_text sample ++ (comma ∷ [])) b m2) where
    room_2 : Room out b m2 (o + (length name + 1) + 21)
    room_2 = room_step out m1 m2 (decimal_text sample ++ (comma ∷ [])) a b (o + (length name + 1)) 21 room_1 (field_short sample comma) (omega (arith, h)) s2

    pub fits_2 : b + 21 ≤ length m2
    fits_2 = omega (arith, h, room_2.long, room_2.here)

    module _ (width : ℕ) (m3 : List ℕ) (c : ℕ) (s3 : Step m2 b (decimal_text width ++ (comma ∷ [])) c m3) where
      room_3 : Room out c m3 (o + (length name + 1) + 21 + 21)
      room_3 = room_step out m2 m3 (decimal_text width ++ (comma ∷ [])) b c (o + (length name + 1) + 21) 21 room_2 (field_short width comma) (omega (arith, h)) s3

      pub fits_3 : c + 21 ≤ length m3
      fits_3 = omega (arith, h, room_3.long, room_3.here)

      module _ (raw : ℕ) (m4 : List ℕ) (d : ℕ) (s4 : Step m3 c (decimal_text raw ++ (comma ∷ [])) d m4) where
        room_4 : Room out d m4 (o + (length name + 1) + 21 + 21 + 21)
        room_4 = room_step out m3 m4 (decimal_text raw ++ (comma ∷ [])) c d (o + (length name + 1) + 21 + 21) 21 room_3 (field_short raw comma) (omega (arith, h)) s4

        pub fits_4 : d + 22 ≤ length m4
        fits_4 = omega (arith, h, room_4.long, room_4.here)

        module _ (v : ℤ) (m5 : List ℕ) (e : ℕ) (s5 : Step m4 d (value_text v ++ (end_byte ∷ [])) e m5) where
          short_4 : length (value_text v ++ (end_byte ∷ [])) ≤ 22
          short_4 = last_short v end_byte

          step_4 : Step m3 c (decimal_text raw ++ (comma ∷ (value_text v ++ (end_byte ∷ [])))) e m5
          step_4 = part_step m3 m4 m5 (decimal_text raw) (value_text v ++ (end_byte ∷ [])) c d e comma s4 s5 (omega (arith, h, room_3.long, room_4.here, short_4))

          long_row : e ≤ length out
          long_row = omega (arith, h, s5.0, room_4.here, short_4)

          step_3 : Step m2 b (decimal_text width ++ (comma ∷ (decimal_text raw ++ (comma ∷ (value_text v ++ (end_byte ∷ [])))))) e m5
          step_3 = part_step m2 m3 m5 (decimal_text width) (decimal_text raw ++ (comma ∷ (value_text v ++ (end_byte ∷ [])))) b c e comma s3 step_4 (omega (arith, step_4.0, room_2.long, long_row))

          step_2 : Step m1 a (decimal_text sample ++ (comma ∷ (decimal_text width ++ (comma ∷ (decimal_text raw ++ (comma ∷ (value_text v ++ (end_byte ∷ [])))))))) e m5
          step_2 = part_step m1 m2 m5 (decimal_text sample) (decimal_text width ++ (comma ∷ (decimal_text raw ++ (comma ∷ (value_text v ++ (end_byte ∷ [])))))) a b e comma s2 step_3 (omega (arith, step_3.0, room_1.long, long_row))

          pub row_put : Step out o (row_text name sample width raw v) e m5
          unfolding row_text
          row_put = part_step out m1 m5 name (decimal_text sample ++ (comma ∷ (decimal_text width ++ (comma ∷ (decimal_text raw ++ (comma ∷ (value_text v ++ (end_byte ∷ [])))))))) o a e comma s1 step_2 (omega (arith, step_2.0, long_row))

-- the machine's value is the value
pub row_back : (out name after : List ℕ) (o sample width raw e : ℕ) (u v : ℤ) → u ≡ v → Step out o (row_text name sample width raw u) e after → Step out o (row_text name sample width raw v) e after
row_back out name after o sample width raw e u v p s = subst (λ (z : ℤ). Step out o (row_text name sample width raw z) e after) p s

pub last_back : (out after : List ℕ) (o e s : ℕ) (u v : ℤ) → u ≡ v → Step out o (value_text u ++ (s ∷ [])) e after → Step out o (value_text v ++ (s ∷ [])) e after
last_back out after o e s u v p t = subst (λ (z : ℤ). Step out o (value_text z ++ (s ∷ [])) e after) p t

-- and the row of a name is that of an equal one
pub row_named : (out after name own : List ℕ) (o e s w r : ℕ) (v z : ℤ) → v ≡ z → name ≡ own → Step out o (row_text name s w r v) e after → Step out o (row_text own s w r z) e after
row_named out after name own o e s w r v z x n t = subst (λ (y : ℤ). Step out o (row_text own s w r y) e after) x (subst (λ (y : List ℕ). Step out o (row_text y s w r v) e after) n t)
