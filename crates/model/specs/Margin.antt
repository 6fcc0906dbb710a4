-- A subframe's leading or trailing bits: how many they are, or that nobody said. The standard, 2.2: "Should be left blank
-- if unknown."; 02, request 2: "Blank margins are not zero."
use Rattle.std.specs.Prelude.{ℕ, Bool, true, false, cond, eqb}

pub data Margin : Type 0 where
  Known : ℕ → Margin
  Unknown : Margin

abbrev pub is_known : Margin → Bool
is_known (Known n) = true
is_known Unknown = false

-- how many bits of a card it takes. Of an unknown margin nobody can tell: no card is read by one (26)
abbrev pub margin_bits : Margin → ℕ
margin_bits (Known n) = n
margin_bits Unknown = 0

-- ---- as a number: "Blank is now stored as 65,535 .. and may stand in either margin"

abbrev pub blank_margin : ℕ
blank_margin = 65535

abbrev pub margin_number : Margin → ℕ
margin_number (Known n) = n
margin_number Unknown = blank_margin

-- and back
unfoldable pub margin_as : ℕ → Margin
margin_as n = cond (eqb n blank_margin) Unknown (Known n)
