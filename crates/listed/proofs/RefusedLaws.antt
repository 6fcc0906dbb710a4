-- The parts of a refusal's line, one after the other. Assumes nothing.
use mathlib.Core.Path.{◌≡◌}
use mathlib.Core.List.{List, [], ◌∷◌, ◌++◌}
use Prim.Native.Nat.{ℕ, ◌+◌, ◌≤◌}
use native.Mathlib.Omega.{arith}
use lib.ListN.{length}
use Rattle.io.specs.Counts.{IsPrefixLen}
use Rattle.lay.specs.Bytes.{put}
use Rattle.lay.specs.Quoted.{quoted}
use Rattle.listed.specs.Decimals.{decimal_text}
use Rattle.listed.specs.Lines.{end_byte}
use Rattle.listed.specs.Listing.{refused_text}
use Rattle.listed.proofs.LineLaws.{Step, Room, part_step, room_start, room_step, field_short, front_counts}

abbrev refused : List ℕ
refused = quoted "refused"

module _ (out : List ℕ) (h : 50 ≤ length out) (m1 : List ℕ) (a : ℕ) (s1 : Step out 0 (refused ++ (32 ∷ [])) a m1) where
  room_1 : Room out a m1 8
  room_1 = room_step out out m1 (refused ++ (32 ∷ [])) 0 a 0 8 (room_start out 0) (omega arith) (omega (arith, h)) s1

  module _ (n : ℕ) (m2 : List ℕ) (b : ℕ) (s2 : Step m1 a (decimal_text n ++ (32 ∷ [])) b m2) where
    room_2 : Room out b m2 29
    room_2 = room_step out m1 m2 (decimal_text n ++ (32 ∷ [])) a b 8 21 room_1 (field_short n 32) (omega (arith, h)) s2

    pub refused_room : b + 21 ≤ length m2
    refused_room = omega (arith, h, room_2.long, room_2.here)

    module _ (l : ℕ) (m3 : List ℕ) (e : ℕ) (s3 : Step m2 b (decimal_text l ++ (end_byte ∷ [])) e m3) where
      step : Step out 0 (refused_text n l) e m3
      unfolding refused_text
      step =
          let k = field_short l end_byte in
          let t = part_step m1 m2 m3 (decimal_text n) (decimal_text l ++ (end_byte ∷ [])) a b e 32 s2 s3 (omega (arith, h, room_1.long, room_2.here, k)) in
          part_step out m1 m3 refused (decimal_text n ++ (32 ∷ (decimal_text l ++ (end_byte ∷ [])))) 0 a e 32 s1 t (omega (arith, t.0, s3.0, room_2.here, k, h))

      pub refused_put : ((e ≡ length (refused_text n l)) × (m3 ≡ put out 0 (refused_text n l))) × IsPrefixLen e m3
      refused_put =
          let k = field_short l end_byte in
          let r : e ≡ length (refused_text n l) = omega (arith, step.0) in
          ((r, step.1), front_counts out m3 (refused_text n l) e r step.1 (omega (arith, r, s3.0, room_2.here, k, h)))
