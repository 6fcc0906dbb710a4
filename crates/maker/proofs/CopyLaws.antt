-- Equal entries written one after the other. Assumes nothing.
use Prim.Native.Nat.{ℕ, ◌+◌, ◌*◌, ◌≤◌, ◌<◌}
use mathlib.Core.Path.{◌≡◌, ap}
use mathlib.Core.List.{List}
use native.Mathlib.Omega.{arith}
use native.Mathlib.Numerals.{add-one}
use lib.ListN.{length}
use Rattle.lay.specs.Bytes.{put}
use Rattle.lay.proofs.Layouts.{times_ends}
use Rattle.lay.proofs.Puts.{put_then}
use Rattle.model.specs.Content.{Subframe}
use Rattle.model.specs.Items.{subframe_part}
use Rattle.model.specs.Write.{subframe_values}
use Rattle.stored.specs.Shapes.{subframe_shape}
use Rattle.stored.specs.declared.forms.SubframeShape.{SubframeShape}
use Rattle.laying.specs.Parts.{new_layout, size, entry, copied}
use Rattle.laying.proofs.Lengths.{entry_long, copied_long}

-- by the entry's size that the code has
module _ (start first i n : ℕ) (s : SubframeShape) (e : s ≡ subframe_shape new_layout) (l : i < n) where
  wide : s.size ≡ size subframe_part
  wide = ap (λ (s : SubframeShape). s.size) e

  -- room for entry i of n
  pub copy_room : (m : ℕ) → start + size subframe_part * first + size subframe_part * n ≤ m → start + s.size * first + s.size * i + size subframe_part ≤ m
  copy_room m h = rw wide (omega (arith, times_ends (size subframe_part) i n l))

  -- one more
  pub copies_more : (out mid after : List ℕ) (f : Subframe) → start + size subframe_part * first + size subframe_part * n ≤ length out
      → mid ≡ put out (start + s.size * first) (copied i f)
      → after ≡ put mid (start + s.size * first + s.size * i) (entry subframe_part (subframe_values f))
      → after ≡ put out (start + s.size * first) (copied (i + 1) f)
  copies_more out mid after f h p q =
      let r = copy_room (length out) h in
      let c = copied_long i f in
      let w = entry_long subframe_part (subframe_values f) in
      let k : s.size * i ≡ size subframe_part * i = ap (λ (z : ℕ). z * i) wide in
      rw (add-one i) (put_then out mid after (start + s.size * first) (copied i f) (entry subframe_part (subframe_values f)) (start + s.size * first + s.size * i) p q (omega arith) (omega arith))
