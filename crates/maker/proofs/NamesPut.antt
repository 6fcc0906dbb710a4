-- Three texts written one after the other are one. Assumes nothing.
use mathlib.Core.Path.{◌≡◌, ap, ◌∙◌}
use mathlib.Core.List.{List, ◌++◌, append_assoc}
use Prim.Native.Nat.{ℕ, ◌+◌, ◌≤◌}
use native.Mathlib.Omega.{arith}
use lib.ListN.{length, length-append}
use Rattle.lay.specs.Bytes.{put}
use Rattle.lay.proofs.Puts.{put_put}

pub names_put : (out one two three : List ℕ) (o : ℕ) (a b c x y z : List ℕ) → x ≡ a → y ≡ b → z ≡ c
    → one ≡ put out o x → two ≡ put one (o + length x) y → three ≡ put two (o + length x + length y) z
    → o + length (a ++ (b ++ c)) ≤ length out → three ≡ put out o (a ++ (b ++ c))
names_put out one two three o a b c x y z p q r e f g h =
    let n = length-append a (b ++ c) in
    let m = length-append b c in
    let k = length-append a b in
    let lx = ap length p in
    let ly = ap length q in
    let s1 : one ≡ put out o a = e ∙ ap (put out o) p in
    let s2 : two ≡ put out o (a ++ b) = f ∙ (ap (λ (t : List ℕ). put t (o + length x) y) s1 ∙ (ap (put (put out o a) (o + length x)) q ∙ put_put out o a b (o + length x) (omega arith) (omega arith))) in
    g ∙ (ap (λ (t : List ℕ). put t (o + length x + length y) z) s2 ∙ (ap (put (put out o (a ++ b)) (o + length x + length y)) r ∙ (put_put out o (a ++ b) c (o + length x + length y) (omega arith) (omega arith) ∙ ap (put out o) (append_assoc a b c))))
