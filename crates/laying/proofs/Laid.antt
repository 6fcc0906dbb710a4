-- A line's share, written at the end of its part, is what the next Book lays down. Assumes nothing.
use mathlib.Core.Path.{◌≡◌, ap, ◌∙◌}
use mathlib.Core.List.{List, ◌++◌}
use Prim.Native.Nat.{ℕ, ◌+◌, ◌≤◌}
use native.Mathlib.Omega.{arith}
use lib.ListN.{length}
use Rattle.lay.specs.Bytes.{put}
use Rattle.lay.proofs.Puts.{length_put, put_put, put_comm}

abbrev pub five : List ℕ → ℕ → List ℕ → ℕ → List ℕ → ℕ → List ℕ → ℕ → List ℕ → ℕ → List ℕ → List ℕ
five out a u b v c w d x e y = put (put (put (put (put out a u) b v) c w) d x) e y

-- a share at the end of one of five parts, which lie one after the other
module _ (out : List ℕ) (a b c d e : ℕ) (u v w x y : List ℕ) where
  module _ (h1 : a + length u ≤ b) (h2 : b + length v ≤ c) (h3 : c + length w ≤ d) (h4 : d + length x ≤ e) (h5 : e + length y ≤ length out) where
    long_1 : length (put out a u) ≡ length out
    long_1 = length_put out a u (omega arith)

    long_2 : length (put (put out a u) b v) ≡ length out
    long_2 = length_put (put out a u) b v (omega (arith, long_1)) ∙ long_1

    long_3 : length (put (put (put out a u) b v) c w) ≡ length out
    long_3 = length_put (put (put out a u) b v) c w (omega (arith, long_2)) ∙ long_2

    long_4 : length (put (put (put (put out a u) b v) c w) d x) ≡ length out
    long_4 = length_put (put (put (put out a u) b v) c w) d x (omega (arith, long_3)) ∙ long_3

    pub last_grows : (z : List ℕ) (o : ℕ) → o ≡ e + length y → o + length z ≤ length out → put (five out a u b v c w d x e y) o z ≡ put (put (put (put (put out a u) b v) c w) d x) e (y ++ z)
    last_grows z o p q = put_put (put (put (put (put out a u) b v) c w) d x) e y z o p (omega (arith, long_4))

    pub fourth_grows : (z : List ℕ) (o : ℕ) → o ≡ d + length x → o + length z ≤ e → put (five out a u b v c w d x e y) o z ≡ put (put (put (put (put out a u) b v) c w) d (x ++ z)) e y
    fourth_grows z o p q =
        put_comm (put (put (put (put out a u) b v) c w) d x) o z e y q (omega (arith, long_4))
        ∙ ap (λ (t : List ℕ). put t e y) (put_put (put (put (put out a u) b v) c w) d x z o p (omega (arith, long_3)))

    pub third_grows : (z : List ℕ) (o : ℕ) → o ≡ c + length w → o + length z ≤ d → put (five out a u b v c w d x e y) o z ≡ put (put (put (put (put out a u) b v) c (w ++ z)) d x) e y
    third_grows z o p q =
        put_comm (put (put (put (put out a u) b v) c w) d x) o z e y (omega arith) (omega (arith, long_4))
        ∙ ap (λ (t : List ℕ). put t e y)
        (put_comm (put (put (put out a u) b v) c w) o z d x q (omega (arith, long_3))
        ∙ ap (λ (t : List ℕ). put t d x) (put_put (put (put out a u) b v) c w z o p (omega (arith, long_2))))

    pub second_grows : (z : List ℕ) (o : ℕ) → o ≡ b + length v → o + length z ≤ c → put (five out a u b v c w d x e y) o z ≡ put (put (put (put (put out a u) b (v ++ z)) c w) d x) e y
    second_grows z o p q =
        put_comm (put (put (put (put out a u) b v) c w) d x) o z e y (omega arith) (omega (arith, long_4))
        ∙ ap (λ (t : List ℕ). put t e y)
        (put_comm (put (put (put out a u) b v) c w) o z d x (omega arith) (omega (arith, long_3))
        ∙ ap (λ (t : List ℕ). put t d x)
        (put_comm (put (put out a u) b v) o z c w q (omega (arith, long_2))
        ∙ ap (λ (t : List ℕ). put t c w) (put_put (put out a u) b v z o p (omega (arith, long_1)))))

    pub first_grows : (z : List ℕ) (o : ℕ) → o ≡ a + length u → o + length z ≤ b → put (five out a u b v c w d x e y) o z ≡ put (put (put (put (put out a (u ++ z)) b v) c w) d x) e y
    first_grows z o p q =
        put_comm (put (put (put (put out a u) b v) c w) d x) o z e y (omega arith) (omega (arith, long_4))
        ∙ ap (λ (t : List ℕ). put t e y)
        (put_comm (put (put (put out a u) b v) c w) o z d x (omega arith) (omega (arith, long_3))
        ∙ ap (λ (t : List ℕ). put t d x)
        (put_comm (put (put out a u) b v) o z c w (omega arith) (omega (arith, long_2))
        ∙ ap (λ (t : List ℕ). put t c w)
        (put_comm (put out a u) o z b v q (omega (arith, long_1))
        ∙ ap (λ (t : List ℕ). put t b v) (put_put out a u z o p (omega arith)))))
