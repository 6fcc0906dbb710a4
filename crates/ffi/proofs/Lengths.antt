-- A table's length loses nothing in 32 bits: few of each item, and each is short. Assumes nothing.
use mathlib.Core.Path.{◌≡◌, refl}
use mathlib.Core.Bool.{Bool, true, false, cond}
use mathlib.Core.List.{List}
use Prim.Native.Nat.{ℕ, ◌<◌}
use native.Mathlib.Omega.{arith}
use lib.Dec.{leb}
use lib.ListN.{length}
use Rattle.text.specs.declared.refusal.Refusal.TheVariants.{TableTooSmall}
use Rattle.model.specs.Content.{Content}
use Rattle.model.specs.Forms.{newest}
use Rattle.model.specs.Write.{write}
use Rattle.gather.specs.Ruling.{Ruling, Accepted, Refused, judge_of}
use Rattle.maker.specs.Made.{made_of, unmade}
use Rattle.maker.proofs.Makings.{written_fits}
use Rattle.ffi.specs.Sizes.{LengthFits}
use Rattle.std.specs.Prelude.{Ok}

pub length_fits : (s : List ℕ) (lent : ℕ) → LengthFits (made_of (judge_of s) lent)
length_fits s lent = record { each = λ n e. go n (judge_of s) refl e }
  where
    room : (n : ℕ) (c : Content) (b : Bool) → judge_of s ≡ Accepted c → cond b (Ok (length (write newest c))) (unmade TableTooSmall 0) ≡ Ok n → n < 4294967296
    room n c true p q = let h : length (write newest c) ≡ n = cc in omega (arith, h, written_fits s c p)
    room n c false p q = let z : ◌≡◌ {A = ℕ} 0 1 = cc in absurd (omega arith)

    go : (n : ℕ) (r : Ruling) → judge_of s ≡ r → made_of r lent ≡ Ok n → n < 4294967296
    go n (Accepted c) p q = room n c (leb (length (write newest c)) lent) p q
    go n (Refused r l) p q = let z : ◌≡◌ {A = ℕ} 0 1 = cc in absurd (omega arith)
