-- Not part of the meaning: an answer's number loses nothing in 32 bits.
use Rattle.std.specs.Prelude.{ℕ, ◌<◌, ◌≡◌, Ok, Some}
use Rattle.maker.specs.Made.{Made}
use Rattle.framing.specs.Comparing.{Compared}

pub record LengthFits (m : Made) : Type 0 where
  pub each : (n : ℕ) → m ≡ Ok n → n < 4294967296

pub record SubframeFits (c : Compared) : Type 0 where
  pub each : (s : ℕ) → c ≡ Ok (Some s) → s < 4294967296
