-- The number of a differing subframe loses nothing in 32 bits: a table has few subframes. Assumes nothing.
use mathlib.Core.Path.{◌≡◌, refl}
use mathlib.Core.Bool.{Bool, true, false, cond}
use mathlib.Core.List.{List}
use Prim.Native.Nat.{ℕ, ◌+◌, ◌<◌}
use native.Mathlib.Omega.{arith}
use borrow.Author.Tests.{ltb-true}
use lib.Dec.{ltb}
use Rattle.lay.specs.Below.{find}
use Rattle.model.specs.Accepts.{accepts}
use Rattle.model.specs.Content.{subframes}
use Rattle.model.specs.View.{view}
use Rattle.model.proofs.Laying.{accepted_laid}
use Rattle.model.proofs.Views.{subframes_view}
use Rattle.framing.specs.Fitting.{fit_of}
use Rattle.framing.specs.Comparing.{Compared, differs_in, compared_in, fitted_compared, compared_of}
use Rattle.table.specs.declared.reason.Reason.TheVariants.{NoTable}
use Rattle.ffi.specs.Sizes.{SubframeFits}
use Rattle.std.specs.Prelude.{Ok, Err, Some, None}
use Rattle.framing.specs.Fitting.{Fit}

module _ (b f : List ℕ) where
  -- the first differing subframe, counted from 0
  abbrev first : ℕ
  first = find (subframes (view b)) (λ s. differs_in (view b) f (s + 1))

  found : (s : ℕ) (t : Bool) → accepts b ≡ true → ltb first (subframes (view b)) ≡ t → ◌≡◌ {A = Compared} (cond t (Ok (Some (first + 1))) (Ok None)) (Ok (Some s)) → s < 4294967296
  found s true a t e =
      let h : first + 1 ≡ s = cc in
      omega (arith, h, ltb-true first (subframes (view b)) t, subframes_view b, (accepted_laid b a).head.sized.few_subframes)
  found s false a t e = let z : ◌≡◌ {A = ℕ} 0 1 = cc in absurd (omega arith)

  fitted : (s : ℕ) (d : Fit) → accepts b ≡ true → fitted_compared d (compared_in (view b) f) ≡ Ok (Some s) → s < 4294967296
  unfolding fitted_compared compared_in
  fitted s (Ok _) a e = found s (ltb first (subframes (view b))) a refl e
  fitted s (Err q) a e = let z : ◌≡◌ {A = ℕ} 0 1 = cc in absurd (omega arith)

  compared : (s : ℕ) (t : Bool) → accepts b ≡ t → cond t (fitted_compared (fit_of (view b) f) (compared_in (view b) f)) (Err NoTable) ≡ Ok (Some s) → s < 4294967296
  compared s true a e = fitted s (fit_of (view b) f) a e
  compared s false a e = let z : ◌≡◌ {A = ℕ} 0 1 = cc in absurd (omega arith)

  pub subframe_fits_lem : SubframeFits (compared_of b f)
  unfolding compared_of
  subframe_fits_lem = record { each = λ s e. compared s (accepts b) refl e }
