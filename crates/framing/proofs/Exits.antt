-- What goes out at `?` where nothing was there. Assumes nothing.
use mathlib.Core.Path.{◌≡◌, ap, ◌∙◌}
use Rattle.std.specs.Prelude.{Option, Some, None, Result, Err, ok_or, IsErrAnd}
use Rattle.std.proofs.lemmas.Result.{err_from_is_err_and}

-- `o.ok_or(e)?` that goes out goes out with e
pub none_out : {A T E : Type 0} (o : Option A) (r : Result T E) {y e : E} → IsErrAnd r (λ x. x ≡ y) → ◌≡◌ {A = Result A E} (Err y) (ok_or o e) → r ≡ Err e
none_out (Some x) r h v = absurd (cc)
none_out None r {y} {e} h v =
    let q = err_from_is_err_and r h in
    let w : y ≡ e = cc in
    q.1 ∙ ap Err (q.2 ∙ w)
