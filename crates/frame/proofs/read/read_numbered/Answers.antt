-- A listed sample is read; any other is refused with its reason.
use mathlib.Core.Path.{◌≡◌, sym, ap, ◌∙◌}
use mathlib.Core.List.{List}
use Prim.Native.Nat.{ℕ}
use Rattle.std.specs.Prelude.{Ok}
use Rattle.std.proofs.lemmas.Result.{err_from_is_err_and}
use Rattle.model.specs.View.{view}
use Rattle.framing.specs.Fitting.{Fit, fit_of}
use Rattle.framing.specs.Wanted.{Wanted, wanted_by, wanted_in}
use Rattle.framing.specs.Reading.{read_for}
use Rattle.framing.proofs.WantCases.{wanted_found}
use Rattle.frame.proofs.read.read_numbered.Goals as goal

-- what was wanted, of the frame itself
sought : (b f : List ℕ) (p s : ℕ) {d : Fit} {w : Wanted} → d ≡ fit_of (view b) f → w ≡ wanted_by (view b) d p s → w ≡ wanted_in (view b) f p s
sought b f p s e h = h ∙ ap (λ (x : Fit). wanted_by (view b) x p s) e

pub invariant_of-sample_in : goal.invariant_of-sample_in
invariant_of-sample_in c = record { words_len = (wanted_found _ _ _ _ _ _ (sym (sought _ _ _ _ c.requires.fit_value c.in_ok-i.ensures))).long }

pub sample_in-requires : goal.sample_in-requires
sample_in-requires c =
    let h = wanted_found _ _ _ _ _ _ (sym (sought _ _ _ _ c.requires.fit_value c.in_ok-i.ensures)) in
    record { i_bound = h.parameter; j_bound = h.sample }

pub returns : goal.returns
unfolding read_for
returns c = ap Ok c.sample_in.ensures ∙ ap (read_for _ _) (sought _ _ _ _ c.requires.fit_value c.in_ok-i.ensures)

pub returns-in_err-i : goal.returns-in_err-i
unfolding read_for
returns-in_err-i c =
    let q = err_from_is_err_and c.from_residual.result c.from_residual.ensures.1 in
    rw (q.1, q.2) (ap (read_for _ _) (sought _ _ _ _ c.requires.fit_value c.in_err-i.ensures))
