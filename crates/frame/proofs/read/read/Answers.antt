-- 18, then what is read by the opened table.
use mathlib.Core.Path.{sym, ap, ◌∙◌}
use mathlib.Core.List.{List}
use Prim.Native.Nat.{ℕ}
use Rattle.std.specs.Prelude.{Some}
use Rattle.std.specs.Borrow.{Bor}
use Rattle.model.specs.View.{view}
use Rattle.framing.specs.Wanted.{wanted_in}
use Rattle.framing.specs.Reading.{read_for, read_of}
use Rattle.framing.proofs.Exits.{none_out}
use Rattle.framing.proofs.WantCases.{want_no_table, want_table}
use Rattle.table.proofs.Accepting.{opened_accepted, opened_not}
use Rattle.frame.proofs.read.read.Goals as goal

pub returns-in_err-r : goal.returns-in_err-r
unfolding read_of read_for
returns-in_err-r c =
    rw (none_out c.opening.result c.from_residual.result c.from_residual.ensures.1 c.in_err-r.ensures.value)
    (sym (ap (read_for _ _) (want_no_table _ _ _ _ (opened_not c.opening.ensures c.in_err-r.ensures.ok_part))))

pub read_numbered-requires : goal.read_numbered-requires
read_numbered-requires c = record { fit_value = c.fit_of.ensures }

pub returns : goal.returns
unfolding read_of
returns c =
    let e = c.in_ok-r.ensures.ok_part ∙ ap Some (sym c.based-b.ensures) in
    c.read_numbered.ensures
    ∙ ap (λ (x : Bor (List ℕ)). read_for (view x.now) c.args.words.now (wanted_in (view x.now) c.args.words.now c.args.parameter c.args.sample)) (c.opening.ensures.of _ e)
    ∙ sym (ap (read_for _ _) (want_table _ _ _ _ (opened_accepted c.opening.ensures e)))
