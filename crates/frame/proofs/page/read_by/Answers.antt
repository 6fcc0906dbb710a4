-- What was found once serves each read: it answers what a read by the bytes alone would.
use mathlib.Core.Path.{sym, ap, ap₂, ◌∙◌}
use mathlib.Core.List.{List}
use Prim.Native.Nat.{ℕ}
use Rattle.model.specs.View.{view}
use Rattle.framing.specs.Wanted.{wanted_in}
use Rattle.framing.specs.Reading.{read_for, read_of}
use Rattle.framing.proofs.WantCases.{want_no_table, want_table}
use Rattle.frame.specs.Page.{Opened}
use Rattle.frame.proofs.page.read_by.Goals as goal

pub read_numbered-requires : goal.read_numbered-requires
read_numbered-requires c = record { fit_value = c.in-Some.p.fit_value }

pub returns-in-Some : goal.returns-in-Some
unfolding read_of
returns-in-Some c t w g =
    let h : Opened t w c.in-Some.p = rw c.in-Some.is at g in
    c.read_numbered.ensures
    ∙ ap₂ (λ (x y : List ℕ). read_for (view x) y (wanted_in (view x) y c.args.parameter c.args.sample)) h.bytes h.words
    ∙ sym (ap (read_for _ _) (want_table _ _ _ _ h.accepted))

pub returns-in-None : goal.returns-in-None
unfolding read_of read_for
returns-in-None c t w g =
    let h = rw c.in-None.is at g in
    sym (ap (read_for _ _) (want_no_table _ _ _ _ h))
