-- The entry of the asked parameter says where its name stands, and how long it is.
use mathlib.Core.Path.{◌∙◌}
use native.Mathlib.Omega.{arith}
use Rattle.ffi.proofs.Names.{named_out, no_name_out_lem}
use borrow.Author.Rules.{rules}
use Rattle.ffi.proofs.tables.name_out.Goals as goal

pub parameter_at-e-requires : goal.parameter_at-e-requires
parameter_at-e-requires c = record { i_bound = (c.requires.asked_here.each _ c.in-Ok.is).here }

pub overflow_add-result : goal.overflow_add-result
overflow_add-result c = let l = c.args.t.now.opened_of.starts.text_below in let m = c.parameter_at-e.ensures in search rules

pub returns-in-Ok : goal.returns-in-Ok
returns-in-Ok c =
    let e = c.in-Ok.is in
    let t = c.args.t.now.opened_of.starts.text_is in
    let p = c.parameter_at-e.ensures in
    named_out _ _ _ _ _ e (c.requires.asked_here.each _ e) (omega (arith, t, p.start_is)) p.name_is

pub returns-in-Err : goal.returns-in-Err
returns-in-Err c = c.no_name.ensures ∙ no_name_out_lem _ _ _ c.in-Err.is
