-- The listed sample's components take the value.
use mathlib.Core.Path.{ap, ◌∙◌}
use mathlib.Core.List.{List}
use Prim.Native.Nat.{ℕ, ◌+◌}
use native.Mathlib.Omega.{arith}
use Rattle.sample.specs.declared.component.Component.{Component as Piece}
use Rattle.sample.specs.Placing.{place}
use Rattle.framing.proofs.Listed.{listed_at, here_at, law_at, pieces_here, pieces_listed, within}
use Rattle.frame.proofs.place.place_in.Goals as goal

pub overflow_add-e : goal.overflow_add-e
overflow_add-e c =
    omega (arith, c.parameter_at-e.ensures, c.requires.j_bound)

pub pieces_at-cs-requires : goal.pieces_at-cs-requires
pieces_at-cs-requires c =
    let t = c.args.b.now.ruled.declared.table.bytes.now in
    let e = c.parameter_at-e.ensures in
    let m = listed_at t c.args.i c.args.j c.args.b.now.ruled.ruled c.requires.i_bound c.requires.j_bound in
    let q = ap (λ (f : ℕ). f + c.args.j) e.first_is in
    record { sample_here = here_at t _ _ m q; bases_of = c.args.b.now.bases_of; pieces_here = pieces_here t _ _ m q }

pub place_all-requires : goal.place_all-requires
place_all-requires c =
    let t = c.args.b.now.ruled.declared.table.bytes.now in
    let i = c.args.i in
    let j = c.args.j in
    let e = c.parameter_at-e.ensures in
    let m = listed_at t i j c.args.b.now.ruled.ruled c.requires.i_bound c.requires.j_bound in
    let p = c.pieces_at-cs.ensures in
    let q = ap (λ (f : ℕ). f + j) e.first_is in
    record { few = p.few; fit = rw p.is (within t c.args.words.now _ c.args.b.now.ruled.ruled (law_at t i j m q) c.requires.words_len) }

pub returns : goal.returns
returns c =
    let t = c.args.b.now.ruled.declared.table.bytes.now in
    let i = c.args.i in
    let j = c.args.j in
    let e = c.parameter_at-e.ensures in
    let m = listed_at t i j c.args.b.now.ruled.ruled c.requires.i_bound c.requires.j_bound in
    let q = ap (λ (f : ℕ). f + j) e.first_is in
    c.place_all.ensures ∙ ap (λ (l : List Piece). place c.args.words.now l c.args.value) (c.pieces_at-cs.ensures.is ∙ pieces_listed t i j m q)
