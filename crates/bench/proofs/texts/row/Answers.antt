-- A row for what is read, whether its copies agree or not; none for a refusal.
use borrow.Author.Rules.{rules}
use mir.Syntax.{w64}
use mir.ValLaws.{to_z-of_z}
use mathlib.Core.Path.{◌≡◌, refl, sym, ap, ◌∙◌}
use Rattle.std.specs.Prelude.{Ok}
use Rattle.framing.specs.declared.read.Reading.{Reading}
use Rattle.framing.specs.declared.read.Reading.TheVariants.{Sample, OverlapDiffers}
use Rattle.bench.specs.Texts.{row_of}
use Rattle.listed.proofs.RowSteps.{row_back}
use Rattle.bench.proofs.TextLaws.{fills_none, row_fills, row_none}
use Rattle.bench.proofs.texts.row.Goals as goal

pub returns-then-out-lt-ROW : goal.returns-then-out-lt-ROW
returns-then-out-lt-ROW c = fills_none _ _ _ c.if-out-lt-ROW.true

pub put_named-requires : goal.put_named-requires
put_named-requires c = c.if-out-lt-ROW.false

pub put_named-requires-in-Ok-OverlapDiffers : goal.put_named-requires-in-Ok-OverlapDiffers
put_named-requires-in-Ok-OverlapDiffers c = c.if-out-lt-ROW.false

pub returns-in-Ok-Sample : goal.returns-in-Ok-Sample
unfolding row_of
returns-in-Ok-Sample c =
    let s = c.in-Ok-Sample in
    let x : s.field-0 ≡ Sample s.raw s.width s.value = cc in
    row_fills c.args.t.now c.args.words.now _ _ c.args.parameter _ _ _ _ _ _ c.if-out-lt-ROW.false (sym c.read.ensures ∙ s.is ∙ ap (λ (r : Reading). Ok r) x) refl
    (row_back _ _ _ _ _ _ _ _ _ _ (to_z-of_z w64 _ (search rules)) c.put_named.ensures)

pub returns-in-Ok-OverlapDiffers : goal.returns-in-Ok-OverlapDiffers
unfolding row_of
returns-in-Ok-OverlapDiffers c =
    let s = c.in-Ok-OverlapDiffers in
    let x : s.field-0 ≡ OverlapDiffers s.raw s.width s.value = cc in
    row_fills c.args.t.now c.args.words.now _ _ c.args.parameter _ _ _ _ _ _ c.if-out-lt-ROW.false (sym c.read.ensures ∙ s.is ∙ ap (λ (r : Reading). Ok r) x) refl
    (row_back _ _ _ _ _ _ _ _ _ _ (to_z-of_z w64 _ (search rules)) c.put_named-in-Ok-OverlapDiffers.ensures)

pub returns-in-Err : goal.returns-in-Err
returns-in-Err c = row_none _ _ _ _ _ _ c.if-out-lt-ROW.false (sym c.read.ensures ∙ c.in-Err.is)
