-- The sample is read, and its row put.
use mathlib.Core.Path.{refl, sym, ◌∙◌}
use Rattle.listed.proofs.RowSteps.{row_back}
use Rattle.listed.proofs.RowLaws.{value_back, read_row}
use Rattle.listed.proofs.listing.put_sample.Goals as goal

pub sample_in-requires : goal.sample_in-requires
sample_in-requires c = record { i_bound = c.requires.i_bound; j_bound = c.requires.j_bound }

pub put_read-requires : goal.put_read-requires
put_read-requires c = c.requires

pub put_read-requires-in-OverlapDiffers : goal.put_read-requires-in-OverlapDiffers
put_read-requires-in-OverlapDiffers c = c.requires

pub returns-in-Sample : goal.returns-in-Sample
returns-in-Sample c =
    let t = c.args.f.now.based.now.ruled.declared.table.bytes.now in
    let u = c.args.f.now.based.now.ruled.ruled in
    let l = c.requires.i_bound in
    let e = sym c.in-Sample.is ∙ c.sample_in.ensures in
    read_row t u c.args.i l _ _ _ _ _ _ _ _ _ _ _ e (refl, refl, refl) refl
    (row_back _ _ _ _ _ _ _ _ _ _ (value_back t u c.args.i l c.args.f.now.words.now c.args.j c.requires.j_bound _ _ e refl) c.put_read.ensures)

pub returns-in-OverlapDiffers : goal.returns-in-OverlapDiffers
returns-in-OverlapDiffers c =
    let t = c.args.f.now.based.now.ruled.declared.table.bytes.now in
    let u = c.args.f.now.based.now.ruled.ruled in
    let l = c.requires.i_bound in
    let e = sym c.in-OverlapDiffers.is ∙ c.sample_in.ensures in
    read_row t u c.args.i l _ _ _ _ _ _ _ _ _ _ _ e (refl, refl, refl) refl
    (row_back _ _ _ _ _ _ _ _ _ _ (value_back t u c.args.i l c.args.f.now.words.now c.args.j c.requires.j_bound _ _ e refl) c.put_read-in-OverlapDiffers.ensures)
