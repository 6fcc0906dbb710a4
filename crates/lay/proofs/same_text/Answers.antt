-- Two texts are the same where their lengths and all bytes are.
use Rattle.std.proofs.lemmas.Bool.Decides.{same_from_decides, Decides-eqb}
use Rattle.std.proofs.lemmas.Slice.Eq.{slice_eq-Decides}
use Rattle.lay.proofs.Bytes.{same_decides}
use Rattle.lay.proofs.same_text.Goals as goal

pub returns : goal.returns
returns c = same_from_decides _ _ (slice_eq-Decides Decides-eqb _ _ _ c.eq.ensures) (same_decides _ _)
