use mathlib.Core.Path.{refl}
use Rattle.listed.proofs.LineLaws.{put_ended}
use Rattle.listed.proofs.rows.put_part.Goals as goal

pub returns : goal.returns
returns c = put_ended _ _ _ _ _ _ _ c.put_text.ensures refl refl c.requires
