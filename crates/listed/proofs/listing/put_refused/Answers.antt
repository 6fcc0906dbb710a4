-- The word, the number, the line.
use Rattle.listed.proofs.RefusedLaws.{refused_room, refused_put}
use Rattle.listed.proofs.listing.put_refused.Goals as goal

pub put_field-requires : goal.put_field-requires
put_field-requires c = refused_room _ c.requires _ _ c.put_part-a.ensures _ _ _ c.put_field-b.ensures

pub returns : goal.returns
returns c = let p = (refused_put _ c.requires _ _ c.put_part-a.ensures _ _ _ c.put_field-b.ensures _ _ _ c.put_field.ensures) in record { value = p.0; prefix_len = p.1 }
