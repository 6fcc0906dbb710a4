-- The position, then the listing's row.
use Rattle.listed.proofs.CardLaws.{row_room, card_row_put}
use Rattle.listed.proofs.cards.put_card_row.Goals as goal

pub put_sample-requires : goal.put_sample-requires
put_sample-requires c =
    let s = c.requires in
    record { i_bound = s.i_bound; j_bound = s.j_bound; row_most_in_bounds = row_room c.args.f.now.based.now.ruled.declared.table.bytes.now c.args.f.now.based.now.ruled.ruled c.args.i s.i_bound c.args.f.now.words.now c.args.position _ _ s.card_row_most_in_bounds _ _ c.put_field-a.ensures }

pub returns : goal.returns
returns c =
    let s = c.requires in
    card_row_put c.args.f.now.based.now.ruled.declared.table.bytes.now c.args.f.now.based.now.ruled.ruled c.args.i s.i_bound c.args.f.now.words.now c.args.position _ _ s.card_row_most_in_bounds _ _ c.put_field-a.ensures _ _ _ c.put_sample.ensures
