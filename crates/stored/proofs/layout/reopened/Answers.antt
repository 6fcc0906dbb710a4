-- The header of a head that has passed says where the parts begin.
use Rattle.stored.proofs.Reading.{starts_told}
use Rattle.stored.proofs.layout.reopened.Goals as goal

pub returns : goal.returns
returns c =
    record {
      sized = c.requires.sized;
      form_is = c.form_of-form.ensures;
      counts = c.counts_of-counts.ensures;
      starts = starts_told c.requires c.header_of-h.ensures;
    }
