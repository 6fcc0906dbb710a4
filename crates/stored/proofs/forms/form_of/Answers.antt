-- The form stands where every form has it.
use Rattle.model.specs.Forms.{form_in}
use Rattle.stored.proofs.forms.form_of.Goals as goal

pub returns : goal.returns
unfolding form_in
returns c = c.two_at.ensures.0
