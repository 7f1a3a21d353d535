use Rattle.region_meaning.proofs.Forms.{forms_are_same}
use Rattle.region_meaning.proofs.laws.forms_are_same.Goals as goal

pub returns : goal.returns
returns c = forms_are_same c.caught_list_follows.ensures
