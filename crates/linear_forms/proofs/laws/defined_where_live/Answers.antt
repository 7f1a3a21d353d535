use Rattle.linear_forms.proofs.Defined.{defined_where_live}
use Rattle.linear_forms.proofs.laws.defined_where_live.Goals as goal

pub returns : goal.returns
returns c = defined_where_live
