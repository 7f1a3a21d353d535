use Rattle.linear_forms.proofs.Meaning.{filters_are_right}
use Rattle.linear_forms.proofs.laws.filters_mean.Goals as goal

pub returns : goal.returns
returns c = filters_are_right
