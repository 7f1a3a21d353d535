use Rattle.linear_forms.proofs.Standing.{functions_stand}
use Rattle.linear_forms.proofs.laws.functions_stand.Goals as goal

pub returns : goal.returns
returns c = functions_stand
