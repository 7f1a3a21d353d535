use Rattle.linear_invariant.proofs.Steps.{leads_stand}
use Rattle.linear_invariant.proofs.laws.leads_stand.Goals as goal

pub returns : goal.returns
returns c = leads_stand
