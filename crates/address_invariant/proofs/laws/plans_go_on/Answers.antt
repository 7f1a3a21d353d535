use Rattle.address_invariant.proofs.Plans.{plans_go_on}
use Rattle.address_invariant.proofs.laws.plans_go_on.Goals as goal

pub returns : goal.returns
returns c = plans_go_on
