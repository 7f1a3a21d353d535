use Rattle.address_bounds.proofs.Reaching.{code_reaches_inside}
use Rattle.address_bounds.proofs.laws.code_reaches_inside.Goals as goal

pub returns : goal.returns
returns c = code_reaches_inside
