use Rattle.linear_meaning.proofs.Costs.{costs_fit}
use Rattle.linear_meaning.proofs.laws.checked_costs_fit.Goals as goal

pub returns : goal.returns
returns c = record { fit = costs_fit }
