use Rattle.region_formed.proofs.Numbers.{counts_fit}
use Rattle.region_formed.proofs.laws.checked_counts_fit.Goals as goal

pub returns : goal.returns
returns c = record { fit = counts_fit }
