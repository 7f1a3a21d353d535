use Rattle.operation_premises.proofs.Asked.{all_is_asked}
use Rattle.operation_premises.proofs.laws.all_is_asked.Goals as goal

pub returns : goal.returns
returns c = all_is_asked
