use Rattle.operation_premises.proofs.Coded.{code_is_static}
use Rattle.operation_premises.proofs.laws.code_is_static.Goals as goal

pub returns : goal.returns
returns c = code_is_static
