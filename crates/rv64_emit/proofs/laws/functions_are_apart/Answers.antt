use Rattle.rv64_emit.proofs.Apart.{functions_are_apart}
use Rattle.rv64_emit.proofs.laws.functions_are_apart.Goals as goal

pub returns : goal.returns
returns c = functions_are_apart
