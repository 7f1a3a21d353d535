use Rattle.rv64_emit.proofs.MovesFit.{moves_fit}
use Rattle.rv64_emit.proofs.laws.moves_fit.Goals as goal

pub returns : goal.returns
returns c = moves_fit
