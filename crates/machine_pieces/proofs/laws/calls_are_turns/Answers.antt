use Rattle.machine_pieces.proofs.Calling.{calls_are_turns}
use Rattle.machine_pieces.proofs.laws.calls_are_turns.Goals as goal

pub returns : goal.returns
returns c = calls_are_turns
