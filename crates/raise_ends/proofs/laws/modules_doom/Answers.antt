use Rattle.raise_ends.proofs.Modules.{modules_doom}
use Rattle.raise_ends.proofs.laws.modules_doom.Goals as goal

pub returns : goal.returns
returns c = modules_doom c.calls_are_turns.ensures c.calls_are_made.ensures c.terminate_runs.ensures c.raises_agree.ensures
