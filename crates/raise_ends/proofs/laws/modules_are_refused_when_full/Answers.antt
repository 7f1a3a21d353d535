use Rattle.raise_ends.proofs.Full.{modules_are_refused_when_full}
use Rattle.raise_ends.proofs.laws.modules_are_refused_when_full.Goals as goal

pub returns : goal.returns
returns c = modules_are_refused_when_full c.calls_are_turns.ensures c.calls_are_made.ensures c.terminate_runs.ensures
