use Rattle.raise_simulation.proofs.Walking.{calls_are_walked}
use Rattle.raise_simulation.proofs.laws.calls_are_walked.Goals as goal

pub returns : goal.returns
returns c = calls_are_walked
