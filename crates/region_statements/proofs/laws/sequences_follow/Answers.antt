use Rattle.region_simulation.proofs.Flowing.{does_then}
use Rattle.region_statements.proofs.laws.sequences_follow.Goals as goal

pub returns : goal.returns
returns c = does_then
