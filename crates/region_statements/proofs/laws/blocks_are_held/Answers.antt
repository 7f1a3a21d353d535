use Rattle.region_simulation.proofs.Flowing.{does_inside}
use Rattle.region_statements.proofs.laws.blocks_are_held.Goals as goal

pub returns : goal.returns
returns c = does_inside
