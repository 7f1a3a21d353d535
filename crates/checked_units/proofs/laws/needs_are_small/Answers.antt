use Rattle.checked_units.proofs.Frames.{needs_are_small}
use Rattle.checked_units.proofs.laws.needs_are_small.Goals as goal

pub returns : goal.returns
returns c = needs_are_small
