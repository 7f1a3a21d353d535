use Rattle.source_bounds.proofs.Types.{bases_are_there}
use Rattle.source_bounds.proofs.laws.bases_are_there.Goals as goal

pub returns : goal.returns
returns c = bases_are_there c.checked_bases_stand_before.ensures.before
