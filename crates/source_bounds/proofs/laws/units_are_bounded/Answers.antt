use Rattle.source_bounds.proofs.Bounds.{units_are_bounded}
use Rattle.source_bounds.proofs.laws.units_are_bounded.Goals as goal

pub returns : goal.returns
returns c = units_are_bounded c.frames_of_checked_fit.ensures
