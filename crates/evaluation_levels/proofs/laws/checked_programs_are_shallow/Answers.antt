use Rattle.evaluation_levels.proofs.Shallow.{checked_programs_are_shallow}
use Rattle.evaluation_levels.proofs.laws.checked_programs_are_shallow.Goals as goal

pub returns : goal.returns
returns c = checked_programs_are_shallow c.checked_classes_fit.ensures c.frames_of_checked_fit.ensures
