use Rattle.handler_choice.proofs.Programs.{checked_guards_are_said}
use Rattle.handler_choice.proofs.laws.checked_guards_are_said.Goals as goal

pub returns : goal.returns
returns c = checked_guards_are_said c.checked_regions_are_well_formed.ensures.well_formed
