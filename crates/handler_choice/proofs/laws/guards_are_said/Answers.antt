use Rattle.handler_choice.proofs.Programs.{guards_are_said}
use Rattle.handler_choice.proofs.laws.guards_are_said.Goals as goal

pub returns : goal.returns
returns c = guards_are_said
