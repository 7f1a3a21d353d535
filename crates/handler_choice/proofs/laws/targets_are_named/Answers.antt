use Rattle.handler_choice.proofs.Searching.{targets_are_named}
use Rattle.handler_choice.proofs.laws.targets_are_named.Goals as goal

pub returns : goal.returns
returns c = targets_are_named
