use Rattle.handler_choice.proofs.Open.{checked_targets_are_named}
use Rattle.handler_choice.proofs.laws.checked_targets_are_named.Goals as goal

pub returns : goal.returns
returns c = checked_targets_are_named c.checked_guards_are_said.ensures c.own_guards_are_said.ensures c.targets_are_named.ensures
