use Rattle.handler_choice.proofs.Own.{own_guards_are_said}
use Rattle.handler_choice.proofs.laws.own_guards_are_said.Goals as goal

pub returns : goal.returns
returns c = own_guards_are_said
