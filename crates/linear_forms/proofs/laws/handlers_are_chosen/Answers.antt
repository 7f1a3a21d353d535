use Rattle.linear_forms.proofs.Choosing.{handlers_are_chosen}
use Rattle.linear_forms.proofs.laws.handlers_are_chosen.Goals as goal

pub returns : goal.returns
returns c = handlers_are_chosen
