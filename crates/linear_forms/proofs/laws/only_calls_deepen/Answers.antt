use Rattle.linear_forms.proofs.Deepening.{only_calls_deepen}
use Rattle.linear_forms.proofs.laws.only_calls_deepen.Goals as goal

pub returns : goal.returns
returns c = only_calls_deepen
