use Rattle.linear_forms.proofs.Sizing.{code_is_short}
use Rattle.linear_forms.proofs.laws.code_is_short.Goals as goal

pub returns : goal.returns
returns c = code_is_short
