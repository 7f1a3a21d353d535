use Rattle.linear_forms.proofs.Pads.{pads_stand}
use Rattle.linear_forms.proofs.laws.pads_stand.Goals as goal

pub returns : goal.returns
returns c = pads_stand
