use Rattle.machine_raises.proofs.Pads.{pads_run}
use Rattle.machine_raises.proofs.laws.pads_run.Goals as goal

pub returns : goal.returns
returns c = pads_run
