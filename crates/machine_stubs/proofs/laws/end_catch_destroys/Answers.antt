use Rattle.machine_stubs.proofs.Destroys.{end_catch_destroys}
use Rattle.machine_stubs.proofs.laws.end_catch_destroys.Goals as goal

pub returns : goal.returns
returns c = end_catch_destroys
