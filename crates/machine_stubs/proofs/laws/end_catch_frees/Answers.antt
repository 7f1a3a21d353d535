use Rattle.machine_stubs.proofs.Frees.{end_catch_frees}
use Rattle.machine_stubs.proofs.laws.end_catch_frees.Goals as goal

pub returns : goal.returns
returns c = end_catch_frees
