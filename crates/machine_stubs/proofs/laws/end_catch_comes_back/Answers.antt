use Rattle.machine_stubs.proofs.ComesBack.{end_catch_comes_back}
use Rattle.machine_stubs.proofs.laws.end_catch_comes_back.Goals as goal

pub returns : goal.returns
returns c = end_catch_comes_back
