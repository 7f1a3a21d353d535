use Rattle.rt_stubs.proofs.StubLaws.{stubs_end}
use Rattle.rt_stubs.proofs.laws.stubs_end.Goals as goal

pub returns : goal.returns
returns c = stubs_end
