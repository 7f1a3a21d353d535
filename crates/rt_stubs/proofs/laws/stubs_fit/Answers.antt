use Rattle.rt_stubs.proofs.StubLaws.{stubs_fit}
use Rattle.rt_stubs.proofs.laws.stubs_fit.Goals as goal

pub returns : goal.returns
returns c = stubs_fit
