use Rattle.stub_landings.proofs.Own.{stub_stacks_stand}
use Rattle.stub_landings.proofs.laws.stub_stacks_stand.Goals as goal

pub returns : goal.returns
returns c = stub_stacks_stand
