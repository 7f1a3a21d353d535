use Rattle.stub_landings.proofs.Landings.{modules_land}
use Rattle.stub_landings.proofs.laws.modules_land.Goals as goal

pub returns : goal.returns
returns c = modules_land c.calls_are_turns.ensures c.calls_are_made.ensures c.raises_agree.ensures
