use Rattle.stub_landings.proofs.Landings.{throws_land}
use Rattle.stub_landings.proofs.laws.throws_land.Goals as goal

pub returns : goal.returns
returns c = throws_land c.calls_are_turns.ensures c.calls_are_made.ensures c.raises_agree.ensures
