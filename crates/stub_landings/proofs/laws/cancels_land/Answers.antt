use Rattle.stub_landings.proofs.Landings.{cancels_land}
use Rattle.stub_landings.proofs.laws.cancels_land.Goals as goal

pub returns : goal.returns
returns c = cancels_land c.calls_are_turns.ensures c.calls_are_made.ensures c.values_are_computed.ensures c.forced_agree.ensures
