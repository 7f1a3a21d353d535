use Rattle.stub_landings.proofs.Landings.{rethrows_land}
use Rattle.stub_landings.proofs.laws.rethrows_land.Goals as goal

pub returns : goal.returns
returns c = rethrows_land c.calls_are_turns.ensures c.calls_are_made.ensures c.raises_agree.ensures
