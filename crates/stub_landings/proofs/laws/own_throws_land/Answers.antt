use Rattle.stub_landings.proofs.OwnRaises.{own_throws_land}
use Rattle.stub_landings.proofs.laws.own_throws_land.Goals as goal

pub returns : goal.returns
returns c = own_throws_land c.calls_are_made.ensures c.raises_agree.ensures
